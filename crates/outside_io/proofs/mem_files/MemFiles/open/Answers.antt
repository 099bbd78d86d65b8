use Rattle.std.proofs.Common.{◌≡◌, ◌+◌, ◌<◌, [], length, map, take, None, refl, sym, ap, ◌∙◌, arith}
use Rattle.std.proofs.Math.ListN.{set}
use Rattle.std.proofs.lemmas.Grind.{common_steps}
use Rattle.outside_io.specs.Memory.{Memory, with_bytes, number_of}
use Rattle.outside_io.specs.Slots.{shown}
use Rattle.outside_io.proofs.SlotLemmas.{changed-at, new-at, new-number, kept-number, with_paths}
use Rattle.outside_io.specs.contracts.mem_files.MemFiles.{the_view}
use Rattle.outside_io.proofs.mem_files.MemFiles.open.Goals as goal

-- the path stands in this place, which is emptied
emptied : (c : goal.After-self-1) → map shown
    (take c.self.inside.used (set c.self.inside.slots.items c.in-Some.place
    (record { name = c.index_mut.result.now.name; bytes = c.clear.new.self })))
    ≡ with_bytes c.args.self.now.paths c.args.path.now []
emptied c =
    let inside = c.self.inside in
    let shows = ap (λ (m : Memory). m.paths) c.self.view_is in
    changed-at inside.slots.items inside.used c.args.path.now c.args.self.now.paths shows
    c.in-Some.place c.index_mut.result.now
    (record { name = c.index_mut.result.now.name; bytes = c.clear.new.self })
    (sym c.in-Some.ensures.number) c.index_mut.ensures.value refl
    ∙ ap (with_bytes c.args.self.now.paths c.args.path.now) c.clear.ensures.items

-- the path is new
is_new : (c : goal.After-self-3-1) → number_of c.args.self.now.paths c.args.path.now ≡ None
is_new c = sym c.in_default.ensures.number

-- and there is a place for it
spare : (c : goal.After-self-3-1) → c.self.inside.used < length c.self.inside.slots.items
spare c = grind (arith, common_steps)

-- which it has
added : (c : goal.After-self-3-1) → map shown
    (take (c.self.inside.used + 1) (set c.self.inside.slots.items c.self.inside.used
    c.name_slot.new.slot)) ≡ with_bytes c.args.self.now.paths c.args.path.now []
added c =
    let inside = c.self.inside in
    let shows = ap (λ (m : Memory). m.paths) c.self.view_is in
    new-at inside.slots.items inside.used c.args.path.now c.args.self.now.paths shows
    c.name_slot.new.slot (is_new c) (spare c) c.name_slot.ensures.name
    ∙ ap (with_bytes c.args.self.now.paths c.args.path.now) c.name_slot.ensures.bytes

pub returns-in-Some-clause-after : goal.returns-in-Some-clause-after
returns-in-Some-clause-after c = ap (with_paths (the_view c.self.inside)) (emptied c)
    ∙ ap (λ (m : Memory). with_paths m (with_bytes c.args.self.now.paths c.args.path.now []))
    c.self.view_is

pub returns-in-Some-clause-number : goal.returns-in-Some-clause-number
returns-in-Some-clause-number c =
    ap (λ paths. number_of paths c.args.path.now) (emptied c)
    ∙ kept-number c.args.self.now.paths c.args.path.now c.in-Some.place []
    (sym c.in-Some.ensures.number)

pub returns-clause-after : goal.returns-clause-after
returns-clause-after c = ap (with_paths (the_view c.self.inside)) (added c)
    ∙ ap (λ (m : Memory). with_paths m (with_bytes c.args.self.now.paths c.args.path.now []))
    c.self.view_is

pub returns-clause-number : goal.returns-clause-number
returns-clause-number c =
    let shows = ap (λ (m : Memory). m.paths) c.self.view_is in
    ap (λ paths. number_of paths c.args.path.now) (added c)
    ∙ new-number c.self.inside.slots.items c.self.inside.used c.args.path.now c.args.self.now.paths
    shows [] (is_new c) (let h = spare c in omega arith)
