use Rattle.std.proofs.Common.{◌≡◌, ◌-◌, [], ◌++◌, length, take, unwrap_or, refl, sym, ap, ◌∙◌}
use Rattle.std.proofs.Common.{arith}
use Rattle.std.proofs.lemmas.Grind.{common_steps}
use Rattle.std.proofs.lemmas.List.{length-take-le}
use Rattle.outside_io.specs.Memory.{Memory, number_of, with_bytes, counted}
use Rattle.outside_io.specs.declared.mem_files.Slot.{Slot}
use Rattle.outside_io.specs.contracts.mem_files.MemFiles.{the_view}
use Rattle.outside_io.proofs.SlotLemmas.{changed-at, bytes-at, with_paths_and_room}
use Rattle.outside_io.proofs.mem_files.MemFilesFiles.append.Goals as goal

-- the slot has the bytes that were taken behind its own
added : (c : goal.After-self-2-1) → c.extend_from_slice.new.self.items
    ≡ c.index_mut-slot.result.now.bytes.items ++ take c.min-count.result c.args.bytes.now
added c = grind (arith, common_steps)

-- they are as many as were answered
counted_bytes : (c : goal.After-self-2-1)
    → length (take c.min-count.result c.args.bytes.now) ≡ c.min-count.result
counted_bytes c = length-take-le _ _ (omega arith)

pub returns-clause-ok : goal.returns-clause-ok
returns-clause-ok c =
    let inside = c.self.inside in
    let now = c.args.self.now in
    let path = c.args.path.now in
    let taken = take c.min-count.result c.args.bytes.now in
    let opened : the_view inside ≡ counted now = c.self.view_is
    ∙ c.is_next_listed-is_listed.ensures.after in
    let shows = ap (λ (m : Memory). m.paths) opened in
    let n = sym (c.in-Some.ensures.number ∙ ap (λ (m : Memory). number_of m.paths path)
    c.is_next_listed-is_listed.ensures.after) in
    let here = bytes-at inside.slots.items inside.used path now.paths shows c.in-Some.number
    c.index_mut-slot.result.now n c.index_mut-slot.ensures.value in
    let slot : Slot = record {
      name = c.index_mut-slot.result.now.name;
      bytes
          = c.extend_from_slice.new.self;
    } in
    let paths = changed-at inside.slots.items inside.used path now.paths shows c.in-Some.number
    c.index_mut-slot.result.now slot n c.index_mut-slot.ensures.value refl
    ∙ ap (with_bytes now.paths path) (added c ∙ ap (λ o. unwrap_or o [] ++ taken) (sym here)) in
    let room = ap (λ (m : Memory). m.room - c.min-count.result) opened
    ∙ ap (λ k. now.room - k) (sym (counted_bytes c)) in
    (λ i. with_paths_and_room (opened i) (paths i) (room i))
