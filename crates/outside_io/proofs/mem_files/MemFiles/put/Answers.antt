use Rattle.std.proofs.Common.{◌<◌, [], refl, ap, ◌∙◌, arith}
use Rattle.outside_io.specs.Memory.{Memory, with_bytes}
use Rattle.outside_io.specs.declared.mem_files.Slot.{Slot}
use Rattle.outside_io.proofs.Paths.{with_bytes-twice}
use Rattle.outside_io.proofs.SlotLemmas.{changed-at, number-used, with_paths}
use Rattle.outside_io.specs.contracts.mem_files.MemFiles.{the_view}
use Rattle.outside_io.proofs.mem_files.MemFiles.put.Goals as goal

pub index_mut-requires : goal.index_mut-requires
index_mut-requires c =
    let inside = c.self-2.inside in
    let shows = ap (λ (m : Memory). m.paths) c.self-2.view_is in
    let used : c.open-place.result < inside.used
    = number-used inside.slots.items inside.used c.args.path.now c.open-place.new.self.paths
    shows c.open-place.result c.open-place.ensures.number in
    omega (arith, used, c.self-2.invariant.0)

pub returns-clause-ok : goal.returns-clause-ok
returns-clause-ok c =
    let inside = c.self-2.inside in
    let path = c.args.path.now in
    let shows = ap (λ (m : Memory). m.paths) c.self-2.view_is in
    let emptied = ap (λ (m : Memory). m.paths) c.open-place.ensures.after in
    let slot : Slot = record { name = c.index_mut.result.now.name; bytes = c.in_ok-held.held } in
    ap (with_paths (the_view inside))
    (changed-at inside.slots.items inside.used path c.open-place.new.self.paths shows
    c.open-place.result c.index_mut.result.now slot c.open-place.ensures.number
    c.index_mut.ensures.value refl
    ∙ ap (λ paths. with_bytes paths path c.in_ok-held.held.items) emptied
    ∙ with_bytes-twice c.args.self.now.paths path [] c.in_ok-held.held.items
    ∙ ap (with_bytes c.args.self.now.paths path) c.in_ok-held.ensures.items)
    ∙ ap (λ (m : Memory). with_paths m (with_bytes c.args.self.now.paths path c.args.bytes.now))
    (c.self-2.view_is ∙ c.open-place.ensures.after)
