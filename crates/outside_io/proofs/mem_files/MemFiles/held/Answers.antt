use Rattle.std.proofs.Common.{sym, ap}
use Rattle.outside_io.specs.Memory.{Memory}
use Rattle.outside_io.proofs.SlotLemmas.{bytes-at}
use Rattle.outside_io.proofs.mem_files.MemFiles.held.Goals as goal

pub returns : goal.returns
returns c =
    let inside = c.self.inside in
    let shows = ap (λ (m : Memory). m.paths) c.self.view_is in
    let bytes = bytes-at inside.slots.items inside.used c.args.path.now c.args.self.now.paths shows
    c.in_ok-place.place c.index.result.now (sym c.in_ok-place.ensures.number) c.index.ensures in
    rw c.as_slice.ensures.value (sym bytes)
