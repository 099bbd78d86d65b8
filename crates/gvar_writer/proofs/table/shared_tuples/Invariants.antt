use Rattle.std.proofs.Common.{◌≡◌, take}
use Rattle.gvar_writer.specs.Gvar.{shared_peaks}
use Rattle.gvar_writer.proofs.table.shared_tuples.Given as goal

abbrev pub invariant-loop-region : goal.invariant-loop-region
invariant-loop-region l = l.tuples.items ≡ shared_peaks (take l.region-index l.shared)
