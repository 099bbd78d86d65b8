use Rattle.std.proofs.Common.{◌≡◌, drop}
use Rattle.font_ir.specs.Extremes.{least}
use Rattle.metrics_tables.specs.Tables.{right_bearings}
use Rattle.metrics_tables.proofs.LeastLemmas.{least_onto}
use Rattle.metrics_tables.proofs.bounds.least_right_bearing.Given as goal

abbrev pub invariant-loop-gid : goal.invariant-loop-gid
invariant-loop-gid l = least_onto l.so_far
    (right_bearings (drop l.gid l.advances) (drop l.gid l.bounds))
    ≡ least (right_bearings l.advances l.bounds)
