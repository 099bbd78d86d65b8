use Rattle.std.proofs.Common.{◌≡◌, drop}
use Rattle.font_ir.specs.Extremes.{least}
use Rattle.metrics_tables.specs.Tables.{side, boxes_of}
use Rattle.metrics_tables.proofs.LeastLemmas.{least_onto}
use Rattle.metrics_tables.proofs.bounds.least.Given as goal

abbrev pub invariant-loop-sides : goal.invariant-loop-sides
invariant-loop-sides l = least_onto l.so_far (side l.k (boxes_of (drop l.sides-index l.bounds)))
    ≡ least (side l.k (boxes_of l.bounds))
