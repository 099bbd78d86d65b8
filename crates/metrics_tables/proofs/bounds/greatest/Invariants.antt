use Rattle.std.proofs.Common.{◌≡◌, drop}
use Rattle.font_ir.specs.Extremes.{greatest}
use Rattle.metrics_tables.specs.Tables.{side, boxes_of}
use Rattle.metrics_tables.proofs.LeastLemmas.{greatest_onto}
use Rattle.metrics_tables.proofs.bounds.greatest.Given as goal

abbrev pub invariant-loop-sides : goal.invariant-loop-sides
invariant-loop-sides l = greatest_onto l.so_far (side l.k (boxes_of (drop l.sides-index l.bounds)))
    ≡ greatest (side l.k (boxes_of l.bounds))
