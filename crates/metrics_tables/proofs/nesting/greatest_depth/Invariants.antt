use Rattle.std.proofs.Common.{◌≡◌, map}
use Rattle.std.specs.List.{range_with_len}
use Rattle.metrics_tables.specs.Comparisons.{greatest_count}
use Rattle.metrics_tables.specs.Nesting.{depth_of}
use Rattle.metrics_tables.specs.Walks.{AreDepths}
use Rattle.metrics_tables.proofs.nesting.greatest_depth.Given as goal

abbrev pub invariant-loop-gid : goal.invariant-loop-gid
invariant-loop-gid l = record {
  depths : AreDepths l.bases l.depths.items;
  greatest : l.so_far ≡ greatest_count (map (depth_of l.bases) (range_with_len 0 l.gid));
}
