use Rattle.std.proofs.Common.{◌≡◌, max, drop}
use Rattle.metrics_tables.specs.Walks.{depth_over}
use Rattle.metrics_tables.proofs.nesting.depth_over.Given as goal

abbrev pub invariant-loop-base : goal.invariant-loop-base
invariant-loop-base l =
    max l.so_far (depth_over l.depths (drop l.base-index l.bases)) ≡ depth_over l.depths l.bases
