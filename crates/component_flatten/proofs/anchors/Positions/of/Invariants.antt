use Rattle.std.proofs.Common.{◌≤◌, drop, length}
use Rattle.component_flatten.specs.Judging.{Finds}
use Rattle.component_flatten.proofs.anchors.Positions.of.Given as goal

abbrev pub invariant-loop-left : goal.invariant-loop-left
invariant-loop-left l = record {
  within : l.left ≤ length l.anchors;
  finds : Finds l.by_name.entries (drop l.left l.anchors);
}

abbrev pub decreases-loop-left : goal.decreases-loop-left
decreases-loop-left l = l.left
