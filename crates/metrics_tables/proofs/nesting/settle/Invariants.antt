use Rattle.metrics_tables.specs.Walks.{IsWalk, cost}
use Rattle.metrics_tables.proofs.nesting.settle.Given as goal

abbrev pub invariant-loop-step : goal.invariant-loop-step
invariant-loop-step l = IsWalk l.bases l.depths.items l.stack.items l.gid

abbrev pub decreases-loop-step : goal.decreases-loop-step
decreases-loop-step l = cost l.bases l.stack.items
