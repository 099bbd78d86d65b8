use Rattle.std.proofs.Common.{◌≤◌, length}
use Rattle.table_bench.proofs.metrics.order_of.Given as goal

abbrev pub invariant-loop-gid : goal.invariant-loop-gid
invariant-loop-gid l = length l.order.names ≤ l.gid
