use Rattle.std.proofs.Common.{◌≡◌, None, replicate}
use Rattle.metrics_tables.proofs.nesting.no_depths.Given as goal

abbrev pub invariant-loop-gid : goal.invariant-loop-gid
invariant-loop-gid l = l.depths.items ≡ replicate l._gid None
