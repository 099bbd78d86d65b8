use Rattle.std.proofs.Common.{◌≡◌, pos, replicate}
use Rattle.metrics_tables.proofs.changes.zeros.Given as goal

abbrev pub invariant-loop-region : goal.invariant-loop-region
invariant-loop-region l = l.row.items ≡ replicate l._region (pos 0)
