use Rattle.std.proofs.Common.{◌≡◌, ◌++◌, drop}
use Rattle.metrics_tables.specs.Tables.{metric_records}
use Rattle.metrics_tables.proofs.tables.hmtx.Given as goal

abbrev pub invariant-loop-gid : goal.invariant-loop-gid
invariant-loop-gid l = l.table.items ++ metric_records (drop l.gid l.advances) (drop l.gid l.bounds)
    ≡ metric_records l.advances l.bounds
