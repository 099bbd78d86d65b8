use Rattle.std.proofs.Common.{◌≡◌, drop}
use Rattle.metrics_tables.specs.RegionIndexes.{row_with}
use Rattle.metrics_tables.proofs.changes.put_deltas.Given as goal

abbrev pub invariant-loop-change : goal.invariant-loop-change
invariant-loop-change l = row_with l.row (drop l.change-index l.changes)
    ≡ row_with l.initial.row l.changes
