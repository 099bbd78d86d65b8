use Rattle.std.proofs.Common.{◌≡◌, map, take}
use Rattle.metrics_tables.specs.RegionIndexes.{row_by}
use Rattle.metrics_tables.proofs.changes.all_rows.Given as goal

abbrev pub invariant-loop-changes : goal.invariant-loop-changes
invariant-loop-changes l = l.rows.items ≡ map (row_by l.count) (take l.changes-index l.all)
