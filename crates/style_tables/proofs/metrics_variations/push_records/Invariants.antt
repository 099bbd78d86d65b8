use Rattle.std.proofs.Common.{◌≡◌, ◌++◌, drop}
use Rattle.style_tables.specs.Mvar.{value_records}
use Rattle.style_tables.proofs.metrics_variations.push_records.Given as goal

abbrev pub invariant-loop-row : goal.invariant-loop-row
invariant-loop-row l = l.table.items ++ value_records l.row (drop l.row l.metrics)
    ≡ l.fn.table.items ++ value_records 0 l.metrics
