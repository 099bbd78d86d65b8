use Rattle.std.proofs.Common.{◌≡◌, ◌++◌, drop}
use Rattle.metrics_tables.specs.Walks.{entries_of}
use Rattle.metrics_tables.proofs.nesting.push_entries.Given as goal

abbrev pub invariant-loop-base : goal.invariant-loop-base
invariant-loop-base l =
    l.stack.items ++ entries_of l.depths (drop l.base-index l.bases)
    ≡ l.initial.stack.items ++ entries_of l.depths l.bases
