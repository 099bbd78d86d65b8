use Rattle.std.proofs.Common.{◌≡◌, ◌++◌, drop, length}
use Rattle.style_tables.specs.Stat.{value_offsets}
use Rattle.style_tables.proofs.style_attributes.push_offsets.Given as goal

abbrev pub invariant-loop-number : goal.invariant-loop-number
invariant-loop-number l =
    l.table.items ++ value_offsets (length l.values) l.number (drop l.number l.values)
    ≡ l.fn.table.items ++ value_offsets (length l.values) 0 l.values
