use Rattle.std.proofs.Common.{◌≡◌, ◌++◌, drop}
use Rattle.name_tables.specs.Avar.{segment_maps}
use Rattle.name_tables.proofs.axis_maps.push_maps.Given as goal

abbrev pub invariant-loop-number : goal.invariant-loop-number
invariant-loop-number l =
    l.table.items ++ segment_maps l.header l.number (drop l.number l.axes)
    ≡ l.fn.table.items ++ segment_maps l.header 0 l.axes
