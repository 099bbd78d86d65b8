use Rattle.std.proofs.Common.{◌≡◌, ◌++◌, drop}
use Rattle.name_tables.specs.Fvar.{axis_records}
use Rattle.name_tables.proofs.axes.push_axes.Given as goal

abbrev pub invariant-loop-number : goal.invariant-loop-number
invariant-loop-number l =
    l.table.items ++ axis_records l.header l.number (drop l.number l.axes)
    ≡ l.fn.table.items ++ axis_records l.header 0 l.axes
