use Rattle.std.proofs.Common.{◌≡◌, ◌++◌, drop}
use Rattle.style_tables.specs.Stat.{axis_records}
use Rattle.style_tables.proofs.style_attributes.push_axes.Given as goal

abbrev pub invariant-loop-number : goal.invariant-loop-number
invariant-loop-number l = l.table.items ++ axis_records l.number (drop l.number l.axes)
    ≡ l.fn.table.items ++ axis_records 0 l.axes
