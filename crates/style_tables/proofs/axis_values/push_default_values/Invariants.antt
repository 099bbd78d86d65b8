use Rattle.std.proofs.Common.{◌≡◌, ◌++◌, drop}
use Rattle.style_tables.specs.AxisValues.{default_values_from}
use Rattle.style_tables.proofs.axis_values.push_default_values.Given as goal

abbrev pub invariant-loop-number : goal.invariant-loop-number
invariant-loop-number l =
    l.values.items ++ default_values_from l.header l.number (drop l.number l.axes)
    ≡ l.fn.values.items ++ default_values_from l.header 0 l.axes
