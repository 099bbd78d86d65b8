use Rattle.std.proofs.Common.{◌≡◌, ◌++◌, drop}
use Rattle.style_tables.specs.AxisValues.{instance_values_from}
use Rattle.style_tables.proofs.axis_values.push_instance_values.Given as goal

abbrev pub invariant-loop-number : goal.invariant-loop-number
invariant-loop-number l =
    l.values.items ++ instance_values_from l.header l.users l.number (drop l.number l.instances)
    ≡ l.fn.values.items ++ instance_values_from l.header l.users 0 l.instances
