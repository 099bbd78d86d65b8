use Rattle.std.proofs.Common.{◌≡◌, ◌++◌, drop}
use Rattle.name_tables.specs.Fvar.{instance_records}
use Rattle.name_tables.proofs.instances.push_instances.Given as goal

abbrev pub invariant-loop-number : goal.invariant-loop-number
invariant-loop-number l =
    l.table.items ++ instance_records l.header l.number (drop l.number l.instances)
    ≡ l.fn.table.items ++ instance_records l.header 0 l.instances
