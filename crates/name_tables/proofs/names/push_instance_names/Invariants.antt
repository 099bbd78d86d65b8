use Rattle.std.proofs.Common.{◌+◌, length}
use Rattle.font_ir.specs.declared.header.Instance.{Instance}
use Rattle.name_tables.proofs.Stores.{Goes}
use Rattle.name_tables.proofs.names.push_instance_names.Given as goal

abbrev pub invariant-loop-number : goal.invariant-loop-number
invariant-loop-number l =
    Goes (λ (item : Instance). item.name) (256 + length l.header.axes) l.instances l.number
    l.fn.names l.names
