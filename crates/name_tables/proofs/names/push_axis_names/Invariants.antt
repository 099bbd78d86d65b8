use Rattle.font_ir.specs.declared.header.Axis.{Axis}
use Rattle.name_tables.proofs.Stores.{Goes}
use Rattle.name_tables.proofs.names.push_axis_names.Given as goal

abbrev pub invariant-loop-number : goal.invariant-loop-number
invariant-loop-number l =
    Goes (λ (item : Axis). item.name) (256) l.axes l.number l.fn.names l.names
