use Rattle.std.proofs.Common.{arith}
use Rattle.font_ir.specs.declared.header.Axis.{Axis}
use Rattle.name_tables.proofs.Stores.{goes_on}
use Rattle.name_tables.proofs.names.push_axis_names.Goals as goal

pub loop-number-preserved : goal.loop-number-preserved
loop-number-preserved c =
    let one = rw c.as_str.ensures at c.in_ok-push.ensures in
    goes_on (λ (item : Axis). item.name) (256) c.as_slice-axes.result.now c.loop-number.number
    c.index-axes-number.result c.args.names.now c.loop-number.names c.push.new.self
    (omega arith)
    c.index-axes-number.is c.loop-number.invariant one
