use Rattle.std.proofs.Common.{◌+◌, length, arith}
use Rattle.font_ir.specs.declared.header.Instance.{Instance}
use Rattle.name_tables.proofs.Stores.{goes_on}
use Rattle.name_tables.proofs.names.push_instance_names.Goals as goal

pub loop-number-preserved : goal.loop-number-preserved
loop-number-preserved c =
    let one = rw (c.len.ensures, c.as_str.ensures) at c.in_ok-push.ensures in
    goes_on (λ (item : Instance). item.name) (256 + length c.args.header.now.axes)
    c.as_slice-instances.result.now c.loop-number.number
    c.index-instances-number.result c.args.names.now c.loop-number.names c.push.new.self
    (omega arith)
    c.index-instances-number.is c.loop-number.invariant one
