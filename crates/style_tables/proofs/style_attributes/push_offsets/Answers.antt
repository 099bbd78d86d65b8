use Rattle.std.proofs.Common.{length, ap, ◌∙◌, ◌++◌}
use Rattle.table_bytes.specs.DataTypes.{uint16}
use Rattle.std.specs.Prelude.{pos}
use Rattle.style_tables.proofs.Turns.{offsets_turn}
use Rattle.style_tables.proofs.style_attributes.push_offsets.Goals as goal

pub loop-number-preserved : goal.loop-number-preserved
loop-number-preserved c =
    let values = c.args.values.now in
    offsets_turn (length values) c.loop-number.number values
    (record { axis = 0; flags = 0; name = 0; user = record { 0 = pos 0 } })
    c.loop-number.table.items c.push_uint16.new.bytes.items _ c.loop-number-test.true
    (c.in_ok-push_uint16.ensures.bytes
    ∙ ap (λ n. c.loop-number.table.items ++ uint16 n) c.value_offset.ensures)
    c.loop-number.invariant
