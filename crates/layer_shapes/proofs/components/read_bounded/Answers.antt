use Rattle.std.proofs.Common.{◌∙◌, sym}
use Rattle.source_values.specs.Values.{decimal_at}
use Rattle.layer_shapes.specs.LayerReading.{bounded_of}
use Rattle.layer_shapes.specs.DecimalLaws.{bounded_read, value_small}
use Rattle.layer_shapes.proofs.components.read_bounded.Goals as goal

pub returns-then-is_at_most-clause-number : goal.returns-then-is_at_most-clause-number
unfolding bounded_of
returns-then-is_at_most-clause-number c =
    let t = c.args.tree.now in
    let n = c.args.number in
    c.nearest.ensures
    ∙ bounded_read c.args.bound.size (decimal_at t n) c.in-Some.decimal c.requires
    (value_small t n) c.in-Some.ensures (sym c.is_at_most.ensures ∙ c.if-is_at_most.true)
