use Rattle.std.proofs.Common.{◌∙◌, ap, sym, arith, FitsSigned}
use Rattle.std.proofs.lemmas.Int.{ints, to_z-of_z}
use Rattle.std.specs.Int.{w64}
use Rattle.source_axes.specs.AxisValues.{rounded}
use Rattle.source_axes.proofs.Billionths.{coordinate_is}
use Rattle.source_axes.proofs.coordinates.coordinate.Goals as goal

pub returns-then-is_in_range : goal.returns-then-is_in_range
returns-then-is_in_range c =
    let fits : FitsSigned w64 c.in_billionths.result
    = omega (arith, ints, c.in_billionths.ensures.low, c.in_billionths.ensures.high) in
    coordinate_is c.args.tree.now c.args.number c.in-Some.decimal c.nearest.result c.in-Some.ensures
    (sym c.is_in_range.ensures ∙ c.if-is_in_range.true)
    ((simp to_z-of_z at c.nearest.ensures) ∙ ap rounded c.in_billionths.ensures.value)
