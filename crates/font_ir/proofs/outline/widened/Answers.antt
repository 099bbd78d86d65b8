use Rattle.std.proofs.Common.{arith}
use Rattle.std.proofs.lemmas.Int.{ints, clamps}
use Rattle.font_ir.specs.OutlineLaws.{widened_is}
use Rattle.font_ir.proofs.outline.widened.Goals as goal

pub returns-in-Some : goal.returns-in-Some
returns-in-Some c =
    let sides = c.in-Some.sides in
    widened_is c.args.bounds sides (c.args.point) _ _ _ _ c.in-Some.is
    (omega (arith, ints, clamps, c.min.ensures.value))
    (omega (arith, ints, clamps, c.min-in-Some.ensures.value))
    (omega (arith, ints, clamps, c.max.ensures.value))
    (omega (arith, ints, clamps, c.max-in-Some.ensures.value))
