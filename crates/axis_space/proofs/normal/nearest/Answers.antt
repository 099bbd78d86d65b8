use Rattle.std.proofs.Common.{arith, ◌∙◌, pos, ◌*ℤ◌, ◌+ℤ◌, FitsSigned}
use Rattle.std.proofs.lemmas.Int.{ints, to_z-of_z}
use Rattle.std.specs.Int.{w128}
use Rattle.axis_space.proofs.normal.nearest.Goals as goal

pub returns : goal.returns
returns c =
    let numerator : FitsSigned w128 c.args.n = c.ranges.n in
    let denominator : FitsSigned w128 c.args.d = c.ranges.d in
    let twice : FitsSigned w128 (pos 2 *ℤ c.args.n) = omega (arith, ints) in
    let sum : FitsSigned w128 (pos 2 *ℤ c.args.n +ℤ c.args.d) = omega (arith, ints) in
    let whole : FitsSigned w128 (pos 2 *ℤ c.args.d) = omega (arith, ints) in
    let own : FitsSigned w128 c.div_euclid.result = omega (arith, ints) in
    to_z-of_z w128 c.div_euclid.result own ∙ simp to_z-of_z at c.div_euclid.ensures
