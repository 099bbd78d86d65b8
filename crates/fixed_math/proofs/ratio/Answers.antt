use Rattle.std.proofs.Common.{arith, ◌≡◌, FitsSigned, pos, ◌≤ℤ◌}
use Rattle.std.proofs.lemmas.Int.{ints, to_z-of_z}
use Rattle.std.specs.Int.{w32}
use Rattle.fixed_math.specs.FixedPoint.{ratio_of}
use Rattle.fixed_math.proofs.CastLemmas.{narrowed}
use Rattle.fixed_math.specs.FloorLaws.{ratio_not_negative, ratio_at_most_one}
use Rattle.fixed_math.proofs.ratio.Goals as goal

pub returns : goal.returns
returns c =
    let e : c.div_euclid.result ≡ ratio_of c.args.n c.args.d = grind (arith, to_z-of_z) in
    let low : pos 0 ≤ℤ ratio_of c.args.n c.args.d =
    ratio_not_negative c.args.n c.args.d c.requires.not_negative c.requires.positive in
    let high : ratio_of c.args.n c.args.d ≤ℤ pos 65536 =
    ratio_at_most_one c.args.n c.args.d c.requires.not_negative c.requires.at_most_one
    c.requires.positive in
    let fits : FitsSigned w32 (ratio_of c.args.n c.args.d) = omega (arith, ints) in
    rw e (narrowed (ratio_of c.args.n c.args.d) fits)
