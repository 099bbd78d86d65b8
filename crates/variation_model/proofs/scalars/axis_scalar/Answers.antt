use Rattle.std.proofs.Common.{◌≡◌, arith, ◌-ℤ◌, sym, ◌∙◌}
use Rattle.std.proofs.lemmas.Int.{ints, to_z-of_z}
use Rattle.fixed_math.specs.FixedPoint.{ratio_of}
use Rattle.variation_model.proofs.ScalarLemmas.{falling}
use Rattle.variation_model.proofs.scalars.axis_scalar.Goals as goal

pub returns-else-v-peak-2 : goal.returns-else-v-peak-2
returns-else-v-peak-2 c =
    let e = c.args.side.2 in let p = c.args.side.1 in let s = c.args.side.0 in let v = c.args.v in
    let value = falling s p e v (grind (arith, ints)) (grind (arith, ints)) (grind (arith, ints))
    (grind (arith, ints)) (grind (arith, ints)) in
    let answered : c.ratio-else-v-peak-2.result.0
    ≡ ratio_of (e.0 -ℤ v.0) (e.0 -ℤ p.0) = grind (arith, to_z-of_z) in
    answered ∙ sym value
