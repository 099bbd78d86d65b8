use Rattle.std.proofs.Common.{◌≡◌, rules, zero, suc, ℤ, ◌≤ℤ◌, List, [], ◌∷◌, arith, subst, sym}
use Rattle.fixed_math.specs.declared.Fixed.{Fixed}
use Rattle.font_ir.specs.declared.header.Master.{Master}
use Rattle.font_ir.specs.declared.header.CoordinateScale.TheVariants.{Design}
use Rattle.font_ir.specs.Extremes.{least, greatest}
use Rattle.font_ir.specs.Coordinates.{coordinates_on}
use Rattle.axis_space.specs.Placing.{AreWithin}
use Rattle.model_tests.proofs.places.is_placed_at.Goals as goal

within_one : (masters : List Master) (v : Fixed) (low high : ℤ)
    → low ≡ least (coordinates_on Design 0 masters)
    → high ≡ greatest (coordinates_on Design 0 masters) → low ≤ℤ v.0 → v.0 ≤ℤ high
    → AreWithin masters (v ∷ [])
within_one masters v low high l h from to zero below = record {
  from_least = subst (λ z. z ≤ℤ v.0) l from;
  to_greatest = subst (λ z. v.0 ≤ℤ z) h to;
}
within_one masters v low high l h from to (suc k) below = absurd (omega (arith, below))

pub place_of-requires-clause-within : goal.place_of-requires-clause-within
place_of-requires-clause-within c =
    let s = c.scale_of-scale.ensures in
    let from : c.scale_of-scale.result.least.0 ≤ℤ c.args.design.0 = search rules in
    let to : c.args.design.0 ≤ℤ c.scale_of-scale.result.greatest.0 = search rules in
    subst (AreWithin c.args.masters.now) (sym c.as_slice.ensures)
    (within_one c.args.masters.now c.args.design c.scale_of-scale.result.least.0
    c.scale_of-scale.result.greatest.0 s.least s.greatest from to)
