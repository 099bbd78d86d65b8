-- The deltas of a value that is the same whole number at every place: that number, and zeros.
use Rattle.std.proofs.Common.{◌≡◌, ℕ, zero, suc, ◌+◌, ◌<◌, List, []}
use Rattle.std.proofs.Common.{◌∷◌}
use Rattle.std.proofs.Common.{◌++◌, refl, sym, ap, ◌∙◌, arith, length, map, ℤ, pos, ◌+ℤ◌}
use Rattle.std.proofs.Common.{◌-ℤ◌, ◌*ℤ◌, subst}
use Rattle.std.proofs.lemmas.Int.{ints}
use Rattle.std.specs.List.{range_with_len}
use Rattle.fixed_math.specs.declared.F2Dot14.{F2Dot14}
use Rattle.fixed_math.specs.declared.Fixed.{Fixed}
use Rattle.fixed_math.specs.FixedPoint.{half_up, product}
use Rattle.fixed_math.specs.FloorLaws.{half_up_exact}
use Rattle.font_ir.specs.declared.variation.Region.{Region}
use Rattle.variation_model.specs.Places.{ArePlaces, place_at, zero_number, of_rank, order_of, ranks}
use Rattle.variation_model.specs.Supports.{least, greatest, supports_after, supports_of}
use Rattle.variation_model.specs.Supports.{widest_from}
use Rattle.variation_model.specs.Supports.{widest_side}
use Rattle.variation_model.specs.Scalar.{axis_scalar, scalar_from, scalar_of}
use Rattle.variation_model.specs.Deltas.{deltas_after, deltas_of, value_at_place, value_of}
use Rattle.font_tables.proofs.ZeroFirst.{AreZeros, each_within, zero_first}

-- ---- the region that is everywhere

abbrev Side : Type 0
Side = F2Dot14 × F2Dot14 × F2Dot14

zero_side : (low high : ℤ) (v : F2Dot14) → v.0 ≡ pos 0
    → widest_side low v high ≡ (zero_number, zero_number, zero_number)
zero_side low high v e = by v.0 e
  where
    by : (z : ℤ) → z ≡ pos 0 → widest_side low (record { 0 = z }) high
        ≡ (zero_number, zero_number, zero_number)
    by z e = ap (λ (y : ℤ). widest_side low (record { 0 = y }) high) e

whole_there : (places : List (List F2Dot14)) (axis : ℕ) (place at : List F2Dot14) → AreZeros place
    → scalar_from (pos 65536) (widest_from places axis place) at ≡ pos 65536
whole_there places axis [] at zeros = refl
whole_there places axis (v ∷ vs) [] zeros = refl
whole_there places axis (v ∷ vs) (n ∷ ns) zeros =
    ap (λ (side : Side). scalar_from (product (pos 65536) (axis_scalar side n))
    (widest_from places (axis + 1) vs) ns)
    (zero_side (least places axis) (greatest places axis) v zeros.0)
    ∙ whole_there places (axis + 1) vs ns zeros.1

-- ---- deltas behind the first

abbrev pub AreNothing : List ℤ → Type 0
AreNothing [] = Unit {0}
AreNothing (delta ∷ deltas) = (delta ≡ pos 0) × AreNothing deltas

abbrev AreAll : ℤ → List ℤ → Type 0
AreAll v [] = Unit {0}
AreAll v (value ∷ values) = (value ≡ v) × AreAll v values

one_more : (deltas : List ℤ) (delta : ℤ) → AreNothing deltas → delta ≡ pos 0
    → AreNothing (deltas ++ delta ∷ [])
one_more [] delta nothing e = (e, tt)
one_more (d ∷ deltas) delta nothing e = (nothing.0, one_more deltas delta nothing.1 e)

no_part : (s : ℤ) → (s *ℤ pos 0) +ℤ pos 0 ≡ pos 0
no_part s = omega (arith, ints)

nothing_given : (regions : List Region) (deltas : List ℤ) (at : List F2Dot14) → AreNothing deltas
    → value_of regions deltas at ≡ pos 0
nothing_given [] deltas at nothing = refl
nothing_given (region ∷ regions) [] at nothing = refl
nothing_given (region ∷ regions) (delta ∷ deltas) at nothing =
    ap (λ (d : ℤ). (scalar_of region.sides at *ℤ d) +ℤ value_of regions deltas at) nothing.0
    ∙ ap (λ (v : ℤ). (scalar_of region.sides at *ℤ pos 0) +ℤ v)
    (nothing_given regions deltas at nothing.1)
    ∙ no_part (scalar_of region.sides at)

no_rest : (z : ℤ) → z +ℤ pos 0 ≡ z
no_rest z = omega (arith, ints)

no_difference : (z : ℤ) → z -ℤ z ≡ pos 0
no_difference z = omega (arith, ints)

module _ (region : Region) (regions : List Region)
    (whole : (at : List F2Dot14) → scalar_of region.sides at ≡ pos 65536) (d : ℤ) where
  all_given : (deltas : List ℤ) (at : List F2Dot14) → AreNothing deltas
      → value_of (region ∷ regions) (d ∷ deltas) at ≡ pos 65536 *ℤ d
  all_given deltas at nothing =
      ap (λ (s : ℤ). (s *ℤ d) +ℤ value_of regions deltas at) (whole at)
      ∙ ap (λ (v : ℤ). (pos 65536 *ℤ d) +ℤ v) (nothing_given regions deltas at nothing)
      ∙ no_rest (pos 65536 *ℤ d)

  lacks_nothing : (deltas : List ℤ) (at : List F2Dot14) (value : ℤ) → AreNothing deltas
      → value ≡ pos 65536 *ℤ d → half_up (value -ℤ value_of (region ∷ regions) (d ∷ deltas) at)
      ≡ pos 0
  lacks_nothing deltas at value nothing e =
      ap (λ (v : ℤ). half_up (value -ℤ v)) (all_given deltas at nothing)
      ∙ ap (λ (v : ℤ). half_up (v -ℤ (pos 65536 *ℤ d))) e
      ∙ ap half_up (no_difference (pos 65536 *ℤ d))

  nothing_behind : (deltas : List ℤ) (places : List (List F2Dot14)) (values : List ℤ)
      → AreNothing deltas → AreAll (pos 65536 *ℤ d) values
      → AreNothing (deltas_after (region ∷ regions) (d ∷ deltas) places values)
  nothing_behind deltas [] values nothing all = tt
  nothing_behind deltas (place ∷ places) [] nothing all = tt
  nothing_behind deltas (place ∷ places) (value ∷ values) nothing all =
      let delta = half_up (value -ℤ value_of (region ∷ regions) (d ∷ deltas) place) in
      let zero_delta : delta ≡ pos 0 = lacks_nothing deltas place value nothing all.0 in (
        zero_delta,
        nothing_behind (deltas ++ delta ∷ []) places values
            (one_more deltas delta nothing zero_delta) all.1,
      )

-- ---- all deltas

-- a number, and zeros
abbrev pub IsStill : ℤ → List ℤ → Type 0
IsStill d [] = Unit {0}
IsStill d (delta ∷ deltas) = (delta ≡ d) × AreNothing deltas

-- numbers in 16.16 that all stand for one whole number
abbrev pub AreUnits : ℤ → List Fixed → Type 0
AreUnits d [] = Unit {0}
AreUnits d (value ∷ values) = (value.0 ≡ pos 65536 *ℤ d) × AreUnits d values

units_at : (d : ℤ) (values : List Fixed) (i : ℕ) → i < length values → AreUnits d values
    → value_at_place values i ≡ pos 65536 *ℤ d
units_at d [] i h units = absurd (omega (arith, h))
units_at d (value ∷ values) zero h units = units.0
units_at d (value ∷ values) (suc i) h units = units_at d values i (omega (arith, h)) units.1

turned : (d : ℤ) → (pos 65536 *ℤ d) -ℤ pos 0 ≡ d *ℤ pos 65536
turned d = omega (arith, ints)

module _ (places : List (List F2Dot14)) (are : ArePlaces places) (d : ℤ) (values : List Fixed)
    (long : length values ≡ length places) (units : AreUnits d values) where
  abbrev chosen : ℕ → ℕ
  chosen k = of_rank (ranks places) k

  value_is : (k : ℕ) → value_at_place values (chosen k) ≡ pos 65536 *ℤ d
  value_is k = units_at d values (chosen k) (omega (arith, long, each_within places are k)) units

  values_are : (ks : List ℕ) → AreAll (pos 65536 *ℤ d)
      (map (value_at_place values) (map chosen ks))
  values_are [] = tt
  values_are (k ∷ ks) = (value_is k, values_are ks)

  abbrev first_place : List F2Dot14
  first_place = place_at places (chosen 0)

  abbrev everywhere : Region
  everywhere = record { sides = widest_from places 0 first_place }

  first_delta : half_up (value_at_place values (chosen 0) -ℤ pos 0) ≡ d
  first_delta = ap (λ (v : ℤ). half_up (v -ℤ pos 0)) (value_is 0)
      ∙ ap half_up (turned d) ∙ half_up_exact d

  -- the deltas, where these are the numbers of the places behind the first
  still_over : (ks : List ℕ) → IsStill d (deltas_after
      (supports_after places [] (map (place_at places) (map chosen (0 ∷ ks)))) []
      (map (place_at places) (map chosen (0 ∷ ks)))
      (map (value_at_place values) (map chosen (0 ∷ ks))))
  still_over ks =
      let regions = supports_after places (first_place ∷ []) (map (place_at places)
      (map chosen ks)) in
      let others = map (place_at places) (map chosen ks) in
      let behind = map (value_at_place values) (map chosen ks) in
      let whole : (at : List F2Dot14) → scalar_of everywhere.sides at ≡ pos 65536
      = λ at. whole_there places 0 first_place at (zero_first places are) in (
        first_delta,
        subst (λ (delta : ℤ). AreNothing
            (deltas_after (everywhere ∷ regions) (delta ∷ []) others behind)) (sym first_delta)
            (nothing_behind everywhere regions whole d [] others behind tt (values_are ks)),
      )

  still_after : (n : ℕ) → 0 < n → IsStill d (deltas_after
      (supports_after places [] (map (place_at places) (map chosen (range_with_len 0 n)))) []
      (map (place_at places) (map chosen (range_with_len 0 n)))
      (map (value_at_place values) (map chosen (range_with_len 0 n))))
  still_after zero h = absurd (omega (arith, h))
  still_after (suc n) h = still_over (range_with_len 1 n)

  pub still : IsStill d (deltas_of places values)
  unfolding deltas_of supports_of order_of
  still = still_after (length places) (omega (arith, are.has_zero.1))
