-- Scalars are from 0 to 1, in 16.16.
use Rattle.std.proofs.Common.{◌≡◌, ℕ, ◌+◌, ◌<◌, Bool, true, false, cond, ◌||◌, List, [], ◌∷◌, refl}
use Rattle.std.proofs.Common.{sym, ◌∙◌, arith, length, get_or, drop, ℤ, pos, ◌-ℤ◌, ◌≤ℤ◌, ◌<ℤ◌}
use Rattle.std.proofs.Common.{FitsSigned}
use Rattle.variation_model.specs.Places.{zero_number}
use Rattle.variation_model.proofs.Steps.{step_both, zero_side}
use Rattle.std.proofs.lemmas.Int.{ints}
use Rattle.std.specs.Prelude.{int_lt, int_le}
use Rattle.std.specs.Int.{w32}
use Rattle.std.specs.Ordering.{int_eq}
use Rattle.fixed_math.specs.declared.F2Dot14.{F2Dot14}
use Rattle.fixed_math.specs.FixedPoint.{product, ratio_of}
use Rattle.fixed_math.specs.FloorLaws.{ratio_not_negative, ratio_at_most_one}
use Rattle.fixed_math.specs.ProductLaws.{product_not_negative, product_no_greater}
use Rattle.variation_model.specs.Scalar.{axis_scalar, scalar_from, scalar_of}

-- from 0 to 1
pub record IsScalar (z : ℤ) : Type 0 where
  pub low : pos 0 ≤ℤ z
  pub high : z ≤ℤ pos 65536

pub one_IsScalar : IsScalar (pos 65536)
one_IsScalar = record { low = omega (arith, ints); high = omega (arith, ints) }

pub zero_IsScalar : IsScalar (pos 0)
zero_IsScalar = record { low = omega (arith, ints); high = omega (arith, ints) }

pub ratio_IsScalar : (n d : ℤ) → pos 0 ≤ℤ n → n ≤ℤ d → pos 0 <ℤ d → IsScalar (ratio_of n d)
ratio_IsScalar n d h k l = record {
  low = ratio_not_negative n d h l;
  high
      = ratio_at_most_one n d h k l;
}

pub product_IsScalar : (a b : ℤ) → IsScalar a → IsScalar b → IsScalar (product a b)
product_IsScalar a b f g =
    let no_greater : product a b ≤ℤ a = product_no_greater a b f.low g.low g.high in
    let high : a ≤ℤ pos 65536 = f.high in
    record { low = product_not_negative a b f.low g.low; high = omega (arith, ints) }

pub IsScalar-fits : (z : ℤ) → IsScalar z → FitsSigned w32 z
IsScalar-fits z f = let low = f.low in let high = f.high in omega (arith, ints)

cond_IsScalar : (b : Bool) (x y : ℤ) → (b ≡ true → IsScalar x) → (b ≡ false → IsScalar y)
    → IsScalar (cond b x y)
cond_IsScalar true x y f g = f refl
cond_IsScalar false x y f g = g refl

rises : (s p e v : ℤ) → (int_eq p (pos 0) || int_eq v p) ≡ false
    → (int_le v s || int_le e v) ≡ false → int_lt v p ≡ true → IsScalar (ratio_of (v -ℤ s) (p -ℤ s))
rises s p e v f g h =
    let low : pos 0 ≤ℤ (v -ℤ s) = grind (arith, ints) in
    let high : (v -ℤ s) ≤ℤ (p -ℤ s) = grind (arith, ints) in
    let positive : pos 0 <ℤ (p -ℤ s) = grind (arith, ints) in
    ratio_IsScalar (v -ℤ s) (p -ℤ s) low high positive

falls : (s p e v : ℤ) → (int_eq p (pos 0) || int_eq v p) ≡ false
    → (int_le v s || int_le e v) ≡ false → int_lt v p ≡ false
    → IsScalar (ratio_of (e -ℤ v) (e -ℤ p))
falls s p e v f g h =
    let low : pos 0 ≤ℤ (e -ℤ v) = grind (arith, ints) in
    let high : (e -ℤ v) ≤ℤ (e -ℤ p) = grind (arith, ints) in
    let positive : pos 0 <ℤ (e -ℤ p) = grind (arith, ints) in
    ratio_IsScalar (e -ℤ v) (e -ℤ p) low high positive

pub axis_scalar-IsScalar : (side : F2Dot14 × F2Dot14 × F2Dot14) (v : F2Dot14)
    → IsScalar (axis_scalar side v)
axis_scalar-IsScalar side v =
    cond_IsScalar (int_eq side.1.0 (pos 0) || int_eq v.0 side.1.0) _ _
    (λ _. one_IsScalar)
    (λ f. cond_IsScalar (int_le v.0 side.0.0 || int_le side.2.0 v.0) _ _
    (λ _. zero_IsScalar)
    (λ g. cond_IsScalar (int_lt v.0 side.1.0) _ _ (rises side.0.0 side.1.0 side.2.0 v.0 f g)
    (falls side.0.0 side.1.0 side.2.0 v.0 f g)))

pub scalar_from-IsScalar : (before : ℤ) (sides : List (F2Dot14 × F2Dot14 × F2Dot14))
    (place : List F2Dot14) → IsScalar before → IsScalar (scalar_from before sides place)
scalar_from-IsScalar before [] vs f = f
scalar_from-IsScalar before (side ∷ sides) [] f = f
scalar_from-IsScalar before (side ∷ sides) (v ∷ vs) f =
    scalar_from-IsScalar (product before (axis_scalar side v)) sides vs
    (product_IsScalar before (axis_scalar side v) f (axis_scalar-IsScalar side v))

pub scalar_of-IsScalar : (sides : List (F2Dot14 × F2Dot14 × F2Dot14)) (place : List F2Dot14)
    → IsScalar (scalar_of sides place)
scalar_of-IsScalar sides place = scalar_from-IsScalar (pos 65536) sides place one_IsScalar

-- what is left where a number is above the peak
pub falling : (s p e v : F2Dot14) → int_eq p.0 (pos 0) ≡ false → int_eq v.0 p.0 ≡ false
    → int_le v.0 s.0 ≡ false → int_le e.0 v.0 ≡ false → int_lt v.0 p.0 ≡ false
    → axis_scalar (s, p, e) v ≡ ratio_of (e.0 -ℤ v.0) (e.0 -ℤ p.0)
falling s p e v f g h k l = rw (f, g, h, k, l)

-- a loop's step: the product of the next factor fits, and is what the rest begins from
pub scalar_fits : (sides : List (F2Dot14 × F2Dot14 × F2Dot14)) (place : List F2Dot14) (i : ℕ)
    (before on : ℤ) → IsScalar before → on
    ≡ axis_scalar (get_or sides i zero_side) (get_or place i zero_number)
    → FitsSigned w32 (product before on)
scalar_fits sides place i before on f e =
    rw e (IsScalar-fits (product before (axis_scalar (get_or sides i zero_side)
    (get_or place i zero_number)))
    (product_IsScalar before (axis_scalar (get_or sides i zero_side) (get_or place i zero_number)) f
    (axis_scalar-IsScalar (get_or sides i zero_side) (get_or place i zero_number))))

pub scalar_more : (sides : List (F2Dot14 × F2Dot14 × F2Dot14)) (place : List F2Dot14) (i : ℕ)
    (before on now total : ℤ) → i < length sides → i < length place
    → IsScalar before × (scalar_from before (drop i sides) (drop i place) ≡ total)
    → on ≡ axis_scalar (get_or sides i zero_side) (get_or place i zero_number)
    → now ≡ product before on → IsScalar now
    × (scalar_from now (drop (i + 1) sides) (drop (i + 1) place) ≡ total)
scalar_more sides place i before on now total h k f e g =
    let factor = axis_scalar (get_or sides i zero_side) (get_or place i zero_number) in
    let within = product_IsScalar before factor f.0
    (axis_scalar-IsScalar (get_or sides i zero_side) (get_or place i zero_number)) in
    rw (g, e) (
      within,
      sym (step_both (scalar_from before) sides place i zero_side zero_number h k)
          ∙ f.1,
    )

-- a scalar times that of one more axis
pub with_axis : (before on : ℤ) (side : F2Dot14 × F2Dot14 × F2Dot14) (v : F2Dot14)
    → IsScalar before → on ≡ axis_scalar side v → IsScalar (product before on)
with_axis before on side v f e = rw e
    (product_IsScalar before (axis_scalar side v) f (axis_scalar-IsScalar side v))
