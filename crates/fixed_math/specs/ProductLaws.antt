-- Products in 16.16: by one, by zero, and of numbers from 0 to 1.
use Rattle.std.proofs.Common.{◌≡◌, ◌≤◌, arith, ap, ◌∙◌, ℤ, pos, negsuc, ◌*ℤ◌, ◌≤ℤ◌}
use Rattle.std.proofs.Math.Nat.{mul-le-mul_left}
use Rattle.std.proofs.lemmas.Int.{ints}
use Rattle.fixed_math.specs.FixedPoint.{half_up, product}
use Rattle.fixed_math.specs.FloorLaws.{half_up_exact, half_up_monotone}

pub product_one_left : (z : ℤ) → product (pos 65536) z ≡ z
product_one_left z =
    let e : (pos 65536 *ℤ z) ≡ (z *ℤ pos 65536) = omega (arith, ints) in
    ap half_up e ∙ half_up_exact z

pub product_one_right : (z : ℤ) → product z (pos 65536) ≡ z
product_one_right z = half_up_exact z

pub product_zero_left : (z : ℤ) → product (pos 0) z ≡ pos 0
product_zero_left z =
    let e : (pos 0 *ℤ z) ≡ (pos 0 *ℤ pos 65536) = omega (arith, ints) in
    ap half_up e ∙ half_up_exact (pos 0)

pub product_zero_right : (z : ℤ) → product z (pos 0) ≡ pos 0
product_zero_right z =
    let e : (z *ℤ pos 0) ≡ (pos 0 *ℤ pos 65536) = omega (arith, ints) in
    ap half_up e ∙ half_up_exact (pos 0)

-- numbers that are not negative have no negative product, and a factor of at most 1 makes nothing
-- greater
pub product_not_negative : (a b : ℤ) → pos 0 ≤ℤ a → pos 0 ≤ℤ b → pos 0 ≤ℤ product a b
product_not_negative (pos a) (pos b) h k =
    let e : (pos 0 *ℤ pos 65536) ≤ℤ (pos a *ℤ pos b) = omega (arith, ints) in
    half_up_monotone (pos 0 *ℤ pos 65536) (pos a *ℤ pos b) e
product_not_negative (negsuc a) b h k = absurd (omega (arith, ints))
product_not_negative (pos a) (negsuc b) h k = absurd (omega (arith, ints))

pub product_no_greater : (a b : ℤ) → pos 0 ≤ℤ a → pos 0 ≤ℤ b → b ≤ℤ pos 65536 → product a b ≤ℤ a
product_no_greater (pos a) (pos b) h k l =
    let small : b ≤ 65536 = omega (arith, ints) in
    let e : (pos a *ℤ pos b) ≤ℤ (pos a *ℤ pos 65536) = omega (arith, ints, mul-le-mul_left a small)
    in
    let exact = half_up_exact (pos a) in
    let bound = half_up_monotone (pos a *ℤ pos b) (pos a *ℤ pos 65536) e in
    omega (arith, ints)
product_no_greater (negsuc a) b h k l = absurd (omega (arith, ints))
product_no_greater (pos a) (negsuc b) h k l = absurd (omega (arith, ints))
