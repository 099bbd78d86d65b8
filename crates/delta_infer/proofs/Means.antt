-- When a quotient in 16.16, rounded down, is a whole number: the rest that is left is less than a
-- 65536th of the divisor.
use Rattle.std.proofs.Common.{◌≡◌, ℕ, zero, suc, ◌+◌, ◌*◌, ◌<◌, ◌≤◌, Bool, true, false, arith, refl}
use Rattle.std.proofs.Common.{ap, sym, subst, ◌∙◌, ℤ, pos, negsuc, neg_ℤ, ◌+ℤ◌, ◌-ℤ◌, ◌*ℤ◌, ◌≤ℤ◌}
use Rattle.std.proofs.Common.{◌<ℤ◌, FitsSigned, to_z, of_z}
use Rattle.std.proofs.Math.Nat.{mul-le-mul_left, mul_assoc}
use Rattle.std.proofs.lemmas.Int.{ints, by_lt_z}
use Rattle.std.proofs.lemmas.Bool.Decides.{Decides-int_eq, Decides-like, same_from_decides}
use Rattle.std.specs.Prelude.{unsigned_abs}
use Rattle.std.specs.Int.{w64}
use Rattle.std.specs.Ordering.{int_eq}
use lib.Signed.{lt_z}
use borrow.Author.Differences.{up, down}
use Rattle.fixed_math.specs.FixedPoint.{floor_quotient}

floor-parts : (n : ℤ) (d : ℕ) → 0 < d → (up (floor_quotient n (pos d)) * d
    + down n ≤ down (floor_quotient n (pos d)) * d + up n)
    × (down (floor_quotient n (pos d)) * d + up n < up (floor_quotient n (pos d)) * d + down n + d)
floor-parts (pos a) d h = omega arith
floor-parts (negsuc a) d h = omega arith

floor_at_most : (n : ℤ) (d : ℕ) → 0 < d → (floor_quotient n (pos d) *ℤ pos d) ≤ℤ n
floor_at_most n d h = let parts = floor-parts n d h in omega (arith, ints)

floor_above : (n : ℤ) (d : ℕ) → 0 < d → n <ℤ (floor_quotient n (pos d) *ℤ pos d +ℤ pos d)
floor_above n d h = let parts = floor-parts n d h in omega (arith, ints)

times_below_next : (a b : ℤ) (d : ℕ) → (a *ℤ pos d) <ℤ (b *ℤ pos d +ℤ pos d) → a ≤ℤ b
times_below_next a b d below =
    by_lt_z b a
    (λ less.
    let next : up b + down a + 1 ≤ up a + down b = omega (arith, ints) in
    let apart : (up (b *ℤ pos d) + down (a *ℤ pos d)) + d ≤ up (a *ℤ pos d) + down (b *ℤ pos d) =
    omega (arith, ints, mul-le-mul_left d next) in
    absurd (omega (arith, ints)))
    (λ at_most. at_most)

floor_unique : (n q : ℤ) (d : ℕ) → 0 < d → (q *ℤ pos d) ≤ℤ n → n <ℤ (q *ℤ pos d +ℤ pos d)
    → floor_quotient n (pos d) ≡ q
floor_unique n q d h low high =
    let its_low = floor_at_most n d h in
    let its_high = floor_above n d h in
    let at_most = times_below_next (floor_quotient n (pos d)) q d (omega (arith, ints)) in
    let at_least = times_below_next q (floor_quotient n (pos d)) d (omega (arith, ints)) in
    omega (arith, ints)

-- the quotient is the delta exactly where its bounds hold
equal-true : (x y : ℤ) → x ≡ y → int_eq x y ≡ true
equal-true x y e = (Decides-int_eq x y).1 e

unequal : (x y : ℤ) → (x ≡ y → ⊥) → int_eq x y ≡ false
unequal x y apart =
    elim (int_eq x y) as (λ b. int_eq x y ≡ b → b ≡ false) [
      | true ↦ λ e. absurd (apart ((Decides-int_eq x y).0 e))
      | false ↦ λ e. refl
    ] refl

negative_right : (m n : ℕ) → (pos m *ℤ neg_ℤ (pos n)) ≡ neg_ℤ (pos (m * n))
negative_right m zero = let none : m * 0 ≡ 0 = omega arith
    in ap pos none ∙ ap (λ k. neg_ℤ (pos k)) (sym none)
negative_right m (suc n) = refl

negative_left : (m n : ℕ) → (neg_ℤ (pos m) *ℤ pos n) ≡ neg_ℤ (pos (m * n))
negative_left zero n = let none : 0 * n ≡ 0 = omega arith
    in ap pos none ∙ ap (λ k. neg_ℤ (pos k)) (sym none)
negative_left (suc m) n = refl

scaled : (z : ℤ) (d : ℕ) → ((pos 65536 *ℤ z) *ℤ pos d) ≡ (pos 65536 *ℤ (z *ℤ pos d))
scaled (pos a) d = ap pos (mul_assoc 65536 a d)
scaled (negsuc a) d =
    negative_left (65536 * suc a) d ∙ ap (λ k. neg_ℤ (pos k)) (mul_assoc 65536 (suc a) d)
    ∙ sym (negative_right 65536 (suc a * d))

scale_low : (n t : ℤ) → pos 0 ≤ℤ (n -ℤ t) → (pos 65536 *ℤ t) ≤ℤ (pos 65536 *ℤ n)
scale_low n t h = omega (arith, ints)

scale_high : (n t : ℤ) (d : ℕ) → ((n -ℤ t) *ℤ pos 65536) <ℤ pos d
    → (pos 65536 *ℤ n) <ℤ (pos 65536 *ℤ t +ℤ pos d)
scale_high n t d h = omega (arith, ints)

back_low : (n t : ℤ) → (pos 65536 *ℤ t) ≤ℤ (pos 65536 *ℤ n) → pos 0 ≤ℤ (n -ℤ t)
back_low n t h = omega (arith, ints)

back_high : (n t : ℤ) (d : ℕ) → (pos 65536 *ℤ n) <ℤ (pos 65536 *ℤ t +ℤ pos d)
    → ((n -ℤ t) *ℤ pos 65536) <ℤ pos d
back_high n t d h = omega (arith, ints)

is_quotient : (n z : ℤ) (d : ℕ) → 0 < d → pos 0 ≤ℤ (n -ℤ (z *ℤ pos d))
    → ((n -ℤ (z *ℤ pos d)) *ℤ pos 65536) <ℤ pos d
    → floor_quotient (pos 65536 *ℤ n) (pos d) ≡ (pos 65536 *ℤ z)
is_quotient n z d some low high =
    floor_unique (pos 65536 *ℤ n) (pos 65536 *ℤ z) d some
    (let P : ℤ → Type 0 = λ t. t ≤ℤ (pos 65536 *ℤ n)
    in subst P (sym (scaled z d)) (scale_low n (z *ℤ pos d) low))
    (let P : ℤ → Type 0 = λ t. (pos 65536 *ℤ n) <ℤ (t +ℤ pos d)
    in subst P (sym (scaled z d)) (scale_high n (z *ℤ pos d) d high))

-- the bounds that a quotient has
low_of : (n z : ℤ) (d : ℕ) → 0 < d → floor_quotient (pos 65536 *ℤ n) (pos d) ≡ (pos 65536 *ℤ z)
    → pos 0 ≤ℤ (n -ℤ (z *ℤ pos d))
low_of n z d some e =
    let P : ℤ → Type 0 = λ q. (q *ℤ pos d) ≤ℤ (pos 65536 *ℤ n) in
    let Q : ℤ → Type 0 = λ t. t ≤ℤ (pos 65536 *ℤ n) in
    back_low n (z *ℤ pos d) (subst Q (scaled z d)
    (subst P e (floor_at_most (pos 65536 *ℤ n) d some)))

high_of : (n z : ℤ) (d : ℕ) → 0 < d → floor_quotient (pos 65536 *ℤ n) (pos d) ≡ (pos 65536 *ℤ z)
    → ((n -ℤ (z *ℤ pos d)) *ℤ pos 65536) <ℤ pos d
high_of n z d some e =
    let P : ℤ → Type 0 = λ q. (pos 65536 *ℤ n) <ℤ (q *ℤ pos d +ℤ pos d) in
    let Q : ℤ → Type 0 = λ t. (pos 65536 *ℤ n) <ℤ (t +ℤ pos d) in
    back_high n (z *ℤ pos d) d (subst Q (scaled z d)
    (subst P e (floor_above (pos 65536 *ℤ n) d some)))

abbrev pub test : ℤ → ℤ → ℤ → Bool
test n w z = int_eq (floor_quotient (pos 65536 *ℤ n) w) (pos 65536 *ℤ z)

not_both : (r : ℤ) → r <ℤ pos 0 → pos 0 ≤ℤ r → ⊥
not_both r a b = omega (arith, ints)

not_less : (a b : ℤ) → b ≤ℤ a → a <ℤ b → ⊥
not_less a b h k = omega (arith, ints)

pub too_low : (n w z : ℤ) → pos 0 <ℤ w → (n -ℤ (z *ℤ w)) <ℤ pos 0 → test n w z ≡ false
too_low n (pos d) z some low =
    unequal (floor_quotient (pos 65536 *ℤ n) (pos d)) (pos 65536 *ℤ z)
    (λ e. not_both (n -ℤ (z *ℤ pos d)) low (low_of n z d (omega (arith, ints)) e))
too_low n (negsuc d) z some low = absurd (omega (arith, ints))

far : (r : ℤ) (d : ℕ) → pos 65536 ≤ℤ r → pos d ≤ℤ pos 4294967295 → pos d ≤ℤ (r *ℤ pos 65536)
far r d h k = omega (arith, ints)

pub too_high : (n w z : ℤ) → pos 0 <ℤ w → w ≤ℤ pos 4294967295 → pos 65536 ≤ℤ (n -ℤ (z *ℤ w))
    → test n w z ≡ false
too_high n (pos d) z some narrow high =
    unequal (floor_quotient (pos 65536 *ℤ n) (pos d)) (pos 65536 *ℤ z)
    (λ e. not_less ((n -ℤ (z *ℤ pos d)) *ℤ pos 65536) (pos d)
    (far (n -ℤ (z *ℤ pos d)) d high narrow) (high_of n z d (omega (arith, ints)) e))
too_high n (negsuc d) z some narrow high = absurd (omega (arith, ints))

is_less : (a b : ℤ) → a <ℤ b → lt_z a b ≡ true
is_less a b h = grind (arith, ints)

is_no_less : (a b : ℤ) → b ≤ℤ a → lt_z a b ≡ false
is_no_less a b h = grind (arith, ints)

pub by_rest : (n w z : ℤ) → pos 0 <ℤ w → pos 0 ≤ℤ (n -ℤ (z *ℤ w))
    → lt_z ((n -ℤ (z *ℤ w)) *ℤ pos 65536) w ≡ test n w z
by_rest n (pos d) z some low =
    let rest = n -ℤ (z *ℤ pos d) in
    by_lt_z (rest *ℤ pos 65536) (pos d)
    (λ less. is_less (rest *ℤ pos 65536) (pos d) less
    ∙ sym (equal-true (floor_quotient (pos 65536 *ℤ n) (pos d)) (pos 65536 *ℤ z)
    (is_quotient n z d (omega (arith, ints)) low less)))
    (λ more. is_no_less (rest *ℤ pos 65536) (pos d) more
    ∙ sym (unequal (floor_quotient (pos 65536 *ℤ n) (pos d)) (pos 65536 *ℤ z)
    (λ e. not_less (rest *ℤ pos 65536) (pos d) more (high_of n z d (omega (arith, ints)) e))))
by_rest n (negsuc d) z some low = absurd (omega (arith, ints))

unscale : (a b : ℤ) → (pos 65536 *ℤ a) ≡ (pos 65536 *ℤ b) → a ≡ b
unscale a b e = omega (arith, ints)

-- numbers of 16 bits are the same where their multiples are
pub same_multiple : (a b : ℤ) → int_eq (pos 65536 *ℤ a) (pos 65536 *ℤ b) ≡ int_eq a b
same_multiple a b =
    same_from_decides (int_eq (pos 65536 *ℤ a) (pos 65536 *ℤ b)) (int_eq a b)
    (Decides-like (int_eq (pos 65536 *ℤ a) (pos 65536 *ℤ b)) (unscale a b)
    (ap (λ z. pos 65536 *ℤ z)) (Decides-int_eq (pos 65536 *ℤ a) (pos 65536 *ℤ b)))
    (Decides-int_eq a b)

-- a small number times 65536 fits
pub small_fits : (z : ℤ) → pos 0 ≤ℤ z → z <ℤ pos 65536 → FitsSigned w64 (z *ℤ pos 65536)
small_fits z low high = omega (arith, ints)

-- a difference of two small numbers went through 64 bits unchanged
pub inner_difference : (n r : ℤ) → unsigned_abs n ≤ 281474976645120
    → unsigned_abs r ≤ 140737488322560 → to_z w64
    (of_z w64 (to_z w64 (of_z w64 n) -ℤ to_z w64 (of_z w64 r))) ≡ (n -ℤ r)
inner_difference n r a b = omega (arith, ints)
