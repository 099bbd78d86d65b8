-- What floors are: the bounds that make a quotient, that only one number meets them, and what that
-- gives of rounding.
use Rattle.std.proofs.Common.{◌≡◌, ℕ, ◌+◌, ◌*◌, ◌<◌, ◌≤◌, arith, ℤ, pos, negsuc, ◌+ℤ◌, ◌*ℤ◌, ◌≤ℤ◌}
use Rattle.std.proofs.Common.{◌<ℤ◌}
use Rattle.std.proofs.Math.Nat.{mul-le-mul_left}
use Rattle.std.proofs.lemmas.Int.{ints, by_lt_z}
use borrow.Author.Differences.{up, down}
use Rattle.fixed_math.specs.FixedPoint.{floor_quotient, half_up, ratio_of}

-- the quotient q has q * d at most n, and less than d below it
pub floor-parts : (n : ℤ) (d : ℕ) → 0 < d
    → (up (floor_quotient n (pos d)) * d + down n ≤ down (floor_quotient n (pos d)) * d + up n)
    × (down (floor_quotient n (pos d)) * d + up n < up (floor_quotient n (pos d)) * d + down n + d)
floor-parts (pos a) d h = omega arith
floor-parts (negsuc a) d h = omega arith

-- the same, in signed numbers
pub floor_at_most : (n : ℤ) (d : ℕ) → 0 < d → (floor_quotient n (pos d) *ℤ pos d) ≤ℤ n
floor_at_most n d h = let parts = floor-parts n d h in omega (arith, ints)

pub floor_above : (n : ℤ) (d : ℕ) → 0 < d → n <ℤ (floor_quotient n (pos d) *ℤ pos d +ℤ pos d)
floor_above n d h = let parts = floor-parts n d h in omega (arith, ints)

-- multiples keep the order
pub times_monotone : (a b : ℤ) (d : ℕ) → a ≤ℤ b → (a *ℤ pos d) ≤ℤ (b *ℤ pos d)
times_monotone a b d le =
    let parts : up a + down b ≤ up b + down a = omega (arith, ints) in
    omega (arith, ints, mul-le-mul_left d parts)

-- and a multiple that is less than one step above another is none of a greater number
pub times_below_next : (a b : ℤ) (d : ℕ) → (a *ℤ pos d) <ℤ (b *ℤ pos d +ℤ pos d) → a ≤ℤ b
times_below_next a b d below =
    by_lt_z b a
    (λ less.
    let next : up b + down a + 1 ≤ up a + down b = omega (arith, ints) in
    let apart : (up (b *ℤ pos d) + down (a *ℤ pos d)) + d ≤ up (a *ℤ pos d) + down (b *ℤ pos d) =
    omega (arith, ints, mul-le-mul_left d next) in
    absurd (omega (arith, ints)))
    (λ at_most. at_most)

-- a number that is not greater has no greater quotient
pub floor_monotone : (m n : ℤ) (d : ℕ) → 0 < d → m ≤ℤ n
    → floor_quotient m (pos d) ≤ℤ floor_quotient n (pos d)
floor_monotone m n d h le =
    let low = floor_at_most m d h in
    let high = floor_above n d h in
    times_below_next (floor_quotient m (pos d)) (floor_quotient n (pos d)) d (omega (arith, ints))

-- the bounds have one answer
pub floor_unique : (n q : ℤ) (d : ℕ) → 0 < d → (q *ℤ pos d) ≤ℤ n → n <ℤ (q *ℤ pos d +ℤ pos d)
    → floor_quotient n (pos d) ≡ q
floor_unique n q d h low high =
    let its_low = floor_at_most n d h in
    let its_high = floor_above n d h in
    let at_most = times_below_next (floor_quotient n (pos d)) q d (omega (arith, ints)) in
    let at_least = times_below_next q (floor_quotient n (pos d)) d (omega (arith, ints)) in
    omega (arith, ints)

-- twice the distance of half_up's answer from raw is at most one
pub half_up_low : (raw : ℤ) → (half_up raw *ℤ pos 65536) ≤ℤ (raw +ℤ pos 32768)
half_up_low raw = floor_at_most (raw +ℤ pos 32768) 65536 (omega arith)

pub half_up_high : (raw : ℤ) → raw <ℤ (half_up raw *ℤ pos 65536 +ℤ pos 32768)
half_up_high raw = let above = floor_above (raw +ℤ pos 32768) 65536 (omega arith)
    in omega (arith, ints)

pub half_up_monotone : (m n : ℤ) → m ≤ℤ n → half_up m ≤ℤ half_up n
half_up_monotone m n le = floor_monotone (m +ℤ pos 32768) (n +ℤ pos 32768) 65536 (omega arith)
    (omega (arith, ints))

-- a multiple of 65536 is no fraction
pub half_up_exact : (z : ℤ) → half_up (z *ℤ pos 65536) ≡ z
half_up_exact z = floor_unique (z *ℤ pos 65536 +ℤ pos 32768) z 65536 (omega arith)
    (omega (arith, ints)) (omega (arith, ints))

-- a ratio is from 0 to 1
pub ratio_not_negative : (n d : ℤ) → pos 0 ≤ℤ n → pos 0 <ℤ d → pos 0 ≤ℤ ratio_of n d
ratio_not_negative (pos n) (pos d) h k = omega (arith, ints)
ratio_not_negative (negsuc n) d h k = absurd (omega (arith, ints))
ratio_not_negative (pos n) (negsuc d) h k = absurd (omega (arith, ints))

pub ratio_at_most_one : (n d : ℤ) → pos 0 ≤ℤ n → n ≤ℤ d → pos 0 <ℤ d → ratio_of n d ≤ℤ pos 65536
ratio_at_most_one (pos n) (pos d) h k l =
    let positive : 0 < d = omega (arith, ints) in
    let below : (pos 65536 *ℤ pos n) <ℤ (pos 65536 *ℤ pos d +ℤ pos d) = omega (arith, ints) in
    let low = floor_at_most (pos 65536 *ℤ pos n) d positive in
    times_below_next (ratio_of (pos n) (pos d)) (pos 65536) d (omega (arith, ints))
ratio_at_most_one (negsuc n) d h k l = absurd (omega (arith, ints))
ratio_at_most_one (pos n) (negsuc d) h k l = absurd (omega (arith, ints))
