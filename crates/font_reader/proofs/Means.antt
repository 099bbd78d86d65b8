-- The mean of two deltas is no greater than they can be.
use Rattle.std.proofs.Common.{◌≡◌, ℕ, ℤ, pos, negsuc, ◌+◌, ◌<◌, ◌≤◌, ◌+ℤ◌, ◌*ℤ◌, ◌<ℤ◌, ◌≤ℤ◌}
use Rattle.std.proofs.Common.{arith}
use Rattle.std.specs.Prelude.{unsigned_abs}
use Rattle.std.proofs.lemmas.Int.{ints}
use Rattle.fixed_math.specs.FixedPoint.{floor_quotient}
use Rattle.fixed_math.specs.FloorLaws.{times_monotone, floor_monotone, floor_unique}

-- a multiple over the width
exact : (m : ℤ) (w : ℕ) → 0 < w → floor_quotient (m *ℤ pos w) (pos w) ≡ m
exact m w h = floor_unique (m *ℤ pos w) m w h (omega (arith, ints)) (omega (arith, ints))

high_sum : (d e : ℤ) (p q : ℕ) → d ≤ℤ pos 32768 → e ≤ℤ pos 32768
    → (pos 65536 *ℤ ((d *ℤ pos q) +ℤ (e *ℤ pos p))) ≤ℤ (pos 2147483648 *ℤ pos (p + q))
high_sum d e p q h k =
    let f = times_monotone d (pos 32768) q h in
    let g = times_monotone e (pos 32768) p k in
    omega (arith, ints)

low_sum : (d e : ℤ) (p q : ℕ) → negsuc 32767 ≤ℤ d → negsuc 32767 ≤ℤ e
    → (negsuc 2147483647 *ℤ pos (p + q)) ≤ℤ (pos 65536 *ℤ ((d *ℤ pos q) +ℤ (e *ℤ pos p)))
low_sum d e p q h k =
    let f = times_monotone (negsuc 32767) d q h in
    let g = times_monotone (negsuc 32767) e p k in
    omega (arith, ints)

within : (z : ℤ) → z ≤ℤ pos 2147483648 → negsuc 2147483647 ≤ℤ z → unsigned_abs z ≤ 2147483648
within z h l = grind (arith, ints)

nat_mean : (d e : ℤ) (p q : ℕ) → 0 < p + q → negsuc 32767 ≤ℤ d → d ≤ℤ pos 32768
    → negsuc 32767 ≤ℤ e → e ≤ℤ pos 32768
    → unsigned_abs (floor_quotient (pos 65536 *ℤ ((d *ℤ pos q) +ℤ (e *ℤ pos p))) (pos (p + q)))
    ≤ 2147483648
nat_mean d e p q some dl dh el eh =
    let n : ℤ = pos 65536 *ℤ ((d *ℤ pos q) +ℤ (e *ℤ pos p)) in
    let w : ℕ = p + q in
    let high = floor_monotone n (pos 2147483648 *ℤ pos w) w some (high_sum d e p q dh eh) in
    let low = floor_monotone (negsuc 2147483647 *ℤ pos w) n w some (low_sum d e p q dl el) in
    let top = exact (pos 2147483648) w some in
    let bottom = exact (negsuc 2147483647) w some in
    within (floor_quotient n (pos w)) (rw top at high) (rw bottom at low)

pub mean_small : (d e x y w : ℤ) → pos 0 <ℤ x → pos 0 <ℤ y → w ≡ (x +ℤ y)
    → negsuc 32767 ≤ℤ d → d ≤ℤ pos 32768 → negsuc 32767 ≤ℤ e → e ≤ℤ pos 32768
    → unsigned_abs (floor_quotient (pos 65536 *ℤ ((d *ℤ y) +ℤ (e *ℤ x))) w) ≤ 2147483648
mean_small d e (pos p) (pos q) w hx hy f dl dh el eh =
    rw f (nat_mean d e p q (omega (arith, ints)) dl dh el eh)
mean_small d e (negsuc p) y w hx hy f dl dh el eh = absurd (omega (arith, ints))
mean_small d e (pos p) (negsuc q) w hx hy f dl dh el eh = absurd (omega (arith, ints))
