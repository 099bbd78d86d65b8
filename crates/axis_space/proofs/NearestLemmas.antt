-- What the nearest whole number to a quotient is: it keeps the order, it is exact, and so a
-- coordinate between the ends of an axis lies between -1 and 1.
use Rattle.std.proofs.Common.{◌≡◌, ℕ, ◌*◌, ◌<◌, arith, ap, ◌∙◌, ℤ, pos, negsuc, ◌+ℤ◌, ◌-ℤ◌, ◌*ℤ◌}
use Rattle.std.proofs.Common.{◌≤ℤ◌, ◌<ℤ◌, FitsSigned, to_z, of_z}
use Rattle.std.proofs.lemmas.Int.{ints, by_lt_z}
use Rattle.std.specs.Int.{w16, w64, w128}
use Rattle.fixed_math.specs.FloorLaws.{floor_monotone, floor_unique}
use Rattle.font_ir.specs.Normal.{nearest, normalised}

nearest_monotone_nat : (m n : ℤ) (d : ℕ) → 0 < d → m ≤ℤ n → nearest m (pos d) ≤ℤ nearest n (pos d)
nearest_monotone_nat m n d h le =
    floor_monotone (pos 2 *ℤ m +ℤ pos d) (pos 2 *ℤ n +ℤ pos d) (2 * d) (omega arith)
    (omega (arith, ints))

-- a greater number has no smaller quotient
pub nearest_monotone : (m n d : ℤ) → pos 0 <ℤ d → m ≤ℤ n → nearest m d ≤ℤ nearest n d
nearest_monotone m n (pos d) h le = nearest_monotone_nat m n d (omega (arith, ints)) le
nearest_monotone m n (negsuc d) h le = absurd (omega (arith, ints))

nearest_exact_nat : (z : ℤ) (d : ℕ) → 0 < d → nearest (z *ℤ pos d) (pos d) ≡ z
nearest_exact_nat z d h =
    floor_unique (pos 2 *ℤ (z *ℤ pos d) +ℤ pos d) z (2 * d) (omega arith) (omega (arith, ints))
    (omega (arith, ints))

-- a multiple is no fraction
pub nearest_exact : (z d : ℤ) → pos 0 <ℤ d → nearest (z *ℤ d) d ≡ z
nearest_exact z (pos d) h = nearest_exact_nat z d (omega (arith, ints))
nearest_exact z (negsuc d) h = absurd (omega (arith, ints))

-- a part of a whole is from -1 to 1
pub nearest_high : (way whole : ℤ) → pos 0 <ℤ whole → way ≤ℤ whole
    → nearest (pos 16384 *ℤ way) whole ≤ℤ pos 16384
nearest_high way whole h k =
    let exact = nearest_exact (pos 16384) whole h in
    let bound = nearest_monotone (pos 16384 *ℤ way) (pos 16384 *ℤ whole) whole h
    (omega (arith, ints)) in
    omega (arith, ints)

pub nearest_low : (way whole : ℤ) → pos 0 <ℤ whole → pos 0 ≤ℤ (way +ℤ whole)
    → negsuc 16383 ≤ℤ nearest (pos 16384 *ℤ way) whole
nearest_low way whole h k =
    let exact = nearest_exact (negsuc 16383) whole h in
    let bound = nearest_monotone (negsuc 16383 *ℤ whole) (pos 16384 *ℤ way) whole h
    (omega (arith, ints)) in
    omega (arith, ints)

pub nearest_whole : (way whole : ℤ) → pos 0 <ℤ whole → way ≡ whole
    → nearest (pos 16384 *ℤ way) whole ≡ pos 16384
nearest_whole way whole h e = ap (λ w. nearest (pos 16384 *ℤ w) whole) e
    ∙ nearest_exact (pos 16384) whole h

pub nearest_opposite : (way whole : ℤ) → pos 0 <ℤ whole → way +ℤ whole ≡ pos 0
    → nearest (pos 16384 *ℤ way) whole ≡ negsuc 16383
nearest_opposite way whole h e =
    let same : (pos 16384 *ℤ way) ≡ (negsuc 16383 *ℤ whole) = omega (arith, ints) in
    ap (λ n. nearest n whole) same ∙ nearest_exact (negsuc 16383) whole h

-- a number that fits 16 or 32 bits is the same after it went through 128
pub narrowed : (z : ℤ) → FitsSigned w16 z → to_z w16 (of_z w16 (to_z w128 (of_z w128 z))) ≡ z
narrowed z fits = omega (arith, ints)

-- and so does one that is cast on the way to what it is compared with
pub part_is : (way whole way' whole' q : ℤ) → FitsSigned w64 way → FitsSigned w64 whole
    → way' ≡ to_z w64 (of_z w64 way) → whole' ≡ to_z w64 (of_z w64 whole)
    → q ≡ nearest (to_z w128 (of_z w128 (pos 16384 *ℤ to_z w128 (of_z w128 way'))))
    (to_z w128 (of_z w128 whole')) → q ≡ nearest (pos 16384 *ℤ way) whole
part_is way whole way' whole' q f g e e' is =
    let w : way' ≡ way = omega (arith, ints) in
    let h : whole' ≡ whole = omega (arith, ints) in
    let n : to_z w128 (of_z w128 (pos 16384 *ℤ to_z w128 (of_z w128 way')))
    ≡ (pos 16384 *ℤ way) = omega (arith, ints) in
    let d : to_z w128 (of_z w128 whole') ≡ whole = omega (arith, ints) in
    is ∙ ap (λ n. nearest n (to_z w128 (of_z w128 whole'))) n ∙ ap (nearest (pos 16384 *ℤ way)) d

normalised_below : (v low zero high : ℤ) → v <ℤ zero
    → normalised v low zero high ≡ nearest (pos 16384 *ℤ (v -ℤ zero)) (zero -ℤ low)
normalised_below v low zero high h = grind (arith, ints)

normalised_above : (v low zero high : ℤ) → zero <ℤ v
    → normalised v low zero high ≡ nearest (pos 16384 *ℤ (v -ℤ zero)) (high -ℤ zero)
normalised_above v low zero high h = grind (arith, ints)

normalised_at : (v low zero high : ℤ) → v ≡ zero → normalised v low zero high ≡ pos 0
normalised_at v low zero high h = grind (arith, ints)

normalised_not_negative : (v low zero high : ℤ) → zero ≤ℤ v → v ≤ℤ high
    → pos 0 ≤ℤ normalised v low zero high
normalised_not_negative v low zero high h k =
    by_lt_z zero v
    (λ l.
    let is = normalised_above v low zero high l in
    let positive : pos 0 <ℤ (high -ℤ zero) = omega (arith, ints) in
    let exact = nearest_exact (pos 0) (high -ℤ zero) positive in
    let bound = nearest_monotone (pos 0 *ℤ (high -ℤ zero)) (pos 16384 *ℤ (v -ℤ zero)) (high -ℤ zero)
    positive (omega (arith, ints)) in
    omega (arith, ints))
    (λ l. let is = normalised_at v low zero high (omega (arith, ints)) in omega (arith, ints))

normalised_not_positive : (v low zero high : ℤ) → low ≤ℤ v → v ≤ℤ zero
    → normalised v low zero high ≤ℤ pos 0
normalised_not_positive v low zero high h k =
    by_lt_z v zero
    (λ l.
    let is = normalised_below v low zero high l in
    let positive : pos 0 <ℤ (zero -ℤ low) = omega (arith, ints) in
    let exact = nearest_exact (pos 0) (zero -ℤ low) positive in
    let bound = nearest_monotone (pos 16384 *ℤ (v -ℤ zero)) (pos 0 *ℤ (zero -ℤ low)) (zero -ℤ low)
    positive (omega (arith, ints)) in
    omega (arith, ints))
    (λ l. let is = normalised_at v low zero high (omega (arith, ints)) in omega (arith, ints))

-- a greater coordinate has no smaller place
pub normalised_monotone : (w v low zero high : ℤ) → low ≤ℤ w → w ≤ℤ v → v ≤ℤ high
    → normalised w low zero high ≤ℤ normalised v low zero high
normalised_monotone w v low zero high h le k =
    by_lt_z v zero
    (λ both_below.
    let at_w = normalised_below w low zero high (omega (arith, ints)) in
    let at_v = normalised_below v low zero high both_below in
    let bound = nearest_monotone (pos 16384 *ℤ (w -ℤ zero)) (pos 16384 *ℤ (v -ℤ zero)) (zero -ℤ low)
    (omega (arith, ints)) (omega (arith, ints)) in
    omega (arith, ints))
    (λ v_from.
    by_lt_z zero w
    (λ both_above.
    let at_w = normalised_above w low zero high both_above in
    let at_v = normalised_above v low zero high (omega (arith, ints)) in
    let bound = nearest_monotone (pos 16384 *ℤ (w -ℤ zero)) (pos 16384 *ℤ (v -ℤ zero))
    (high -ℤ zero) (omega (arith, ints)) (omega (arith, ints)) in
    omega (arith, ints))
    (λ w_up_to.
    let at_w = normalised_not_positive w low zero high h w_up_to in
    let at_v = normalised_not_negative v low zero high v_from k in
    omega (arith, ints)))
