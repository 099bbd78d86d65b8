-- A part of a rise lies between nothing and the rise.
use Rattle.std.proofs.Common.{◌≡◌, ◌≤◌, zero, suc, arith, sym, ap, ◌∙◌, true, cond, ℤ, pos, negsuc}
use Rattle.std.proofs.Common.{◌+ℤ◌, ◌-ℤ◌, ◌*ℤ◌, ◌≤ℤ◌, ◌<ℤ◌, FitsSigned, to_z, of_z}
use Rattle.std.proofs.Math.Nat.{mul-le-mul_left}
use Rattle.std.proofs.lemmas.Int.{ints, by_lt_z, to_z-of_z}
use Rattle.std.specs.Int.{w32, w64, w128}
use Rattle.std.specs.Prelude.{int_lt}
use Rattle.font_ir.specs.Normal.{nearest}
use Rattle.axis_space.specs.Points.{between}
use Rattle.axis_space.specs.declared.points.Point.{Point}
use Rattle.axis_space.proofs.NearestLemmas.{nearest_monotone, nearest_exact}

times_up : (rise part whole : ℤ) → pos 0 ≤ℤ rise → pos 0 ≤ℤ part → part ≤ℤ whole
    → (pos 0 ≤ℤ (rise *ℤ part)) × ((rise *ℤ part) ≤ℤ (rise *ℤ whole))
times_up (pos r) (pos n) (pos w) h k l =
    let le : n ≤ w = omega (arith, ints) in
    (omega (arith, ints), omega (arith, ints, mul-le-mul_left r le))
times_up (negsuc r) n w h k l = absurd (omega (arith, ints))
times_up (pos r) (negsuc n) w h k l = absurd (omega (arith, ints))
times_up (pos r) (pos n) (negsuc w) h k l = absurd (omega (arith, ints))

times_down : (rise part whole : ℤ) → rise ≤ℤ pos 0 → pos 0 ≤ℤ part → part ≤ℤ whole
    → ((rise *ℤ whole) ≤ℤ (rise *ℤ part)) × ((rise *ℤ part) ≤ℤ pos 0)
times_down (pos zero) (pos n) (pos w) h k l = (omega (arith, ints), omega (arith, ints))
times_down (pos (suc r)) (pos n) (pos w) h k l = absurd (omega (arith, ints))
times_down (negsuc r) (pos n) (pos w) h k l =
    let le : n ≤ w = omega (arith, ints) in
    (omega (arith, ints, mul-le-mul_left (suc r) le), omega (arith, ints))
times_down rise (negsuc n) w h k l = absurd (omega (arith, ints))
times_down rise (pos n) (negsuc w) h k l = absurd (omega (arith, ints))

pub part_up : (rise part whole : ℤ) → pos 0 <ℤ whole → pos 0 ≤ℤ part → part ≤ℤ whole → pos 0 ≤ℤ rise
    → (pos 0 ≤ℤ nearest (rise *ℤ part) whole) × (nearest (rise *ℤ part) whole ≤ℤ rise)
part_up rise part whole p k l h =
    let bounds = times_up rise part whole h k l in
    let none = nearest_exact (pos 0) whole p in
    let all = nearest_exact rise whole p in
    let low = nearest_monotone (pos 0 *ℤ whole) (rise *ℤ part) whole p (omega (arith, ints)) in
    let high = nearest_monotone (rise *ℤ part) (rise *ℤ whole) whole p bounds.1 in
    (omega (arith, ints), omega (arith, ints))

pub part_down : (rise part whole : ℤ) → pos 0 <ℤ whole → pos 0 ≤ℤ part → part ≤ℤ whole
    → rise ≤ℤ pos 0 → (rise ≤ℤ nearest (rise *ℤ part) whole)
    × (nearest (rise *ℤ part) whole ≤ℤ pos 0)
part_down rise part whole p k l h =
    let bounds = times_down rise part whole h k l in
    let none = nearest_exact (pos 0) whole p in
    let all = nearest_exact rise whole p in
    let low = nearest_monotone (rise *ℤ whole) (rise *ℤ part) whole p bounds.0 in
    let high = nearest_monotone (rise *ℤ part) (pos 0 *ℤ whole) whole p (omega (arith, ints)) in
    (omega (arith, ints), omega (arith, ints))

-- a rise of 32 bits over a part of 32 bits fits
pub product_bounds : (rise part : ℤ) → negsuc 4294967294 ≤ℤ rise → rise ≤ℤ pos 4294967295
    → pos 0 ≤ℤ part → part ≤ℤ pos 4294967295
    → (negsuc 18446744073709551615 ≤ℤ (rise *ℤ part)) × ((rise *ℤ part) ≤ℤ pos 18446744073709551615)
product_bounds rise part low high k l =
    by_lt_z rise (pos 0)
    (λ less.
    let bounds = times_down rise part (pos 4294967295) (omega (arith, ints)) k l in
    (omega (arith, ints), omega (arith, ints)))
    (λ least.
    let bounds = times_up rise part (pos 4294967295) least k l in
    (omega (arith, ints), omega (arith, ints)))

-- and it goes through the casts on the way
pub part_way_is : (rise part whole rise' part' whole' q : ℤ) → FitsSigned w64 rise
    → FitsSigned w64 part → FitsSigned w64 whole → FitsSigned w128 (rise *ℤ part)
    → rise' ≡ to_z w64 (of_z w64 rise) → part' ≡ to_z w64 (of_z w64 part)
    → whole' ≡ to_z w64 (of_z w64 whole) → q
    ≡ nearest (to_z w128 (of_z w128 (to_z w128 (of_z w128 rise') *ℤ to_z w128 (of_z w128 part'))))
    (to_z w128 (of_z w128 whole')) → q ≡ nearest (rise *ℤ part) whole
part_way_is rise part whole rise' part' whole' q f g h fits e e' e'' is =
    let r : to_z w128 (of_z w128 rise') ≡ rise = omega (arith, ints) in
    let p : to_z w128 (of_z w128 part') ≡ part = omega (arith, ints) in
    let w : to_z w128 (of_z w128 whole') ≡ whole = omega (arith, ints) in
    let wrapped : ℤ → ℤ = λ z. to_z w128 (of_z w128 z) in
    let product : wrapped (wrapped rise' *ℤ wrapped part') ≡ rise *ℤ part =
    ap (λ z. wrapped (z *ℤ wrapped part')) r ∙ ap (λ z. wrapped (rise *ℤ z)) p
    ∙ to_z-of_z w128 (rise *ℤ part) fits in
    is ∙ ap (λ n. nearest n (wrapped whole')) product ∙ ap (nearest (rise *ℤ part)) w

pub widened : (z : ℤ) → FitsSigned w64 z → to_z w64 (of_z w64 (to_z w128 (of_z w128 z))) ≡ z
widened z fits = omega (arith, ints)

-- a difference of numbers of 32 bits goes through the casts
pub wrapped_difference : (p q rise : ℤ) → FitsSigned w32 p → FitsSigned w32 q → rise ≡ q -ℤ p
    → to_z w64 (of_z w64 rise) ≡ q -ℤ p
wrapped_difference p q rise f g e = omega (arith, ints)

-- a part of the way from one number of 32 bits to another fits
pub joined_fits : (p q rise part : ℤ) → FitsSigned w32 p → FitsSigned w32 q → rise ≡ q -ℤ p
    → (pos 0 ≤ℤ rise → (pos 0 ≤ℤ part) × (part ≤ℤ rise))
    → (rise ≤ℤ pos 0 → (rise ≤ℤ part) × (part ≤ℤ pos 0)) → FitsSigned w32 (p +ℤ part)
joined_fits p q rise part f g e up down =
    by_lt_z rise (pos 0)
    (λ less. let bounds = down (omega (arith, ints)) in omega (arith, ints))
    (λ least. let bounds = up least in omega (arith, ints))

-- the sum goes through the casts
pub joined_is : (p part p' : ℤ) → FitsSigned w32 p → FitsSigned w64 part
    → FitsSigned w32 (p +ℤ part) → p' ≡ to_z w32 (of_z w32 p)
    → to_z w32 (of_z w32 (to_z w64 (of_z w64 (to_z w64 (of_z w64 p') +ℤ to_z w64 (of_z w64 part)))))
    ≡ p +ℤ part
joined_is p part p' f g fits e = omega (arith, ints)

pub part_fits : (rise part whole q : ℤ) → q ≡ nearest (rise *ℤ part) whole → pos 0 <ℤ whole
    → pos 0 ≤ℤ part → part ≤ℤ whole → negsuc 4294967294 ≤ℤ rise → rise ≤ℤ pos 4294967295
    → FitsSigned w64 q
part_fits rise part whole q is p k l low high =
    by_lt_z rise (pos 0)
    (λ less. let bounds = part_down rise part whole p k l (omega (arith, ints))
    in omega (arith, ints))
    (λ least. let bounds = part_up rise part whole p k l least in omega (arith, ints))

lt_true : (a b : ℤ) → a <ℤ b → int_lt a b ≡ true
lt_true a b h = grind (arith, ints)

pub between_higher : (p q : Point) (design : ℤ) → int_lt p.design.0 q.design.0 ≡ true
    → between p q design ≡ p.user.0 +ℤ nearest ((q.user.0 -ℤ p.user.0) *ℤ (design -ℤ p.design.0))
    (q.design.0 -ℤ p.design.0)
between_higher p q design e =
    ap (λ b. cond b (p.user.0 +ℤ nearest ((q.user.0 -ℤ p.user.0) *ℤ (design -ℤ p.design.0))
    (q.design.0 -ℤ p.design.0)) p.user.0) e

-- the reading between two points of which the second is higher
pub between_is : (p q : Point) (design rise part whole way : ℤ) → p.design.0 <ℤ q.design.0
    → rise ≡ q.user.0 -ℤ p.user.0 → part ≡ design -ℤ p.design.0 → whole ≡ q.design.0 -ℤ p.design.0
    → way ≡ nearest (rise *ℤ part) whole → p.user.0 +ℤ way ≡ between p q design
between_is p q design rise part whole way less r n w is =
    let own : way ≡ nearest ((q.user.0 -ℤ p.user.0) *ℤ (design -ℤ p.design.0))
    (q.design.0 -ℤ p.design.0) =
    is ∙ ap (λ z. nearest (z *ℤ part) whole) r
    ∙ ap (λ z. nearest ((q.user.0 -ℤ p.user.0) *ℤ z) whole) n
    ∙ ap (nearest ((q.user.0 -ℤ p.user.0) *ℤ (design -ℤ p.design.0))) w in
    ap (λ z. p.user.0 +ℤ z) own ∙ sym (between_higher p q design
    (lt_true p.design.0 q.design.0 less))
