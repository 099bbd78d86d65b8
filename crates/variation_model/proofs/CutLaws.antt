-- Which sides an earlier place cuts: those whose ratio no other exceeds.
use Rattle.std.proofs.Common.{◌≡◌, ℕ, zero, suc, ◌*◌, ◌<◌, ◌≤◌, Bool, true, false, cond, not, ◌&&◌}
use Rattle.std.proofs.Common.{◌||◌, ◌⊎◌, inl, inr, ⊎_elim, List, [], ◌∷◌, refl, sym, ap, ◌∙◌, arith}
use Rattle.std.proofs.Common.{length, subst, ℤ, pos, negsuc, ◌-ℤ◌, ◌<ℤ◌}
use Rattle.std.proofs.Math.Nat.{mul-le-mul_right, le_of_mul-le-mul_right}
use Rattle.std.proofs.lemmas.Int.{ints}
use Rattle.std.proofs.lemmas.Bool.{cases_Bool, and_parts, cond_both}
use Rattle.std.proofs.lemmas.Bool.Decides.{nat_tests}
use Rattle.std.specs.Prelude.{int_lt, unsigned_abs}
use Rattle.std.specs.Ordering.{int_eq}
use Rattle.fixed_math.specs.declared.F2Dot14.{F2Dot14}
use Rattle.variation_model.specs.Supports as spec
use Rattle.variation_model.specs.Cuts.{Side, side_on, coordinate_on, IsWithin, IsInside, HasRatio}
use Rattle.variation_model.specs.Cuts.{IsAtMost, HasLargestRatio, IsCutAt, IsNarrowed}
use Rattle.variation_model.proofs.SupportLengths.{length-cut_largest}

-- being inside, as a test and as a relation
within_inactive : (s p e v : ℤ) → (cond (int_eq p (pos 0)) (int_eq v (pos 0))
    (not (int_eq v (pos 0)) && (int_eq v p || (int_lt s v && int_lt v e)))) ≡ true → p ≡ pos 0
    → v ≡ pos 0
within_inactive s p e v f g = grind (arith, ints)

within_active : (s p e v : ℤ) → (cond (int_eq p (pos 0)) (int_eq v (pos 0))
    (not (int_eq v (pos 0)) && (int_eq v p || (int_lt s v && int_lt v e)))) ≡ true → v ≡ pos 0
    → p ≡ pos 0
within_active s p e v f g = grind (arith, ints)

same_number : (x y : ℤ) → int_eq x y ≡ true → x ≡ y
same_number x y e = grind (arith, ints)

above_start : (s p e v : ℤ) → (cond (int_eq p (pos 0)) (int_eq v (pos 0))
    (not (int_eq v (pos 0)) && (int_eq v p || (int_lt s v && int_lt v e)))) ≡ true
    → int_eq v p ≡ false → s <ℤ v
above_start s p e v f g = grind (arith, ints)

below_end : (s p e v : ℤ) → (cond (int_eq p (pos 0)) (int_eq v (pos 0))
    (not (int_eq v (pos 0)) && (int_eq v p || (int_lt s v && int_lt v e)))) ≡ true
    → int_eq v p ≡ false → v <ℤ e
below_end s p e v f g = grind (arith, ints)

is_within : (side : Side) (v : F2Dot14) → spec.is_inside side v ≡ true → IsWithin side v
is_within side v f =
    record {
      inactive = λ e. within_inactive side.0.0 side.1.0 side.2.0 v.0 f e;
      active = λ e. within_active side.0.0 side.1.0 side.2.0 v.0 f e;
      between =
          ⊎_elim
          (λ e. inl (same_number v.0 side.1.0 e))
          (λ e. inr (
            above_start side.0.0 side.1.0 side.2.0 v.0 f e,
            below_end side.0.0 side.1.0
                side.2.0 v.0 f e,
          ))
          (cases_Bool (int_eq v.0 side.1.0));
    }

at_the_peak : (s p e v : ℤ) → (p ≡ pos 0 → v ≡ pos 0) → (v ≡ pos 0 → p ≡ pos 0) → v ≡ p
    → (cond (int_eq p (pos 0)) (int_eq v (pos 0))
    (not (int_eq v (pos 0)) && (int_eq v p || (int_lt s v && int_lt v e)))) ≡ true
at_the_peak s p e v f g h = grind (arith, ints)

beside_the_peak : (s p e v : ℤ) → (p ≡ pos 0 → v ≡ pos 0) → (v ≡ pos 0 → p ≡ pos 0) → s <ℤ v
    → v <ℤ e → (cond (int_eq p (pos 0)) (int_eq v (pos 0))
    (not (int_eq v (pos 0)) && (int_eq v p || (int_lt s v && int_lt v e)))) ≡ true
beside_the_peak s p e v f g h k = grind (arith, ints)

tests_inside : (side : Side) (v : F2Dot14) → IsWithin side v → spec.is_inside side v ≡ true
tests_inside side v w =
    ⊎_elim
    (λ e. at_the_peak side.0.0 side.1.0 side.2.0 v.0 w.inactive w.active e)
    (λ e. beside_the_peak side.0.0 side.1.0 side.2.0 v.0 w.inactive w.active e.0 e.1)
    w.between

pub within_at : (sides : List Side) (vs : List F2Dot14) → length sides ≡ length vs
    → spec.all_inside sides vs ≡ true → (axis : ℕ) → axis < length sides
    → spec.is_inside (side_on axis sides) (coordinate_on axis vs) ≡ true
within_at [] vs e f axis h = absurd (omega arith)
within_at (side ∷ sides) [] e f axis h = absurd (omega arith)
within_at (side ∷ sides) (v ∷ vs) e f zero h
    = (and_parts (spec.is_inside side v) (spec.all_inside sides vs) f).0
within_at (side ∷ sides) (v ∷ vs) e f (suc axis) h =
    within_at sides vs (omega arith) ((and_parts (spec.is_inside side v) (spec.all_inside sides vs)
    f).1) axis (omega arith)

both : (a b : Bool) → a ≡ true → b ≡ true → (a && b) ≡ true
both true true e f = refl
both true false e f = cc
both false b e f = cc

tests_all_inside : (sides : List Side) (vs : List F2Dot14) → length sides ≡ length vs
    → ((axis : ℕ) → axis < length sides → spec.is_inside (side_on axis sides)
    (coordinate_on axis vs) ≡ true) → spec.all_inside sides vs ≡ true
tests_all_inside [] vs e f = refl
tests_all_inside (side ∷ sides) [] e f = absurd (omega arith)
tests_all_inside (side ∷ sides) (v ∷ vs) e f =
    both (spec.is_inside side v) (spec.all_inside sides vs) (f 0 (omega arith))
    (tests_all_inside sides vs (omega arith) (λ axis h. f (suc axis) (omega arith)))

pub are_inside : (sides : List Side) (vs : List F2Dot14) → length sides ≡ length vs
    → spec.all_inside sides vs ≡ true → IsInside sides vs
are_inside sides vs e f axis h = is_within (side_on axis sides) (coordinate_on axis vs)
    (within_at sides vs e f axis h)

pub not_inside : (sides : List Side) (vs : List F2Dot14) → length sides ≡ length vs
    → spec.all_inside sides vs ≡ false → IsInside sides vs → ⊥
not_inside sides vs e f inside =
    let test = tests_all_inside sides vs e
    (λ axis h. tests_inside (side_on axis sides) (coordinate_on axis vs) (inside axis h)) in
    cc

-- ratios of natural numbers
abbrev Below : ℕ × ℕ → ℕ × ℕ → Type 0
Below x y = x.0 * y.1 ≤ y.0 * x.1

trans : (a b c d e f : ℕ) → a * d ≤ c * b → c * f ≤ e * d → 0 < d → a * f ≤ e * b
trans a b c d e f h k l =
    let left = mul-le-mul_right f h in
    let right = mul-le-mul_right b k in
    let times : (a * f) * d ≤ (e * b) * d = omega (arith, left, right) in
    le_of_mul-le-mul_right {m = a * f} {n = e * b} {k = d} times l

below_trans : (x y z : ℕ × ℕ) → Below x y → Below y z → 0 < y.1 → Below x z
below_trans x y z h k l = trans x.0 x.1 y.0 y.1 z.0 z.1 h k l

below_self : (x : ℕ × ℕ) → Below x x
below_self x = omega arith

less_below : (x y : ℕ × ℕ) → spec.is_less x y ≡ true → Below x y
less_below x y e = grind (arith, nat_tests)

not_less_below : (x y : ℕ × ℕ) → spec.is_less x y ≡ false → Below y x
not_less_below x y e = grind (arith, nat_tests)

below_not_less : (x y : ℕ × ℕ) → Below y x → spec.is_less x y ≡ false
below_not_less x y h = grind (arith, nat_tests)

not_below_zero : (x : ℕ × ℕ) → spec.is_less x (0, 1) ≡ false
not_below_zero x = grind (arith, nat_tests)

larger_left : (x y : ℕ × ℕ) → Below x (spec.larger x y)
larger_left x y =
    cond_both (spec.is_less x y) y x (λ (z : ℕ × ℕ). Below x z) (λ e. less_below x y e)
    (λ _. below_self x)

larger_right : (x y : ℕ × ℕ) → Below y (spec.larger x y)
larger_right x y =
    cond_both (spec.is_less x y) y x (λ (z : ℕ × ℕ). Below y z) (λ _. below_self y)
    (λ e. not_less_below x y e)

larger_positive : (x y : ℕ × ℕ) → 0 < x.1 → 0 < y.1 → 0 < (spec.larger x y).1
larger_positive x y h k = cond_both (spec.is_less x y) y x (λ z. 0 < z.1) (λ _. k) (λ _. h)

larger_of : (x y : ℕ × ℕ) → (spec.larger x y ≡ x) ⊎ (spec.larger x y ≡ y)
larger_of x y = cond_both (spec.is_less x y) y x (λ z. (z ≡ x) ⊎ (z ≡ y)) (λ _. inr refl)
    (λ _. inl refl)

-- the ratio on an axis, as it is computed
pub of_three : {A : Type 0} (P : A → Type 0) (a b : Bool) (x y z : A) → (a ≡ true → P x)
    → (b ≡ true → P y) → (a ≡ false → b ≡ false → P z) → P (cond a x (cond b y z))
of_three P true b x y z f g h = f refl
of_three P false true x y z f g h = g refl
of_three P false false x y z f g h = h refl refl

abs_positive : (z : ℤ) → pos 0 <ℤ z → 0 < unsigned_abs z
abs_positive (pos n) h = omega (arith, ints)
abs_positive (negsuc n) h = absurd (omega (arith, ints))

reach_below : (s p e v : ℤ) → (cond (int_eq p (pos 0)) (int_eq v (pos 0))
    (not (int_eq v (pos 0)) && (int_eq v p || (int_lt s v && int_lt v e)))) ≡ true
    → int_lt v p ≡ true → pos 0 <ℤ (p -ℤ s)
reach_below s p e v f g = grind (arith, ints)

reach_above : (s p e v : ℤ) → (cond (int_eq p (pos 0)) (int_eq v (pos 0))
    (not (int_eq v (pos 0)) && (int_eq v p || (int_lt s v && int_lt v e)))) ≡ true
    → int_lt p v ≡ true → pos 0 <ℤ (e -ℤ p)
reach_above s p e v f g = grind (arith, ints)

positive_reach : (side : Side) (v : F2Dot14) → spec.is_inside side v ≡ true
    → 0 < (spec.axis_ratio side v).1
positive_reach side v f =
    of_three (λ (z : ℕ × ℕ). 0 < z.1) (int_lt v.0 side.1.0) (int_lt side.1.0 v.0)
    (spec.distance side.1 v, spec.distance side.1 side.0)
    (spec.distance v side.1, spec.distance side.2 side.1) (0, 1)
    (λ e. abs_positive (side.1.0 -ℤ side.0.0) (reach_below side.0.0 side.1.0 side.2.0 v.0 f e))
    (λ e. abs_positive (side.2.0 -ℤ side.1.0) (reach_above side.0.0 side.1.0 side.2.0 v.0 f e))
    (λ _ _. omega arith)

abbrev pub ratio_on : ℕ → List Side → List F2Dot14 → ℕ × ℕ
ratio_on axis sides vs = spec.axis_ratio (side_on axis sides) (coordinate_on axis vs)

-- the largest ratio is that of some axis, or what it began with, and no ratio is above it
record IsLargest (final largest : ℕ × ℕ) (sides : List Side) (vs : List F2Dot14) : Type 0 where
  positive : 0 < final.1
  start : Below largest final
  each : (axis : ℕ) → axis < length sides → Below (ratio_on axis sides vs) final
  reached : (final ≡ largest) ⊎ ((axis : ℕ) × (axis < length sides)
      × (final ≡ ratio_on axis sides vs))

each_next : (final : ℕ × ℕ) (side : Side) (sides : List Side) (v : F2Dot14) (vs : List F2Dot14)
    → Below (spec.axis_ratio side v) final
    → ((axis : ℕ) → axis < length sides → Below (ratio_on axis sides vs) final) → (axis : ℕ)
    → axis < length (side ∷ sides) → Below (ratio_on axis (side ∷ sides) (v ∷ vs)) final
each_next final side sides v vs own rest zero h = own
each_next final side sides v vs own rest (suc axis) h = rest axis (omega arith)

largest : (before : ℕ × ℕ) (sides : List Side) (vs : List F2Dot14) → length sides ≡ length vs
    → spec.all_inside sides vs ≡ true → 0 < before.1
    → IsLargest (spec.largest_ratio_from before sides vs) before sides vs
largest before [] vs e f h =
    record {
      positive = h;
      start = below_self before;
      each = λ axis k. absurd (omega arith);
      reached
          = inl refl;
    }
largest before (side ∷ sides) [] e f h = absurd (omega arith)
largest before (side ∷ sides) (v ∷ vs) e f h =
    let parts = and_parts (spec.is_inside side v) (spec.all_inside sides vs) f in
    let own = spec.axis_ratio side v in
    let next = spec.larger before own in
    let final = spec.largest_ratio_from next sides vs in
    let positive = larger_positive before own h (positive_reach side v parts.0) in
    let rest = largest next sides vs (omega arith) parts.1 positive in
    let first : 0 < length (side ∷ sides) = omega arith in
    record {
      positive = rest.positive;
      start = below_trans before next final (larger_left before own) rest.start positive;
      each = each_next final side sides v vs
          (below_trans own next final (larger_right before own) rest.start positive) rest.each;
      reached =
          ⊎_elim
          (λ is_next.
          ⊎_elim (λ is_before. inl (is_next ∙ is_before))
          (λ is_own. inr (0, first, is_next ∙ is_own)) (larger_of before own))
          (λ found. let later : suc found.0 < length (side ∷ sides) = omega (arith, found.1) in
          inr (suc found.0, later, found.2))
          rest.reached;
    }

-- the ratio on an axis, as it is said
abs_of : (z : ℤ) → pos 0 <ℤ z → z ≡ pos (unsigned_abs z)
abs_of (pos n) h = refl
abs_of (negsuc n) h = absurd (omega (arith, ints))

abbrev pub as_signed : ℕ × ℕ → ℤ × ℤ
as_signed x = (pos x.0, pos x.1)

pair : {A B : Type 0} {a c : A} {b d : B} → a ≡ c → b ≡ d → ◌≡◌ {A = A × B} (a, b) (c, d)
pair {A} {B} {a} {c} {b} {d} e f = ap (λ (x : A). let p : A × B = (x, b) in p) e
    ∙ ap (λ (y : B). let p : A × B = (c, y) in p) f

first_of : {A : Type 0} (a : Bool) (x y : A) → a ≡ true → cond a x y ≡ x
first_of true x y e = refl
first_of false x y e = cc

other_of : {A : Type 0} (a : Bool) (x y : A) → a ≡ false → cond a x y ≡ y
other_of true x y e = cc
other_of false x y e = refl

is_below : (x y : ℤ) → x <ℤ y → int_lt x y ≡ true
is_below x y h = grind (arith, ints)

not_below : (x y : ℤ) → y <ℤ x → int_lt x y ≡ false
not_below x y h = grind (arith, ints)

apart : (x y : ℤ) → x <ℤ y → pos 0 <ℤ (y -ℤ x)
apart x y h = omega (arith, ints)

ratio_below : (side : Side) (v : F2Dot14) → spec.is_inside side v ≡ true → v.0 <ℤ side.1.0
    → ◌≡◌ {A = ℤ × ℤ} (side.1.0 -ℤ v.0, side.1.0 -ℤ side.0.0) (as_signed (spec.axis_ratio side v))
ratio_below side v f h =
    let test = is_below v.0 side.1.0 h in
    let is : spec.axis_ratio side v ≡ (spec.distance side.1 v, spec.distance side.1 side.0) =
    first_of (int_lt v.0 side.1.0) (spec.distance side.1 v, spec.distance side.1 side.0) _ test in
    pair (abs_of (side.1.0 -ℤ v.0) (apart v.0 side.1.0 h))
    (abs_of (side.1.0 -ℤ side.0.0) (reach_below side.0.0 side.1.0 side.2.0 v.0 f test))
    ∙ ap as_signed (sym is)

ratio_above : (side : Side) (v : F2Dot14) → spec.is_inside side v ≡ true → side.1.0 <ℤ v.0
    → ◌≡◌ {A = ℤ × ℤ} (v.0 -ℤ side.1.0, side.2.0 -ℤ side.1.0) (as_signed (spec.axis_ratio side v))
ratio_above side v f h =
    let test = is_below side.1.0 v.0 h in
    let is : spec.axis_ratio side v ≡ (spec.distance v side.1, spec.distance side.2 side.1) =
    other_of (int_lt v.0 side.1.0) (spec.distance side.1 v, spec.distance side.1 side.0) _
    (not_below v.0 side.1.0 h)
    ∙ first_of (int_lt side.1.0 v.0) (spec.distance v side.1, spec.distance side.2 side.1) _ test in
    pair (abs_of (v.0 -ℤ side.1.0) (apart side.1.0 v.0 h))
    (abs_of (side.2.0 -ℤ side.1.0) (reach_above side.0.0 side.1.0 side.2.0 v.0 f test))
    ∙ ap as_signed (sym is)

ratio_is : (side : Side) (v : F2Dot14) (ratio : ℤ × ℤ) → spec.is_inside side v ≡ true
    → HasRatio side v ratio → ratio ≡ as_signed (spec.axis_ratio side v)
ratio_is side v ratio f has =
    ⊎_elim (λ h. h.1 ∙ ratio_below side v f h.0) (λ h. h.1 ∙ ratio_above side v f h.0) has

at_most_of : (x y : ℕ × ℕ) → Below x y → IsAtMost (as_signed x) (as_signed y)
at_most_of x y h = omega (arith, ints)

below_of : (x y : ℕ × ℕ) → IsAtMost (as_signed x) (as_signed y) → Below x y
below_of x y h = omega (arith, ints)

pub less_of : (x y : ℤ) → int_lt x y ≡ true → x <ℤ y
less_of x y e = grind (arith, ints)

pub has_below : (side : Side) (v : F2Dot14) → spec.is_inside side v ≡ true
    → int_lt v.0 side.1.0 ≡ true → HasRatio side v (as_signed (spec.axis_ratio side v))
has_below side v f e = let h = less_of v.0 side.1.0 e in inl (h, sym (ratio_below side v f h))

pub has_above : (side : Side) (v : F2Dot14) → spec.is_inside side v ≡ true
    → int_lt side.1.0 v.0 ≡ true → HasRatio side v (as_signed (spec.axis_ratio side v))
has_above side v f e = let h = less_of side.1.0 v.0 e in inr (h, sym (ratio_above side v f h))

-- a ratio is above none that an axis has, so it is above what is computed on the axis
zero_below : (x : ℕ × ℕ) → Below (0, 1) x
zero_below x = omega arith

below_own : (side : Side) (v : F2Dot14) (own : ℕ × ℕ) → spec.is_inside side v ≡ true
    → ((r : ℤ × ℤ) → HasRatio side v r → IsAtMost r (as_signed own))
    → Below (spec.axis_ratio side v) own
below_own side v own f at_most =
    let x = spec.axis_ratio side v in
    ⊎_elim
    (λ e. below_of x own (at_most (as_signed x) (has_below side v f e)))
    (λ e.
    ⊎_elim
    (λ g. below_of x own (at_most (as_signed x) (has_above side v f g)))
    (λ g. let is : x ≡ (0, 1) =
    other_of (int_lt v.0 side.1.0) (spec.distance side.1 v, spec.distance side.1 side.0) _ e
    ∙ other_of (int_lt side.1.0 v.0) (spec.distance v side.1, spec.distance side.2 side.1)
    (0, 1) g in
    subst (λ (z : ℕ × ℕ). Below z own) (sym is) (zero_below own))
    (cases_Bool (int_lt side.1.0 v.0)))
    (cases_Bool (int_lt v.0 side.1.0))

-- the ratio of an axis is the largest exactly where it is not less than the largest that is
-- computed
one_positive : 0 < 1
one_positive = omega arith

pub not_less : (sides : List Side) (vs : List F2Dot14) → length sides ≡ length vs
    → spec.all_inside sides vs ≡ true → (axis : ℕ) (ratio : ℤ × ℤ) → axis < length sides
    → HasLargestRatio sides vs axis ratio → spec.is_less (ratio_on axis sides vs)
    (spec.largest_ratio sides vs) ≡ false
not_less sides vs e f axis ratio h has =
    let own = ratio_on axis sides vs in
    let all = largest (0, 1) sides vs e f one_positive in
    let is : ratio ≡ as_signed own =
    ratio_is (side_on axis sides) (coordinate_on axis vs) ratio (within_at sides vs e f axis h)
    has.own in
    ⊎_elim
    (λ is_zero. ap (spec.is_less own) is_zero ∙ not_below_zero own)
    (λ found. let other = ratio_on found.0 sides vs in
    let below : Below other own =
    below_own (side_on found.0 sides) (coordinate_on found.0 vs) own
    (within_at sides vs e f found.0 found.1)
    (λ r other_has. subst (λ (q : ℤ × ℤ). IsAtMost r q) is
    (has.none_exceeds found.0 r found.1 other_has)) in
    ap (spec.is_less own) found.2 ∙ below_not_less own other below)
    all.reached

pub has_largest : (sides : List Side) (vs : List F2Dot14) → length sides ≡ length vs
    → spec.all_inside sides vs ≡ true → (axis : ℕ)
    → spec.is_less (ratio_on axis sides vs) (spec.largest_ratio sides vs) ≡ false
    → HasRatio (side_on axis sides) (coordinate_on axis vs) (as_signed (ratio_on axis sides vs))
    → HasLargestRatio sides vs axis (as_signed (ratio_on axis sides vs))
has_largest sides vs e f axis g has =
    let own = ratio_on axis sides vs in
    let final = spec.largest_ratio sides vs in
    let all = largest (0, 1) sides vs e f one_positive in
    record {
      own = has;
      none_exceeds =
          λ other r h other_has. let is : r ≡ as_signed (ratio_on other sides vs) =
          ratio_is (side_on other sides) (coordinate_on other vs) r (within_at sides vs e f other h)
          other_has in
          let below : Below (ratio_on other sides vs) own =
          below_trans (ratio_on other sides vs) final own (all.each other h)
          (not_less_below own final g) all.positive in
          subst (λ (q : ℤ × ℤ). IsAtMost q (as_signed own)) (sym is)
          (at_most_of (ratio_on other sides vs) own below);
    }

-- what is left on an axis
pub cut_on : (most : ℕ × ℕ) (sides : List Side) (vs : List F2Dot14) → length sides ≡ length vs
    → (axis : ℕ) → axis < length sides → side_on axis (spec.cut_largest most sides vs)
    ≡ spec.cut_at_least most (side_on axis sides) (coordinate_on axis vs)
cut_on most [] vs e axis h = absurd (omega arith)
cut_on most (side ∷ sides) [] e axis h = absurd (omega arith)
cut_on most (side ∷ sides) (v ∷ vs) e zero h = refl
cut_on most (side ∷ sides) (v ∷ vs) e (suc axis) h
    = cut_on most sides vs (omega arith) axis (omega arith)

is_cut : (side : Side) (v : F2Dot14) → IsCutAt side v (spec.cut side v)
is_cut side v =
    record {
      below = λ h. first_of {A = Side} (int_lt v.0 side.1.0) (v, side.1, side.2) _
          (is_below v.0 side.1.0 h);
      above =
          λ h. other_of {A = Side} (int_lt v.0 side.1.0) (v, side.1, side.2) _
          (not_below v.0 side.1.0 h)
          ∙ first_of {A = Side} (int_lt side.1.0 v.0) (side.0, side.1, v) side
          (is_below side.1.0 v.0 h);
    }

kept_on : (sides : List Side) (vs : List F2Dot14) → length sides ≡ length vs
    → spec.all_inside sides vs ≡ true → (axis : ℕ) → axis < length sides
    → ((ratio : ℤ × ℤ) → HasLargestRatio sides vs axis ratio → ⊥)
    → spec.cut_at_least (spec.largest_ratio sides vs) (side_on axis sides) (coordinate_on axis vs)
    ≡ side_on axis sides
kept_on sides vs e f axis h none =
    let side = side_on axis sides in
    let v = coordinate_on axis vs in
    let own = ratio_on axis sides vs in
    let inside = within_at sides vs e f axis h in
    cond_both (spec.is_less own (spec.largest_ratio sides vs)) side (spec.cut side v)
    (λ (s : Side). s ≡ side) (λ _. refl)
    (λ g.
    of_three (λ (s : Side). s ≡ side) (int_lt v.0 side.1.0) (int_lt side.1.0 v.0)
    (v, side.1, side.2) (side.0, side.1, v) side
    (λ b. absurd (none (as_signed own) (has_largest sides vs e f axis g
    (has_below side v inside b))))
    (λ b. absurd (none (as_signed own) (has_largest sides vs e f axis g
    (has_above side v inside b))))
    (λ _ _. refl))

-- what an earlier place leaves of a region
inside_narrowed : (sides : List Side) (vs : List F2Dot14) → length sides ≡ length vs
    → spec.all_inside sides vs ≡ true → IsNarrowed sides vs
    (spec.cut_largest (spec.largest_ratio sides vs) sides vs)
inside_narrowed sides vs e f =
    let most = spec.largest_ratio sides vs in
    record {
      as_many = length-cut_largest most sides vs;
      outside = λ out. absurd (out (are_inside sides vs e f));
      cut =
          λ _ axis ratio h has. let side = side_on axis sides in
          let v = coordinate_on axis vs in
          let is : side_on axis (spec.cut_largest most sides vs) ≡ spec.cut side v =
          cut_on most sides vs e axis h ∙ other_of {A = Side}
          (spec.is_less (ratio_on axis sides vs) most) side (spec.cut side v)
          (not_less sides vs e f axis ratio h has) in
          subst (λ (s : Side). IsCutAt side v s) (sym is) (is_cut side v);
      kept = λ _ axis h none. cut_on most sides vs e axis h ∙ kept_on sides vs e f axis h none;
    }

outside_narrowed : (sides : List Side) (vs : List F2Dot14) → length sides ≡ length vs
    → spec.all_inside sides vs ≡ false → IsNarrowed sides vs sides
outside_narrowed sides vs e f =
    record {
      as_many = refl;
      outside = λ _. refl;
      cut = λ inside. absurd (not_inside sides vs e f inside);
      kept = λ _ _ _ _. refl;
    }

pub narrowed_IsNarrowed : (sides : List Side) (vs : List F2Dot14) → length sides ≡ length vs
    → IsNarrowed sides vs (spec.narrowed sides vs)
narrowed_IsNarrowed sides vs e =
    cond_both (spec.all_inside sides vs) (spec.cut_largest (spec.largest_ratio sides vs) sides vs)
    sides (λ (left : List Side). IsNarrowed sides vs left) (λ f. inside_narrowed sides vs e f)
    (λ f. outside_narrowed sides vs e f)
