-- The relation by which earlier places cut has one answer: the support.
use Rattle.std.proofs.Common.{◌≡◌, ℕ, zero, suc, ◌+◌, ◌<◌, ◌≤◌, Bool, true, false, ⊎_elim, List, []}
use Rattle.std.proofs.Common.{◌∷◌, refl, sym, ap, ◌∙◌, arith, length, take, subst, ℤ, pos, ◌≤ℤ◌}
use Rattle.std.proofs.Common.{◌<ℤ◌}
use Rattle.std.proofs.lemmas.Int.{ints}
use Rattle.std.proofs.lemmas.Bool.{cond_both}
use Rattle.std.proofs.lemmas.List.{take_all}
use Rattle.std.proofs.lemmas.List.Sums.{fold_more}
use Rattle.std.specs.Prelude.{int_lt, replicate, Contains, EachIndex}
use Rattle.std.specs.List.{fold}
use Rattle.fixed_math.specs.declared.F2Dot14.{F2Dot14}
use Rattle.font_ir.specs.declared.variation.Region.{Region}
use Rattle.variation_model.specs.Places.{zero_number, place_at, axis_count, ordered}
use Rattle.variation_model.specs.Supports as spec
use Rattle.variation_model.specs.Cuts.{Side, side_on, coordinate_on, IsNarrowed, IsGreatestOn}
use Rattle.variation_model.specs.Cuts.{IsLeastOn, IsWidestOn, IsWidest, IsSupport}
use Rattle.variation_model.specs.Laws.{NoOtherSupports}
use Rattle.variation_model.proofs.SupportLengths.{length-cut_largest, length-widest_from}
use Rattle.variation_model.proofs.SupportLengths.{length-fold-narrowed}
use Rattle.variation_model.proofs.CutLaws.{as_signed, cut_on, has_above, has_below, has_largest}
use Rattle.variation_model.proofs.CutLaws.{are_inside, less_of, not_inside, not_less, of_three}
use Rattle.variation_model.proofs.CutLaws.{ratio_on, within_at}
use Rattle.variation_model.proofs.CutSupports.{earlier_fit, greatest_is, least_is, support_in_order}
use Rattle.variation_model.proofs.CutSupports.{widest_at, widest_on}

-- two regions with the same side on each axis are one
same_sides : (xs ys : List Side) → length xs ≡ length ys
    → ((axis : ℕ) → axis < length xs → side_on axis xs ≡ side_on axis ys) → xs ≡ ys
same_sides [] [] e f = refl
same_sides [] (y ∷ ys) e f = absurd (omega arith)
same_sides (x ∷ xs) [] e f = absurd (omega arith)
same_sides (x ∷ xs) (y ∷ ys) e f =
    let first : x ≡ y = f 0 (omega arith) in
    let rest : xs ≡ ys = same_sides xs ys (omega arith) (λ axis h. f (suc axis) (omega arith)) in
    ap (λ (s : Side). s ∷ xs) first ∙ ap (λ (l : List Side). y ∷ l) rest

-- what an earlier place leaves is what is computed
true_false : {b : Bool} → b ≡ true → b ≡ false → ⊥
true_false e f = cc

no_ratio : (x y : ℤ) → x <ℤ y → int_lt x y ≡ false → ⊥
no_ratio x y h e = grind (arith, ints)

cut_only : (sides : List Side) (vs : List F2Dot14) (left : List Side) → length sides ≡ length vs
    → spec.all_inside sides vs ≡ true → IsNarrowed sides vs left → (axis : ℕ) → axis < length sides
    → side_on axis left ≡ spec.cut_at_least (spec.largest_ratio sides vs) (side_on axis sides)
    (coordinate_on axis vs)
cut_only sides vs left e f is axis h =
    let side = side_on axis sides in
    let v = coordinate_on axis vs in
    let own = ratio_on axis sides vs in
    let within = within_at sides vs e f axis h in
    let inside = are_inside sides vs e f in
    cond_both (spec.is_less own (spec.largest_ratio sides vs)) side (spec.cut side v)
    (λ (s : Side). side_on axis left ≡ s)
    (λ g. is.kept inside axis h (λ ratio has. true_false g
    (not_less sides vs e f axis ratio h has)))
    (λ g.
    of_three (λ (s : Side). side_on axis left ≡ s) (int_lt v.0 side.1.0) (int_lt side.1.0 v.0)
    (v, side.1, side.2) (side.0, side.1, v) side
    (λ b. (is.cut inside axis (as_signed own) h
    (has_largest sides vs e f axis g (has_below side v within b))).below
    (less_of v.0 side.1.0 b))
    (λ b. (is.cut inside axis (as_signed own) h
    (has_largest sides vs e f axis g (has_above side v within b))).above
    (less_of side.1.0 v.0 b))
    (λ b c. is.kept inside axis h (λ ratio has. ⊎_elim (λ l. no_ratio v.0 side.1.0 l.0 b)
    (λ l. no_ratio side.1.0 v.0 l.0 c) has.own)))

narrowed_only : (sides : List Side) (vs : List F2Dot14) (left : List Side)
    → length sides ≡ length vs → IsNarrowed sides vs left → left ≡ spec.narrowed sides vs
narrowed_only sides vs left e is =
    let most = spec.largest_ratio sides vs in
    cond_both (spec.all_inside sides vs) (spec.cut_largest most sides vs) sides
    (λ (s : List Side). left ≡ s)
    (λ f.
    same_sides left (spec.cut_largest most sides vs)
    (is.as_many ∙ sym (length-cut_largest most sides vs))
    (λ axis h. let within : axis < length sides = omega (arith, h, is.as_many) in
    cut_only sides vs left e f is axis within ∙ sym (cut_on most sides vs e axis within)))
    (λ f. is.outside (λ inside. not_inside sides vs e f inside))

-- the widest region is what is computed
same_side : (a b : Side) → a.0.0 ≡ b.0.0 → a.1.0 ≡ b.1.0 → a.2.0 ≡ b.2.0 → a ≡ b
same_side a b e f g =
    let number : ℤ → F2Dot14 = λ z. record { 0 = z } in
    let first : a ≡ (b.0, a.1, a.2) = ap (λ (z : ℤ). let s : Side = (number z, a.1, a.2) in s) e in
    let second : ◌≡◌ {A = Side} (b.0, a.1, a.2) (b.0, b.1, a.2)
    = ap (λ (z : ℤ). let s : Side = (b.0, number z, a.2) in s) f in
    let third : ◌≡◌ {A = Side} (b.0, b.1, a.2) b
    = ap (λ (z : ℤ). let s : Side = (b.0, b.1, number z) in s) g in
    first ∙ second ∙ third

one_number : (a b : ℤ) → a ≤ℤ b → b ≤ℤ a → a ≡ b
one_number a b h k = omega (arith, ints)

greatest_only : (axis : ℕ) (places : List (List F2Dot14)) (y z : ℤ) → IsGreatestOn axis places y
    → IsGreatestOn axis places z → y ≡ z
greatest_only axis places y z a b =
    let i = a.reached in
    let j = b.reached in
    one_number y z (subst (λ (n : ℤ). n ≤ℤ z) i.2 (b.none_above i.0 i.1))
    (subst (λ (n : ℤ). n ≤ℤ y) j.2 (a.none_above j.0 j.1))

least_only : (axis : ℕ) (places : List (List F2Dot14)) (y z : ℤ) → IsLeastOn axis places y
    → IsLeastOn axis places z → y ≡ z
least_only axis places y z a b =
    let i = a.reached in
    let j = b.reached in
    one_number y z (subst (λ (n : ℤ). y ≤ℤ n) j.2 (a.none_below j.0 j.1))
    (subst (λ (n : ℤ). z ≤ℤ n) i.2 (b.none_below i.0 i.1))

zero_peak : (p : ℤ) → int_lt (pos 0) p ≡ false → int_lt p (pos 0) ≡ false → p ≡ pos 0
zero_peak p e f = grind (arith, ints)

widest_on_only : (places : List (List F2Dot14)) (n axis : ℕ) (peak : F2Dot14) (side : Side)
    → Contains places (replicate n zero_number) → IsWidestOn axis places peak side
    → side ≡ widest_at places axis peak
widest_on_only places n axis peak side has is =
    let low = spec.least places axis in
    let high = spec.greatest places axis in
    of_three (λ (s : Side). side ≡ s) (int_lt (pos 0) peak.0) (int_lt peak.0 (pos 0))
    (zero_number, peak, record { 0 = high }) (record { 0 = low }, peak, zero_number)
    (zero_number, zero_number, zero_number)
    (λ e. let known = is.above (less_of (pos 0) peak.0 e) in
    same_side side (zero_number, peak, record { 0 = high }) known.0 is.has_peak
    (greatest_only axis places side.2.0 high known.1 (greatest_is places n axis has)))
    (λ e. let known = is.below (less_of peak.0 (pos 0) e) in
    same_side side (record { 0 = low }, peak, zero_number)
    (least_only axis places side.0.0 low known.0 (least_is places n axis has)) is.has_peak
    known.1)
    (λ e f. let none : peak.0 ≡ pos 0 = zero_peak peak.0 e f in
    let known = is.inactive none in
    same_side side (zero_number, zero_number, zero_number) known.0 (is.has_peak ∙ none) known.1)

widest_only : (places : List (List F2Dot14)) (n : ℕ) (place : List F2Dot14) (sides : List Side)
    → Contains places (replicate n zero_number) → IsWidest places place sides
    → sides ≡ spec.widest_from places 0 place
widest_only places n place sides has is =
    same_sides sides (spec.widest_from places 0 place)
    (is.as_many ∙ sym (length-widest_from places 0 place))
    (λ axis h. let peak = coordinate_on axis place in
    let within : axis < length place = omega (arith, h, is.as_many) in
    let same : 0 + axis ≡ axis = omega arith in
    let widest : side_on axis (spec.widest_from places 0 place) ≡ widest_at places axis peak =
    widest_on places 0 place axis within ∙ ap (λ (a : ℕ). widest_at places a peak) same in
    widest_on_only places n axis peak (side_on axis sides) has (is.each axis within) ∙ sym widest)

-- so is what is left after each earlier place
after_only : (places : List (List F2Dot14)) (n : ℕ) (earlier : List (List F2Dot14))
    (place : List F2Dot14) (sides : List Side) (k : ℕ) → Contains places (replicate n zero_number)
    → EachIndex earlier (λ j. length (place_at earlier j) ≡ length place)
    → (is : IsSupport places earlier place sides) → k ≤ length earlier
    → is.after k ≡ fold spec.narrowed (spec.widest_from places 0 place) (take k earlier)
after_only places n earlier place sides zero has fits is h
    = widest_only places n place (is.after 0) has is.first
after_only places n earlier place sides (suc k) has fits is h =
    let widest = spec.widest_from places 0 place in
    let before = fold spec.narrowed widest (take k earlier) in
    let other = place_at earlier k in
    let within : k < length earlier = omega arith in
    let now : is.after k ≡ before = after_only places n earlier place sides k has fits is
    (omega arith) in
    let long : length (is.after k) ≡ length other =
    ap length now ∙ length-fold-narrowed widest (take k earlier) ∙ length-widest_from places 0 place
    ∙ sym (fits k within) in
    let next : k + 1 ≡ suc k = omega arith in
    ap is.after (sym next)
    ∙ narrowed_only (is.after k) other (is.after (k + 1)) long (is.each k within)
    ∙ ap (λ (s : List Side). spec.narrowed s other) now
    ∙ sym (fold_more spec.narrowed widest earlier k [] within)
    ∙ ap (λ (m : ℕ). fold spec.narrowed widest (take m earlier)) next

support_only : (places : List (List F2Dot14)) (n : ℕ) (earlier : List (List F2Dot14))
    (place : List F2Dot14) (sides : List Side) → Contains places (replicate n zero_number)
    → EachIndex earlier (λ j. length (place_at earlier j) ≡ length place)
    → IsSupport places earlier place sides → sides ≡ (spec.support places earlier place).sides
support_only places n earlier place sides has fits is =
    sym is.last
    ∙ after_only places n earlier place sides (length earlier) has fits is (omega arith)
    ∙ ap (λ (l : List (List F2Dot14)). fold spec.narrowed (spec.widest_from places 0 place) l)
    (take_all (length earlier) earlier (omega arith))

pub no_other_supports : (places : List (List F2Dot14))
    → EachIndex places (λ i. length (place_at places i) ≡ axis_count places)
    → Contains places (replicate (axis_count places) zero_number) → NoOtherSupports places
no_other_supports places one_length has_zero k sides h is =
    let sides_of : Region → List Side = λ r. r.sides in
    support_only places (axis_count places) (take k (ordered places)) (place_at (ordered places) k)
    sides has_zero (earlier_fit places k one_length h) is
    ∙ ap sides_of (sym (support_in_order places k h))
