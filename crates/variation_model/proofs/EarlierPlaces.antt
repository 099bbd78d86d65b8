-- A region counts nothing at the places before its own.
use Rattle.std.proofs.Common.{◌≡◌, ℕ, zero, suc, ◌<◌, Bool, true, false, cond, not, ◌&&◌, ◌||◌, ◌⊎◌}
use Rattle.std.proofs.Common.{inl, inr, ⊎_elim, List, [], ◌∷◌, refl, sym, ap, ◌∙◌, arith, length}
use Rattle.std.proofs.Common.{get_or, ℤ, pos}
use Rattle.std.proofs.lemmas.Int.{ints}
use Rattle.std.proofs.lemmas.Bool.{or_cases, and_cases, cases_Bool, or_left, or_right, and_parts}
use Rattle.std.proofs.lemmas.Bool.{cond_both}
use Rattle.std.proofs.lemmas.Bool.Decides.{nat_tests}
use Rattle.std.specs.Prelude.{int_lt, int_le}
use Rattle.std.specs.List.{fold}
use Rattle.std.specs.Ordering.{int_eq}
use Rattle.fixed_math.specs.declared.F2Dot14.{F2Dot14}
use Rattle.fixed_math.specs.FixedPoint.{product}
use Rattle.fixed_math.specs.ProductLaws.{product_zero_left, product_zero_right}
use Rattle.variation_model.specs.Supports as spec
use Rattle.variation_model.specs.Scalar.{axis_scalar, scalar_from}
use Rattle.variation_model.proofs.OwnSupports.{Side, Peaks, narrowed_Peaks}

-- whether a number is at a side's start or end, or past it, on an axis that counts
abbrev pub is_out : Side → F2Dot14 → Bool
is_out side v =
    not (int_eq side.1.0 (pos 0) || int_eq v.0 side.1.0)
    && (int_le v.0 side.0.0 || int_le side.2.0 v.0)

abbrev pub some_out : List Side → List F2Dot14 → Bool
some_out [] vs = false
some_out (side ∷ sides) [] = false
some_out (side ∷ sides) (v ∷ vs) = is_out side v || some_out sides vs

-- such a region counts nothing
zero_cond : (a b : Bool) (x y : ℤ) → (not a && b) ≡ true → cond a x (cond b (pos 0) y) ≡ pos 0
zero_cond true b x y e = cc
zero_cond false true x y e = refl
zero_cond false false x y e = cc

zero_on_axis : (side : Side) (v : F2Dot14) → is_out side v ≡ true → axis_scalar side v ≡ pos 0
zero_on_axis side v e =
    zero_cond (int_eq side.1.0 (pos 0) || int_eq v.0 side.1.0)
    (int_le v.0 side.0.0 || int_le side.2.0 v.0) (pos 65536) _ e

zero_from : (sides : List Side) (place : List F2Dot14) → scalar_from (pos 0) sides place ≡ pos 0
zero_from [] place = refl
zero_from (side ∷ sides) [] = refl
zero_from (side ∷ sides) (v ∷ vs) =
    ap (λ z. scalar_from z sides vs) (product_zero_left (axis_scalar side v)) ∙ zero_from sides vs

pub nothing_from : (before : ℤ) (sides : List Side) (place : List F2Dot14)
    → some_out sides place ≡ true → scalar_from before sides place ≡ pos 0
nothing_from before [] place e = cc
nothing_from before (side ∷ sides) [] e = cc
nothing_from before (side ∷ sides) (v ∷ vs) e =
    ⊎_elim
    (λ h. ap (λ z. scalar_from (product before z) sides vs) (zero_on_axis side v h)
    ∙ ap (λ z. scalar_from z sides vs) (product_zero_right before) ∙ zero_from sides vs)
    (λ h. nothing_from (product before (axis_scalar side v)) sides vs h)
    (or_cases (is_out side v) (some_out sides vs) e)

-- what is out stays out when a place that is inside cuts
out_of_start : (s p e v w : ℤ) → (cond (int_eq p (pos 0)) (int_eq w (pos 0))
    (not (int_eq w (pos 0)) && (int_eq w p || (int_lt s w && int_lt w e)))) ≡ true
    → (not (int_eq p (pos 0) || int_eq v p) && (int_le v s || int_le e v)) ≡ true
    → int_lt w p ≡ true → (not (int_eq p (pos 0) || int_eq v p) && (int_le v w || int_le e v))
    ≡ true
out_of_start s p e v w f g h = grind (arith, ints)

out_of_end : (s p e v w : ℤ) → (cond (int_eq p (pos 0)) (int_eq w (pos 0))
    (not (int_eq w (pos 0)) && (int_eq w p || (int_lt s w && int_lt w e)))) ≡ true
    → (not (int_eq p (pos 0) || int_eq v p) && (int_le v s || int_le e v)) ≡ true
    → int_lt p w ≡ true → (not (int_eq p (pos 0) || int_eq v p) && (int_le v s || int_le w v))
    ≡ true
out_of_end s p e v w f g h = grind (arith, ints)

cut_by : (P : Side → Type 0) (a b c : Bool) (side : Side) (w : F2Dot14) → P side
    → (b ≡ true → P (w, side.1, side.2)) → (c ≡ true → P (side.0, side.1, w))
    → P (cond a side (cond b (w, side.1, side.2) (cond c (side.0, side.1, w) side)))
cut_by P true b c side w p f g = p
cut_by P false true c side w p f g = f refl
cut_by P false false true side w p f g = g refl
cut_by P false false false side w p f g = p

cut_out : (largest : ℕ × ℕ) (side : Side) (w v : F2Dot14) → spec.is_inside side w ≡ true
    → is_out side v ≡ true → is_out (spec.cut_at_least largest side w) v ≡ true
cut_out largest side w v f g =
    let P : Side → Type 0 = λ s. is_out s v ≡ true in
    cut_by P (spec.is_less (spec.axis_ratio side w) largest) (int_lt w.0 side.1.0)
    (int_lt side.1.0 w.0) side w g
    (λ h. out_of_start side.0.0 side.1.0 side.2.0 v.0 w.0 f g h)
    (λ h. out_of_end side.0.0 side.1.0 side.2.0 v.0 w.0 f g h)

cut_some_out : (largest : ℕ × ℕ) (sides : List Side) (ws vs : List F2Dot14)
    → spec.all_inside sides ws ≡ true → some_out sides vs ≡ true
    → some_out (spec.cut_largest largest sides ws) vs ≡ true
cut_some_out largest [] ws vs f g = g
cut_some_out largest (side ∷ sides) [] vs f g = g
cut_some_out largest (side ∷ sides) (w ∷ ws) [] f g = cc
cut_some_out largest (side ∷ sides) (w ∷ ws) (v ∷ vs) f g =
    let both = and_parts (spec.is_inside side w) (spec.all_inside sides ws) f in
    ⊎_elim
    (λ h. or_left (is_out (spec.cut_at_least largest side w) v)
    (some_out (spec.cut_largest largest sides ws) vs) (cut_out largest side w v both.0 h))
    (λ h. or_right (is_out (spec.cut_at_least largest side w) v)
    (some_out (spec.cut_largest largest sides ws) vs)
    (cut_some_out largest sides ws vs both.1 h))
    (or_cases (is_out side v) (some_out sides vs) g)

narrowed_some_out : (sides : List Side) (ws vs : List F2Dot14) → some_out sides vs ≡ true
    → some_out (spec.narrowed sides ws) vs ≡ true
narrowed_some_out sides ws vs g =
    let P : List Side → Type 0 = λ s. some_out s vs ≡ true in
    cond_both (spec.all_inside sides ws) (spec.cut_largest (spec.largest_ratio sides ws) sides ws)
    sides P
    (λ f. cut_some_out (spec.largest_ratio sides ws) sides ws vs f g) (λ _. g)

pub stays_out : (sides : List Side) (earlier : List (List F2Dot14)) (vs : List F2Dot14)
    → some_out sides vs ≡ true → some_out (fold spec.narrowed sides earlier) vs ≡ true
stays_out sides [] vs g = g
stays_out sides (place ∷ rest) vs g = stays_out (spec.narrowed sides place) rest vs
    (narrowed_some_out sides place vs g)

-- a place differs from another, and has the same active axes
abbrev pub differs : List F2Dot14 → List F2Dot14 → Bool
differs [] vs = false
differs (p ∷ ps) [] = false
differs (p ∷ ps) (v ∷ vs) = not (int_eq v.0 p.0) || differs ps vs

abbrev pub SameAxes : List F2Dot14 → List F2Dot14 → Type 0
SameAxes [] vs = Unit {0}
SameAxes (p ∷ ps) [] = ⊥
SameAxes (p ∷ ps) (v ∷ vs) = (int_eq p.0 (pos 0) ≡ int_eq v.0 (pos 0)) × SameAxes ps vs

-- a place with the same active axes that isn't inside is out
out_of_side : (s p e v : ℤ) → int_eq p (pos 0) ≡ int_eq v (pos 0)
    → (cond (int_eq p (pos 0)) (int_eq v (pos 0))
    (not (int_eq v (pos 0)) && (int_eq v p || (int_lt s v && int_lt v e)))) ≡ false
    → (not (int_eq p (pos 0) || int_eq v p) && (int_le v s || int_le e v)) ≡ true
out_of_side s p e v f g = grind (arith, ints)

is_active_same : (side : Side) (p v : F2Dot14) → side.1.0 ≡ p.0
    → int_eq p.0 (pos 0) ≡ int_eq v.0 (pos 0) → int_eq side.1.0 (pos 0) ≡ int_eq v.0 (pos 0)
is_active_same side p v e f = ap (λ z. int_eq z (pos 0)) e ∙ f

out_where_not_inside : (sides : List Side) (place vs : List F2Dot14) → Peaks sides place
    → SameAxes place vs → spec.all_inside sides vs ≡ false → some_out sides vs ≡ true
out_where_not_inside [] place vs p a e = cc
out_where_not_inside (side ∷ sides) [] vs p a e = absurd p
out_where_not_inside (side ∷ sides) (q ∷ qs) [] p a e = absurd a
out_where_not_inside (side ∷ sides) (q ∷ qs) (v ∷ vs) p a e =
    ⊎_elim
    (λ h. or_left (is_out side v) (some_out sides vs)
    (out_of_side side.0.0 side.1.0 side.2.0 v.0 (is_active_same side q v p.0 a.0) h))
    (λ h. or_right (is_out side v) (some_out sides vs) (out_where_not_inside sides qs vs p.1 a.1 h))
    (and_cases (spec.is_inside side v) (spec.all_inside sides vs) e)

-- an axis on which a place differs from the peak and whose ratio is not less than this one
abbrev is_hit : ℕ × ℕ → Side → F2Dot14 → Bool
is_hit largest side v = not (int_eq v.0 side.1.0)
    && not (spec.is_less (spec.axis_ratio side v) largest)

abbrev some_hit : ℕ × ℕ → List Side → List F2Dot14 → Bool
some_hit largest [] vs = false
some_hit largest (side ∷ sides) [] = false
some_hit largest (side ∷ sides) (v ∷ vs) = is_hit largest side v || some_hit largest sides vs

abbrev Reached : ℕ × ℕ → ℕ × ℕ → List Side → List F2Dot14 → Type 0
Reached final largest sides vs = (final ≡ largest) ⊎ (some_hit final sides vs ≡ true)

no_less : (x : ℕ × ℕ) → spec.is_less x x ≡ false
no_less x = grind (arith, nat_tests)

not_below_zero : (x : ℕ × ℕ) → spec.is_less x (0, 1) ≡ false
not_below_zero x = grind (arith, nat_tests)

neither : (a b : Bool) (x y z : ℕ × ℕ) → a ≡ false → b ≡ false → cond a x (cond b y z) ≡ z
neither true b x y z e f = cc
neither false true x y z e f = cc
neither false false x y z e f = refl

not_less : (x y : ℤ) → x ≡ y → int_lt x y ≡ false
not_less x y e = grind (arith, ints)

axis_ratio_at_peak : (side : Side) (v : F2Dot14) → v.0 ≡ side.1.0 → spec.axis_ratio side v ≡ (0, 1)
axis_ratio_at_peak side v e =
    neither (int_lt v.0 side.1.0) (int_lt side.1.0 v.0)
    (spec.distance side.1 v, spec.distance side.1 side.0)
    (spec.distance v side.1, spec.distance side.2 side.1) (0, 1) (not_less v.0 side.1.0 e)
    (not_less side.1.0 v.0 (sym e))

same_number : (x y : ℤ) → int_eq x y ≡ true → x ≡ y
same_number x y e = grind (arith, ints)

both_not : (a b : Bool) → a ≡ false → b ≡ false → (not a && not b) ≡ true
both_not true b e f = cc
both_not false true e f = cc
both_not false false e f = refl

-- a ratio above another is that of an axis on which the place differs
own_hit : (largest final : ℕ × ℕ) (side : Side) (v : F2Dot14)
    → spec.is_less largest (spec.axis_ratio side v) ≡ true → final ≡ spec.axis_ratio side v
    → is_hit final side v ≡ true
own_hit largest final side v e f =
    let apart : int_eq v.0 side.1.0 ≡ false =
    ⊎_elim
    (λ h. let at_peak = axis_ratio_at_peak side v (same_number v.0 side.1.0 h) in
    let less : spec.is_less largest (0, 1) ≡ true = ap (spec.is_less largest) (sym at_peak) ∙ e in
    let none = not_below_zero largest in
    cc)
    (λ h. h) (cases_Bool (int_eq v.0 side.1.0)) in
    let least : spec.is_less (spec.axis_ratio side v) final
    ≡ false = ap (spec.is_less (spec.axis_ratio side v)) f ∙ no_less (spec.axis_ratio side v) in
    both_not (int_eq v.0 side.1.0) (spec.is_less (spec.axis_ratio side v) final) apart least

which : (b : Bool) (largest x final : ℕ × ℕ) → final ≡ cond b x largest
    → ((b ≡ true) × (final ≡ x)) ⊎ (final ≡ largest)
which true largest x final e = inl (refl, e)
which false largest x final e = inr e

-- the largest ratio is what was begun with, or that of an axis on which the place differs
reached : (largest : ℕ × ℕ) (sides : List Side) (vs : List F2Dot14)
    → Reached (spec.largest_ratio_from largest sides vs) largest sides vs
reached largest [] vs = inl refl
reached largest (side ∷ sides) [] = inl refl
reached largest (side ∷ sides) (v ∷ vs) =
    let next = spec.larger largest (spec.axis_ratio side v) in
    let final = spec.largest_ratio_from next sides vs in
    ⊎_elim
    (λ h. ⊎_elim
    (λ g. inr (or_left (is_hit final side v) (some_hit final sides vs)
    (own_hit largest final side v g.0 g.1)))
    (λ g. inl g)
    (which (spec.is_less largest (spec.axis_ratio side v)) largest (spec.axis_ratio side v) final
    h))
    (λ h. inr (or_right (is_hit final side v) (some_hit final sides vs) h))
    (reached next sides vs)

not_same : (a : Bool) → not a ≡ true → a ≡ false
not_same true e = cc
not_same false e = refl

all_hit : (sides : List Side) (place vs : List F2Dot14) → Peaks sides place
    → differs place vs ≡ true → some_hit (0, 1) sides vs ≡ true
all_hit [] [] vs p d = cc
all_hit [] (q ∷ qs) vs p d = absurd p
all_hit (side ∷ sides) [] vs p d = absurd p
all_hit (side ∷ sides) (q ∷ qs) [] p d = cc
all_hit (side ∷ sides) (q ∷ qs) (v ∷ vs) p d =
    ⊎_elim
    (λ h. let apart : int_eq v.0 side.1.0 ≡ false = ap (int_eq v.0) p.0
    ∙ not_same (int_eq v.0 q.0) h in
    or_left (is_hit (0, 1) side v) (some_hit (0, 1) sides vs)
    (both_not (int_eq v.0 side.1.0) (spec.is_less (spec.axis_ratio side v) (0, 1)) apart
    (not_below_zero (spec.axis_ratio side v))))
    (λ h. or_right (is_hit (0, 1) side v) (some_hit (0, 1) sides vs) (all_hit sides qs vs p.1 h))
    (or_cases (not (int_eq v.0 q.0)) (differs qs vs) d)

hit_somewhere : (sides : List Side) (place vs : List F2Dot14) → Peaks sides place
    → differs place vs ≡ true → some_hit (spec.largest_ratio sides vs) sides vs ≡ true
hit_somewhere sides place vs p d =
    ⊎_elim (λ h. ap (λ largest. some_hit largest sides vs) h ∙ all_hit sides place vs p d) (λ h. h)
    (reached (0, 1) sides vs)

-- where it is cut, the region ends
cut_where : (P : Side → Type 0) (a b c : Bool) (side : Side) (w : F2Dot14) → a ≡ false
    → (b ≡ true → P (w, side.1, side.2)) → (c ≡ true → P (side.0, side.1, w))
    → (b ≡ false → c ≡ false → P side) → P
    (cond a side (cond b (w, side.1, side.2) (cond c (side.0, side.1, w) side)))
cut_where P true b c side w e f g h = cc
cut_where P false true c side w e f g h = f refl
cut_where P false false true side w e f g h = g refl
cut_where P false false false side w e f g h = h refl refl

ends_below : (s p e v : ℤ) → (cond (int_eq p (pos 0)) (int_eq v (pos 0))
    (not (int_eq v (pos 0)) && (int_eq v p || (int_lt s v && int_lt v e)))) ≡ true
    → int_lt v p ≡ true → (not (int_eq p (pos 0) || int_eq v p) && (int_le v v || int_le e v))
    ≡ true
ends_below s p e v f g = grind (arith, ints)

ends_above : (s p e v : ℤ) → (cond (int_eq p (pos 0)) (int_eq v (pos 0))
    (not (int_eq v (pos 0)) && (int_eq v p || (int_lt s v && int_lt v e)))) ≡ true
    → int_lt p v ≡ true → (not (int_eq p (pos 0) || int_eq v p) && (int_le v s || int_le v v))
    ≡ true
ends_above s p e v f g = grind (arith, ints)

one_side : (p v : ℤ) → int_eq v p ≡ false → int_lt v p ≡ false → int_lt p v ≡ false → ⊥
one_side p v e f g = grind (arith, ints)

hit_out : (largest : ℕ × ℕ) (side : Side) (v : F2Dot14) → spec.is_inside side v ≡ true
    → is_hit largest side v ≡ true → is_out (spec.cut_at_least largest side v) v ≡ true
hit_out largest side v f g =
    let P : Side → Type 0 = λ s. is_out s v ≡ true in
    let both = and_parts (not (int_eq v.0 side.1.0))
    (not (spec.is_less (spec.axis_ratio side v) largest)) g in
    let apart = not_same (int_eq v.0 side.1.0) both.0 in
    let strong = not_same (spec.is_less (spec.axis_ratio side v) largest) both.1 in
    cut_where P (spec.is_less (spec.axis_ratio side v) largest) (int_lt v.0 side.1.0)
    (int_lt side.1.0 v.0) side v strong
    (λ h. ends_below side.0.0 side.1.0 side.2.0 v.0 f h)
    (λ h. ends_above side.0.0 side.1.0 side.2.0 v.0 f h)
    (λ h k. absurd (one_side side.1.0 v.0 apart h k))

hit_some_out : (largest : ℕ × ℕ) (sides : List Side) (vs : List F2Dot14)
    → spec.all_inside sides vs ≡ true → some_hit largest sides vs ≡ true
    → some_out (spec.cut_largest largest sides vs) vs ≡ true
hit_some_out largest [] vs f g = cc
hit_some_out largest (side ∷ sides) [] f g = cc
hit_some_out largest (side ∷ sides) (v ∷ vs) f g =
    let both = and_parts (spec.is_inside side v) (spec.all_inside sides vs) f in
    ⊎_elim
    (λ h. or_left (is_out (spec.cut_at_least largest side v) v)
    (some_out (spec.cut_largest largest sides vs) vs) (hit_out largest side v both.0 h))
    (λ h. or_right (is_out (spec.cut_at_least largest side v) v)
    (some_out (spec.cut_largest largest sides vs) vs) (hit_some_out largest sides vs both.1 h))
    (or_cases (is_hit largest side v) (some_hit largest sides vs) g)

-- a place that takes away from a region is out of it then
narrowed_out : (sides : List Side) (place vs : List F2Dot14) → Peaks sides place → SameAxes place vs
    → differs place vs ≡ true → some_out (spec.narrowed sides vs) vs ≡ true
narrowed_out sides place vs p a d =
    let P : List Side → Type 0 = λ s. some_out s vs ≡ true in
    cond_both (spec.all_inside sides vs) (spec.cut_largest (spec.largest_ratio sides vs) sides vs)
    sides P
    (λ f. hit_some_out (spec.largest_ratio sides vs) sides vs f (hit_somewhere sides place vs p d))
    (λ f. out_where_not_inside sides place vs p a f)

pub becomes_out : (sides : List Side) (earlier : List (List F2Dot14)) (place : List F2Dot14) (i : ℕ)
    → i < length earlier → Peaks sides place → SameAxes place (get_or earlier i [])
    → differs place (get_or earlier i []) ≡ true
    → some_out (fold spec.narrowed sides earlier) (get_or earlier i []) ≡ true
becomes_out sides [] place i h p a d = absurd (omega arith)
becomes_out sides (other ∷ rest) place zero h p a d =
    stays_out (spec.narrowed sides other) rest other (narrowed_out sides place other p a d)
becomes_out sides (other ∷ rest) place (suc i) h p a d =
    becomes_out (spec.narrowed sides other) rest place i (omega arith)
    (narrowed_Peaks sides other place p) a d
