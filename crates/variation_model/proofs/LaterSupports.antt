-- The supports of later places count nothing at earlier ones, where places are sorted by how many
-- axes are active.
use Rattle.std.proofs.Common.{◌≡◌, ◌≢◌, ℕ, zero, suc, ◌+◌, ◌<◌, ◌≤◌, Bool, true, false, cond, not}
use Rattle.std.proofs.Common.{◌&&◌, ◌||◌, ⊎_elim, List, [], ◌∷◌, ◌++◌, refl, sym, ap, ◌∙◌, arith}
use Rattle.std.proofs.Common.{length, get_or, take, ℤ, pos, subst, append_assoc, append-nil}
use Rattle.std.proofs.lemmas.Int.{ints}
use Rattle.std.proofs.lemmas.Bool.{or_cases, cases_Bool, or_left, or_right, or_parts}
use Rattle.std.proofs.lemmas.List.{length-take-le, get_or-take, get_or-map, length-map}
use Rattle.std.specs.Prelude.{int_lt, int_le, filter, EachIndex}
use Rattle.std.specs.List.{fold, enumerate_from}
use Rattle.std.specs.Ordering.{int_eq}
use Rattle.fixed_math.specs.declared.F2Dot14.{F2Dot14}
use Rattle.font_ir.specs.declared.variation.Region.{Region}
use Rattle.variation_model.specs.Places.{zero_number, place_at, is_active, active, axis_count}
use Rattle.variation_model.specs.Places.{ordered, order_of}
use Rattle.variation_model.specs.Supports as spec
use Rattle.variation_model.specs.Scalar.{scalar_of}
use Rattle.variation_model.specs.Deltas.{region_at}
use Rattle.variation_model.specs.Laws.{comes_before, IsInOrder, LaterSupportsCountNothing}
use Rattle.variation_model.proofs.ModelLemmas.{length-order_of, ordered_length}
use Rattle.variation_model.proofs.KeyLemmas.{no_more_active}
use Rattle.variation_model.proofs.OrderLaws.{order_IsInOrder, comes_before_IsOrder}
use Rattle.variation_model.proofs.OwnSupports.{Side, widest_Peaks}
use Rattle.variation_model.proofs.EarlierPlaces.{is_out, some_out, nothing_from, stays_out, differs}
use Rattle.variation_model.proofs.EarlierPlaces.{SameAxes, becomes_out}

-- whether an axis that is active in a place isn't in another
abbrev is_missing : F2Dot14 → F2Dot14 → Bool
is_missing p v = not (int_eq p.0 (pos 0)) && int_eq v.0 (pos 0)

abbrev some_missing : List F2Dot14 → List F2Dot14 → Bool
some_missing [] vs = false
some_missing (p ∷ ps) [] = false
some_missing (p ∷ ps) (v ∷ vs) = is_missing p v || some_missing ps vs

-- then the other is out of the place's region from the first
by_sign : (P : Side → Type 0) (a b : Bool) (x y z : Side) → (a ≡ true → P x) → (b ≡ true → P y)
    → (a ≡ false → b ≡ false → P z) → P (cond a x (cond b y z))
by_sign P true b x y z f g h = f refl
by_sign P false true x y z f g h = g refl
by_sign P false false x y z f g h = h refl refl

at_start : (p v high : ℤ) → (not (int_eq p (pos 0)) && int_eq v (pos 0)) ≡ true
    → (not (int_eq p (pos 0) || int_eq v p) && (int_le v (pos 0) || int_le high v)) ≡ true
at_start p v high e = grind (arith, ints)

at_end : (p v low : ℤ) → (not (int_eq p (pos 0)) && int_eq v (pos 0)) ≡ true
    → (not (int_eq p (pos 0) || int_eq v p) && (int_le v low || int_le (pos 0) v)) ≡ true
at_end p v low e = grind (arith, ints)

no_sign : (p v : ℤ) → (not (int_eq p (pos 0)) && int_eq v (pos 0)) ≡ true → int_lt (pos 0) p ≡ false
    → int_lt p (pos 0) ≡ false → ⊥
no_sign p v e f g = grind (arith, ints)

widest_out : (low : ℤ) (p : F2Dot14) (high : ℤ) (v : F2Dot14) → is_missing p v ≡ true
    → is_out (spec.widest_side low p high) v ≡ true
widest_out low p high v e =
    let P : Side → Type 0 = λ s. is_out s v ≡ true in
    by_sign P (int_lt (pos 0) p.0) (int_lt p.0 (pos 0)) (zero_number, p, record { 0 = high })
    (record { 0 = low }, p, zero_number) (zero_number, zero_number, zero_number)
    (λ _. at_start p.0 v.0 high e) (λ _. at_end p.0 v.0 low e)
    (λ f g. absurd (no_sign p.0 v.0 e f g))

missing_out : (places : List (List F2Dot14)) (axis : ℕ) (place vs : List F2Dot14)
    → some_missing place vs ≡ true → some_out (spec.widest_from places axis place) vs ≡ true
missing_out places axis [] vs e = cc
missing_out places axis (p ∷ ps) [] e = cc
missing_out places axis (p ∷ ps) (v ∷ vs) e =
    let side = spec.widest_side (spec.least places axis) p (spec.greatest places axis) in
    let sides = spec.widest_from places (axis + 1) ps in
    ⊎_elim
    (λ h. or_left (is_out side v) (some_out sides vs)
    (widest_out (spec.least places axis) p (spec.greatest places axis) v h))
    (λ h. or_right (is_out side v) (some_out sides vs) (missing_out places (axis + 1) ps vs h))
    (or_cases (is_missing p v) (some_missing ps vs) e)

-- else the other has as many active axes, and no more only where they are the same
abbrev active_from : ℕ → List F2Dot14 → List (ℕ × F2Dot14)
active_from n place = filter is_active (enumerate_from n place)

length-kept : (b : Bool) (x : ℕ × F2Dot14) (xs : List (ℕ × F2Dot14))
    → length (cond (not b) (x ∷ xs) xs) ≡ cond b 0 1 + length xs
length-kept true x xs = omega arith
length-kept false x xs = omega arith

no_more : (a b : Bool) → (not a && b) ≡ false → cond a 0 1 ≤ cond b 0 1
no_more true true e = omega arith
no_more true false e = omega arith
no_more false true e = cc
no_more false false e = omega arith

same_flag : (a b : Bool) → (not a && b) ≡ false → cond b 0 1 ≤ cond a 0 1 → a ≡ b
same_flag true true e h = refl
same_flag true false e h = absurd (omega arith)
same_flag false true e h = cc
same_flag false false e h = refl

as_many : (n : ℕ) (ps vs : List F2Dot14) → length ps ≡ length vs → some_missing ps vs ≡ false
    → length (active_from n ps) ≤ length (active_from n vs)
as_many n [] vs e f = omega arith
as_many n (p ∷ ps) [] e f = absurd (omega arith)
as_many n (p ∷ ps) (v ∷ vs) e f =
    let own = no_more (int_eq p.0 (pos 0)) (int_eq v.0 (pos 0))
    ((or_parts (is_missing p v) (some_missing ps vs) f).0) in
    let others = as_many (n + 1) ps vs (omega arith)
    ((or_parts (is_missing p v) (some_missing ps vs) f).1) in
    omega (
      arith,
      length-kept (int_eq p.0 (pos 0)) (n, p) (active_from (n + 1) ps),
      length-kept
          (int_eq v.0 (pos 0)) (n, v) (active_from (n + 1) vs),
      own,
      others,
    )

alike : (n : ℕ) (ps vs : List F2Dot14) → length ps ≡ length vs → some_missing ps vs ≡ false
    → length (active_from n vs) ≤ length (active_from n ps) → SameAxes ps vs
alike n [] vs e f h = tt
alike n (p ∷ ps) [] e f h = absurd (omega arith)
alike n (p ∷ ps) (v ∷ vs) e f h =
    let none = or_parts (is_missing p v) (some_missing ps vs) f in
    let same_length : length ps ≡ length vs = omega arith in
    let own = no_more (int_eq p.0 (pos 0)) (int_eq v.0 (pos 0)) none.0 in
    let others = as_many (n + 1) ps vs same_length none.1 in
    let kept_p = length-kept (int_eq p.0 (pos 0)) (n, p) (active_from (n + 1) ps) in
    let kept_v = length-kept (int_eq v.0 (pos 0)) (n, v) (active_from (n + 1) vs) in
    let flags : cond (int_eq v.0 (pos 0)) 0 1 ≤ cond (int_eq p.0 (pos 0)) 0 1
    = omega (arith, kept_p, kept_v, others) in
    let fewer : length (active_from (n + 1) vs) ≤ length (active_from (n + 1) ps)
    = omega (arith, kept_p, kept_v, own) in (
      same_flag (int_eq p.0 (pos 0)) (int_eq v.0 (pos 0)) none.0 flags,
      alike (n + 1) ps vs
          same_length none.1 fewer,
    )

-- places that don't differ on an axis are the same
not_apart : (a : Bool) → not a ≡ false → a ≡ true
not_apart true e = refl
not_apart false e = cc

equal_numbers : (p v : F2Dot14) → int_eq v.0 p.0 ≡ true → p ≡ v
equal_numbers p v e =
    let same : p.0 ≡ v.0 = grind (arith, ints) in
    let number : ℤ → F2Dot14 = λ z. record { 0 = z } in
    ap number same

no_difference : (ps vs : List F2Dot14) → length ps ≡ length vs → differs ps vs ≡ false → ps ≡ vs
no_difference [] [] e f = refl
no_difference [] (v ∷ vs) e f = absurd (omega arith)
no_difference (p ∷ ps) [] e f = absurd (omega arith)
no_difference (p ∷ ps) (v ∷ vs) e f =
    let none = or_parts (not (int_eq v.0 p.0)) (differs ps vs) f in
    let own = equal_numbers p v (not_apart (int_eq v.0 p.0) none.0) in
    let others = no_difference ps vs (omega arith) none.1 in
    cc

pub some_difference : (ps vs : List F2Dot14) → length ps ≡ length vs → ps ≢ vs
    → differs ps vs ≡ true
some_difference ps vs e f = ⊎_elim (λ h. h) (λ h. absurd (f (no_difference ps vs e h)))
    (cases_Bool (differs ps vs))

-- a region counts nothing at an earlier place, which has no more active axes
pub nothing_at_earlier : (places earlier : List (List F2Dot14)) (place : List F2Dot14) (i : ℕ)
    → i < length earlier → length place ≡ length (get_or earlier i []) → place ≢ get_or earlier i []
    → length (active (get_or earlier i [])) ≤ length (active place)
    → scalar_of ((spec.support places earlier place).sides) (get_or earlier i []) ≡ pos 0
nothing_at_earlier places earlier place i h same_length apart fewer =
    let other = get_or earlier i [] in
    let widest = spec.widest_from places 0 place in
    let sides = fold spec.narrowed widest earlier in
    let out : some_out sides other ≡ true =
    ⊎_elim
    (λ f. stays_out widest earlier other (missing_out places 0 place other f))
    (λ f. becomes_out widest earlier place i h (widest_Peaks places 0 place)
    (alike 0 place other same_length f fewer) (some_difference place other same_length apart))
    (cases_Bool (some_missing place other)) in
    nothing_from (pos 65536) sides other out

-- the support of each place is that after those before it
pub support_at : (places earlier rest : List (List F2Dot14)) (k : ℕ) → k < length rest
    → region_at (spec.supports_after places earlier rest) k
    ≡ spec.support places (earlier ++ take k rest) (place_at rest k)
support_at places earlier [] k h = absurd (omega arith)
support_at places earlier (place ∷ rest) zero h =
    ap (λ (e : List (List F2Dot14)). spec.support places e place) (sym (append-nil earlier))
support_at places earlier (place ∷ rest) (suc k) h =
    support_at places (earlier ++ place ∷ []) rest k (omega arith)
    ∙ ap (λ (e : List (List F2Dot14)). spec.support places e (place_at rest k))
    (append_assoc earlier (place ∷ []) (take k rest))

-- the places in their order rise
pub rising_places : (places : List (List F2Dot14)) (j k : ℕ) → IsInOrder places (order_of places)
    → j < k → k < length places → comes_before places (place_at (ordered places) j)
    (place_at (ordered places) k) ≡ true
rising_places places j k sorted h l =
    let as_many = length-order_of places in
    let first : place_at (ordered places) j ≡ place_at places (get_or (order_of places) j 0) =
    get_or-map (place_at places) (order_of places) j 0 [] (omega arith) in
    let second : place_at (ordered places) k ≡ place_at places (get_or (order_of places) k 0) =
    get_or-map (place_at places) (order_of places) k 0 [] (omega arith) in
    ap (λ x. comes_before places x (place_at (ordered places) k)) first
    ∙ ap (λ y. comes_before places (place_at places (get_or (order_of places) j 0)) y) second
    ∙ sorted.rising j k h l

pub later_supports : (places : List (List F2Dot14))
    → EachIndex places (λ i. length (place_at places i) ≡ axis_count places)
    → ((i j : ℕ) → i < j → j < length places → place_at places i ≢ place_at places j)
    → LaterSupportsCountNothing places
unfolding spec.supports_of
later_supports places one_length different j k h l =
    let in_order = ordered places in
    let as_many : length in_order ≡ length places = length-map (order_of places) (place_at places)
    ∙ length-order_of places in
    let first = place_at in_order j in
    let second = place_at in_order k in
    let before = rising_places places j k (order_IsInOrder places one_length different) h l in
    let earlier = take k in_order in
    let same : get_or earlier j [] ≡ first = get_or-take k in_order j [] h in
    let within : j < length earlier = omega (arith, length-take-le k in_order) in
    let long : length second ≡ length first =
    ordered_length places one_length k (omega arith)
    ∙ sym (ordered_length places one_length j (omega arith)) in
    let apart : second ≢ first =
    λ e. let twice : comes_before places first first ≡ true = ap (comes_before places first) (sym e)
    ∙ before in
    let never = (comes_before_IsOrder places).irreflexive first in
    cc in
    let fewer = no_more_active places first second before in
    let P : List F2Dot14 → Type 0 = λ v. scalar_of ((spec.support places earlier second).sides) v
    ≡ pos 0 in
    let Q : List F2Dot14 → Type 0 = λ v. length second ≡ length v → second ≢ v
    → length (active v) ≤ length (active second) → P v in
    let at_earlier : Q (get_or earlier j []) = nothing_at_earlier places earlier second j within in
    let nothing : P first = subst Q same at_earlier long apart fewer in
    ap (λ (r : Region). scalar_of r.sides first) (support_at places [] in_order k (omega arith))
    ∙ nothing
