-- Different places have different keys, and one of two different keys is less.
use Rattle.std.proofs.Common.{Ordering, Less, Equal, Greater, ◌≡◌, ℕ, ◌+◌, ◌≤◌, Bool, true, false}
use Rattle.std.proofs.Common.{cond, not, ◌⊎◌, inl, inr, ⊎_elim, List, [], ◌∷◌, ◌++◌, refl, sym, ap}
use Rattle.std.proofs.Common.{◌∙◌, arith, length, map, ℤ, pos, negsuc}
use Rattle.std.proofs.lemmas.Int.{ints}
use Rattle.std.proofs.lemmas.Bool.{cases_Bool}
use Rattle.std.proofs.lemmas.Bool.Decides.{nat_tests}
use Rattle.std.proofs.lemmas.Cmp.{nat_list_cmp_total}
use Rattle.std.proofs.lemmas.List.{length-map}
use Rattle.std.proofs.lemmas.Map.Text.{is_eq-slice_cmp}
use Rattle.std.proofs.lemmas.Slice.Eq.{bytes_eq-Decides}
use Rattle.std.specs.Prelude.{int_lt, filter, unsigned_abs, count_by}
use Rattle.std.specs.List.{enumerate_from}
use Rattle.std.specs.Ordering.{nat_cmp, is_lt, is_gt, is_eq, ordering_then, ordering_reverse}
use Rattle.std.specs.Ordering.{int_eq}
use Rattle.std.specs.Cmp.Lexicographic.{slice_cmp}
use Rattle.fixed_math.specs.declared.F2Dot14.{F2Dot14}
use Rattle.variation_model.specs.Places as spec
use Rattle.variation_model.proofs.RankLemmas.{IsStrict}

-- keys are compared strictly
no_less : (o : Ordering) → o ≡ ordering_reverse o → is_lt o ≡ false
no_less Less e = cc
no_less Equal e = refl
no_less Greater e = refl

is_less : (o : Ordering) → is_lt o ≡ true → o ≡ Less
is_less Less e = refl
is_less Equal e = cc
is_less Greater e = cc

is_same : (o p : Ordering) → o ≡ ordering_reverse p → is_lt o ≡ false → is_lt p ≡ false
    → is_eq o ≡ true
is_same Less p e f g = cc
is_same Equal p e f g = refl
is_same Greater Less e f g = cc
is_same Greater Equal e f g = cc
is_same Greater Greater e f g = cc

abbrev compared : List ℕ → List ℕ → Ordering
compared x y = slice_cmp nat_cmp x y

pub less_key_IsStrict : IsStrict spec.is_less_key
less_key_IsStrict = record {
  irreflexive = λ x. no_less (compared x x) (nat_list_cmp_total.antisymm x x);
  transitive = λ x y z e f. ap is_lt (nat_list_cmp_total.trans x y z (is_less (compared x y) e)
      (is_less (compared y z) f));
  total = λ x y e f.
      let same = is_same (compared x y) (compared y x) (nat_list_cmp_total.antisymm x y) e f in
      (bytes_eq-Decides x y).0 (sym (is_eq-slice_cmp x y) ∙ same);
}

-- lists that are as long are the same where they stand first in the same list
parts : (a b c d : List ℕ) → length a ≡ length b → a ++ c ≡ b ++ d → (a ≡ b) × (c ≡ d)
parts [] [] c d h e = (refl, e)
parts [] (y ∷ ys) c d h e = absurd (omega arith)
parts (x ∷ xs) [] c d h e = absurd (omega arith)
parts (x ∷ xs) (y ∷ ys) c d h e =
    let first : x ≡ y = cc in
    let tails : xs ++ c ≡ ys ++ d = cc in
    let others = parts xs ys c d (omega arith) tails in
    let all : x ∷ xs ≡ y ∷ ys = let others_same = others.0 in cc in
    (all, others.1)

-- sign and absolute value tell a number
abbrev number : ℤ → F2Dot14
number z = record { 0 = z }

same_signed : (x y : ℤ) → cond {A = ℕ} (int_lt x (pos 0)) 0 1 ≡ cond (int_lt y (pos 0)) 0 1
    → unsigned_abs x ≡ unsigned_abs y → x ≡ y
same_signed (pos m) (pos n) e f = omega (arith, ints)
same_signed (pos m) (negsuc n) e f = grind (arith, ints)
same_signed (negsuc m) (pos n) e f = grind (arith, ints)
same_signed (negsuc m) (negsuc n) e f = omega (arith, ints)

same_pair : (m n : ℕ) (p v : F2Dot14) → m ≡ n → p ≡ v → ◌≡◌ {A = ℕ × F2Dot14} (m, p) (n, v)
same_pair m n p v e f = cc

same_list : (c d : ℕ × F2Dot14) (cs ds : List (ℕ × F2Dot14)) → c ≡ d → cs ≡ ds → c ∷ cs ≡ d ∷ ds
same_list c d cs ds e f = cc

same_coordinates : (a b : List (ℕ × F2Dot14)) → map (λ c. c.0) a ≡ map (λ c. c.0) b
    → map spec.sign_of a ≡ map spec.sign_of b
    → map (λ c. unsigned_abs c.1.0) a ≡ map (λ c. unsigned_abs c.1.0) b → a ≡ b
same_coordinates [] [] e f g = refl
same_coordinates [] (d ∷ ds) e f g = cc
same_coordinates (c ∷ cs) [] e f g = cc
same_coordinates (c ∷ cs) (d ∷ ds) e f g =
    let axis : c.0 ≡ d.0 = cc in
    let sign : spec.sign_of c ≡ spec.sign_of d = cc in
    let size : unsigned_abs c.1.0 ≡ unsigned_abs d.1.0 = cc in
    let raw : c.1.0 ≡ d.1.0 = same_signed c.1.0 d.1.0 sign size in
    let coordinate : c.1 ≡ d.1 = ap number raw in
    let pair : c ≡ d = same_pair c.0 d.0 c.1 d.1 axis coordinate in
    let axes : map (λ c. c.0) cs ≡ map (λ c. c.0) ds = cc in
    let signs : map spec.sign_of cs ≡ map spec.sign_of ds = cc in
    let sizes : map (λ c. unsigned_abs c.1.0) cs ≡ map (λ c. unsigned_abs c.1.0) ds = cc in
    same_list c d cs ds pair (same_coordinates cs ds axes signs sizes)

-- the active coordinates tell a place of so many axes
abbrev pub active_from : ℕ → List F2Dot14 → List (ℕ × F2Dot14)
active_from n place = filter spec.is_active (enumerate_from n place)

first_of : (b : Bool) (x c : ℕ × F2Dot14) (xs cs : List (ℕ × F2Dot14))
    → cond (not b) (x ∷ xs) xs ≡ c ∷ cs → (x ≡ c) ⊎ (xs ≡ c ∷ cs)
first_of true x c xs cs e = inr e
first_of false x c xs cs e = let same : x ≡ c = cc in inl same

axis_from : (n : ℕ) (place : List F2Dot14) (c : ℕ × F2Dot14) (cs : List (ℕ × F2Dot14))
    → active_from n place ≡ c ∷ cs → n ≤ c.0
axis_from n [] c cs e = cc
axis_from n (v ∷ vs) c cs e =
    ⊎_elim (λ h. let same : n ≡ c.0 = ap (λ (d : ℕ × F2Dot14). d.0) h in omega arith)
    (λ h. let later = axis_from (n + 1) vs c cs h in omega arith)
    (first_of (int_eq v.0 (pos 0)) (n, v) c (active_from (n + 1) vs) cs e)

not_first : (n : ℕ) (place : List F2Dot14) (v : F2Dot14) (cs : List (ℕ × F2Dot14))
    → active_from (n + 1) place ≡ (n, v) ∷ cs → ⊥
not_first n place v cs e = let later = axis_from (n + 1) place (n, v) cs e in absurd (omega arith)

both_kept : (a b : Bool) (x y : ℕ × F2Dot14) (xs ys : List (ℕ × F2Dot14)) → (ys ≡ x ∷ xs → ⊥)
    → (xs ≡ y ∷ ys → ⊥) → cond (not a) (x ∷ xs) xs ≡ cond (not b) (y ∷ ys) ys
    → (a ≡ b) × (xs ≡ ys) × (a ≡ false → x ≡ y)
both_kept true true x y xs ys f g e = (refl, e, λ h. cc)
both_kept true false x y xs ys f g e = absurd (g e)
both_kept false true x y xs ys f g e = absurd (f (sym e))
both_kept false false x y xs ys f g e =
    let first : x ≡ y = cc in
    let others : xs ≡ ys = cc in
    (refl, others, λ _. first)

both_zero : (x y : ℤ) → int_eq x (pos 0) ≡ true → int_eq y (pos 0) ≡ true → x ≡ y
both_zero x y e f = grind (arith, ints)

pub same_active : (n : ℕ) (ps vs : List F2Dot14) → length ps ≡ length vs
    → active_from n ps ≡ active_from n vs → ps ≡ vs
same_active n [] [] e f = refl
same_active n [] (v ∷ vs) e f = absurd (omega arith)
same_active n (p ∷ ps) [] e f = absurd (omega arith)
same_active n (p ∷ ps) (v ∷ vs) e f =
    let kept = both_kept (int_eq p.0 (pos 0)) (int_eq v.0 (pos 0)) (n, p) (n, v)
    (active_from (n + 1) ps) (active_from (n + 1) vs)
    (not_first n vs p (active_from (n + 1) ps)) (not_first n ps v (active_from (n + 1) vs)) f in
    let others : ps ≡ vs = same_active (n + 1) ps vs (omega arith) kept.1 in
    let own : p ≡ v =
    ⊎_elim (λ h. ap number (both_zero p.0 v.0 h (sym kept.0 ∙ h)))
    (λ h. ap (λ (c : ℕ × F2Dot14). c.1) (kept.2 h))
    (cases_Bool (int_eq p.0 (pos 0))) in
    cc

-- a key tells the active coordinates
same_key_among : (on_axis a b : List (ℕ × F2Dot14))
    → spec.key_among on_axis a ≡ spec.key_among on_axis b → a ≡ b
same_key_among on_axis a b e =
    let long : length a ≡ length b = cc in
    let axes_a = map (λ c. c.0) a in let axes_b = map (λ c. c.0) b in
    let signs_a = map spec.sign_of a in let signs_b = map spec.sign_of b in
    let sizes_a = map (λ c. unsigned_abs c.1.0) a in let sizes_b = map (λ c. unsigned_abs c.1.0) b
    in
    let all : axes_a ++ (signs_a ++ sizes_a) ≡ axes_b ++ (signs_b ++ sizes_b) = cc in
    let by_axes = parts axes_a axes_b (signs_a ++ sizes_a) (signs_b ++ sizes_b)
    (length-map a (λ c. c.0) ∙ long ∙ sym (length-map b (λ c. c.0))) all in
    let by_signs = parts signs_a signs_b sizes_a sizes_b
    (length-map a spec.sign_of ∙ long ∙ sym (length-map b spec.sign_of)) by_axes.1 in
    same_coordinates a b by_axes.0 by_signs.0 by_signs.1

pub same_key : (places : List (List F2Dot14)) (x y : List F2Dot14) → length x ≡ length y
    → spec.key places x ≡ spec.key places y → x ≡ y
same_key places x y h e = same_active 0 x y h
    (same_key_among (spec.all_on_axis places) (spec.active x) (spec.active y) e)

-- what is less has no more active axes
not_after : (o p : Ordering) → is_lt (ordering_then o p) ≡ true → is_gt o ≡ false
not_after Less p e = refl
not_after Equal p e = refl
not_after Greater p e = cc

not_above : (x y : ℕ) → is_gt (nat_cmp x y) ≡ false → x ≤ y
not_above x y e = grind (arith, nat_tests)

fewer_first : (x y : ℕ) (xs ys : List ℕ) → spec.is_less_key (x ∷ xs) (y ∷ ys) ≡ true → x ≤ y
fewer_first x y xs ys e = not_above x y (not_after (nat_cmp x y) (compared xs ys) e)

abbrev rest_of_key : List (ℕ × F2Dot14) → List (ℕ × F2Dot14) → List ℕ
rest_of_key on_axis coordinates =
    count_by (λ c. not (spec.is_on_axis on_axis c)) coordinates
    ∷ (map (λ c. c.0) coordinates ++ (map spec.sign_of coordinates
    ++ map (λ c. unsigned_abs c.1.0) coordinates))

pub no_more_active : (places : List (List F2Dot14)) (x y : List F2Dot14)
    → spec.is_less_key (spec.key places x) (spec.key places y) ≡ true
    → length (spec.active x) ≤ length (spec.active y)
no_more_active places x y e =
    fewer_first (length (spec.active x)) (length (spec.active y))
    (rest_of_key (spec.all_on_axis places) (spec.active x))
    (rest_of_key (spec.all_on_axis places) (spec.active y)) e
