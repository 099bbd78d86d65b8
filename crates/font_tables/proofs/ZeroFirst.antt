-- The place that a variation model takes first is zero on each axis.
use Rattle.std.proofs.Common.{◌≡◌, ℕ, zero, suc, ◌+◌, ◌<◌, ◌≤◌, Bool, true, false, cond, not, ◌==◌}
use Rattle.std.proofs.Common.{Ordering, Less, Equal, Greater, List, [], ◌∷◌, refl, sym, ap, ◌∙◌}
use Rattle.std.proofs.Common.{arith}
use Rattle.std.proofs.Common.{length, map, get_or, count_by, replicate, Some, None, nat_lt, ℤ, pos}
use Rattle.std.proofs.Common.{⊎_elim, subst}
use Rattle.std.proofs.lemmas.Bool.{cases_lt, eqb-true, false≢true, lt-ltb, ltb-true}
use Rattle.std.proofs.lemmas.Bool.Decides.{nat_tests}
use Rattle.std.proofs.lemmas.Int.{ints}
use Rattle.std.proofs.lemmas.List.{get_or-map, get_or_default, length-map}
use Rattle.std.proofs.lemmas.List.Sums.{sum_by-cons, passes_at_first, fails_before_first}
use Rattle.std.specs.Prelude.{unwrap_or, filter, unsigned_abs, ◌++◌}
use Rattle.std.specs.List.{enumerate_from, position_or_len}
use Rattle.std.specs.Ordering.{nat_cmp, is_lt, is_gt, ordering_then, int_eq}
use Rattle.std.specs.Cmp.Lexicographic.{slice_cmp}
use Rattle.fixed_math.specs.declared.F2Dot14.{F2Dot14}
use Rattle.variation_model.specs.Places as spec
use Rattle.variation_model.specs.Places.{ArePlaces, place_at, axis_count, zero_number, of_rank}
use Rattle.variation_model.specs.Places.{ranks}

-- ---- a place without active coordinates

abbrev pub AreZeros : List F2Dot14 → Type 0
AreZeros [] = Unit {0}
AreZeros (v ∷ vs) = (v.0 ≡ pos 0) × AreZeros vs

abbrev active_from : ℕ → List F2Dot14 → List (ℕ × F2Dot14)
active_from n place = filter spec.is_active (enumerate_from n place)

none_kept : (b : Bool) (x : ℕ × F2Dot14) (xs : List (ℕ × F2Dot14)) → cond (not b) (x ∷ xs) xs ≡ []
    → (b ≡ true) × (xs ≡ [])
none_kept true x xs e = (refl, e)
none_kept false x xs e = cc

is_zero : (z : ℤ) → int_eq z (pos 0) ≡ true → z ≡ pos 0
is_zero z e = grind (arith, ints)

none_active : (n : ℕ) (place : List F2Dot14) → active_from n place ≡ [] → AreZeros place
none_active n [] e = tt
none_active n (v ∷ vs) e =
    let both = none_kept (int_eq v.0 (pos 0)) (n, v) (active_from (n + 1) vs) e in
    (is_zero v.0 both.0, none_active (n + 1) vs both.1)

zeros_active : (n axes : ℕ) → active_from n (replicate axes zero_number) ≡ []
zeros_active n zero = refl
zeros_active n (suc axes) = zeros_active (n + 1) axes

-- ---- keys are compared by how many there are

not_less : (o p : Ordering) → is_gt o ≡ true → is_lt (ordering_then o p) ≡ false
not_less Less p e = cc
not_less Equal p e = cc
not_less Greater p e = refl

is_less : (o p : Ordering) → is_lt o ≡ true → is_lt (ordering_then o p) ≡ true
is_less Less p e = refl
is_less Equal p e = cc
is_less Greater p e = cc

above_zero : (n : ℕ) → 0 < n → is_gt (nat_cmp n 0) ≡ true
above_zero n h = grind (arith, nat_tests)

below : (n : ℕ) → 0 < n → is_lt (nat_cmp 0 n) ≡ true
below n h = grind (arith, nat_tests)

more_not_less : (x : ℕ) (xs ys : List ℕ) → 0 < x → spec.is_less_key (x ∷ xs) (0 ∷ ys) ≡ false
more_not_less x xs ys h = not_less (nat_cmp x 0) (slice_cmp nat_cmp xs ys) (above_zero x h)

none_less : (x : ℕ) (xs ys : List ℕ) → 0 < x → spec.is_less_key (0 ∷ ys) (x ∷ xs) ≡ true
none_less x xs ys h = is_less (nat_cmp 0 x) (slice_cmp nat_cmp ys xs) (below x h)

-- the key of a place without active coordinates
abbrev zero_key : List ℕ
zero_key = 0 ∷ 0 ∷ []

-- what stands in a key behind how many there are
abbrev behind_count : List (ℕ × F2Dot14) → List (ℕ × F2Dot14) → List ℕ
behind_count on_axis coordinates =
    count_by (λ c. not (spec.is_on_axis on_axis c)) coordinates
    ∷ (map (λ c. c.0) coordinates ++ (map spec.sign_of coordinates
    ++ map (λ c. unsigned_abs c.1.0) coordinates))

no_key_less : (on_axis coordinates : List (ℕ × F2Dot14))
    → spec.is_less_key (spec.key_among on_axis coordinates) zero_key ≡ false
no_key_less on_axis [] = refl
no_key_less on_axis (c ∷ cs) = more_not_less (length (c ∷ cs))
    (behind_count on_axis (c ∷ cs)) (0 ∷ []) (omega arith)

-- ---- ranks

flag_true : (b : Bool) → b ≡ true → cond {A = ℕ} b 1 0 ≡ 1
flag_true true e = refl
flag_true false e = cc

flag_false : (b : Bool) → b ≡ false → cond {A = ℕ} b 1 0 ≡ 0
flag_false true e = cc
flag_false false e = refl

none_counted : (p : List ℕ → Bool) (places all : List (List F2Dot14))
    → ((place : List F2Dot14) → p (spec.key places place) ≡ false)
    → count_by p (map (spec.key places) all) ≡ 0
none_counted p places [] none = refl
none_counted p places (place ∷ others) none = omega (
  arith,
  sum_by-cons (λ key. cond (p key) 1 0) (spec.key places place) (map (spec.key places) others),
  flag_false (p (spec.key places place)) (none place),
  none_counted p places others none,
)

one_counted : (p : List ℕ → Bool) (keys : List (List ℕ)) (i : ℕ) → i < length keys
    → p (get_or keys i []) ≡ true → 1 ≤ count_by p keys
one_counted p [] i h e = absurd (omega (arith, h))
one_counted p (key ∷ keys) zero h e = omega (
  arith,
  sum_by-cons (λ k. cond (p k) 1 0) key keys,
  flag_true (p key) e,
)
one_counted p (key ∷ keys) (suc i) h e = omega (
  arith,
  sum_by-cons (λ k. cond (p k) 1 0) key keys,
  one_counted p keys i (omega (arith, h)) e,
)

module _ (places : List (List F2Dot14)) (are : ArePlaces places) where
  abbrev z : ℕ
  z = are.has_zero.0

  within : z < length places
  within = are.has_zero.1

  zero_place : place_at places z ≡ replicate (axis_count places) zero_number
  zero_place = get_or_default places z [] (replicate (axis_count places) zero_number) within
      ∙ are.has_zero.2

  none_there : spec.active (place_at places z) ≡ []
  none_there = ap spec.active zero_place ∙ zeros_active 0 (axis_count places)

  its_key : spec.key places (place_at places z) ≡ zero_key
  its_key = ap (spec.key_among (spec.all_on_axis places)) none_there

  key_at : get_or (spec.keys_of places) z [] ≡ zero_key
  key_at = get_or-map (spec.key places) places z [] [] within ∙ its_key

  as_many : length (spec.keys_of places) ≡ length places
  as_many = length-map places (spec.key places)

  ranks_long : length (ranks places) ≡ length places
  ranks_long = length-map (spec.keys_of places) (spec.rank_among (spec.keys_of places)) ∙ as_many

  rank_at : (i : ℕ) → i < length places → get_or (ranks places) i 1
      ≡ spec.rank_among (spec.keys_of places) (spec.key places (place_at places i))
  rank_at i h =
      get_or-map (spec.rank_among (spec.keys_of places)) (spec.keys_of places) i [] 1
      (omega (arith, as_many, h))
      ∙ ap (spec.rank_among (spec.keys_of places)) (get_or-map (spec.key places) places i [] [] h)

  zero_rank : get_or (ranks places) z 1 ≡ 0
  zero_rank =
      rank_at z within ∙ ap (spec.rank_among (spec.keys_of places)) its_key
      ∙ none_counted (λ other. spec.is_less_key other zero_key) places places
      (λ place. no_key_less (spec.all_on_axis places) (spec.active place))

  -- the rank of an active place is none
  ranked : (coordinates : List (ℕ × F2Dot14))
      → spec.rank_among (spec.keys_of places)
      (spec.key_among (spec.all_on_axis places) coordinates) ≡ 0 → coordinates ≡ []
  ranked [] e = refl
  ranked (c ∷ cs) e =
      let own = spec.key_among (spec.all_on_axis places) (c ∷ cs) in
      let less : spec.is_less_key zero_key own ≡ true
      = none_less (length (c ∷ cs))
      (behind_count (spec.all_on_axis places) (c ∷ cs)) (0 ∷ []) (omega arith) in
      let counted = one_counted (λ other. spec.is_less_key other own) (spec.keys_of places) z
      (omega (arith, as_many, within)) (ap (λ key. spec.is_less_key key own) key_at ∙ less) in
      absurd (omega (arith, counted, e))

  abbrev is_none : ℕ → Bool
  is_none number = number == 0

  abbrev first : ℕ
  first = position_or_len is_none (ranks places)

  -- some place has the rank 0
  found : first < length (ranks places)
  found = ⊎_elim (λ h. h)
      (λ h. absurd (false≢true
      (sym (fails_before_first is_none (ranks places) z 1 (omega (arith, h, ranks_long, within)))
      ∙ ap is_none zero_rank)))
      (cases_lt first (length (ranks places)))

  first_within : first < length places
  first_within = omega (arith, found, ranks_long)

  first_is : of_rank (ranks places) 0 ≡ first
  first_is = ap (λ (b : Bool). unwrap_or (cond b (Some first) None) 0)
      (lt-ltb first (length (ranks places)) found)

  ranked_first : get_or (ranks places) first 1 ≡ 0
  ranked_first = eqb-true (get_or (ranks places) first 1) 0
      (passes_at_first is_none (ranks places) 1 found)

  -- and it is zero
  pub zero_first : AreZeros (place_at places (of_rank (ranks places) 0))
  zero_first =
      let zeros : AreZeros (place_at places first)
      = none_active 0 (place_at places first) (ranked (spec.active (place_at places first))
      (sym (rank_at first first_within) ∙ ranked_first)) in
      subst (λ (i : ℕ). AreZeros (place_at places i)) (sym first_is) zeros

  -- each number in the order is a place's
  chosen : (b : Bool) (i n : ℕ) → 0 < n → (b ≡ true → i < n)
      → unwrap_or (cond b (Some i) None) 0 < n
  chosen true i n h f = f refl
  chosen false i n h f = h

  pub each_within : (k : ℕ) → of_rank (ranks places) k < length places
  each_within k =
      let in_ranks : of_rank (ranks places) k < length (ranks places)
      = chosen (nat_lt (position_or_len (λ number. number == k) (ranks places))
      (length (ranks places))) (position_or_len (λ number. number == k) (ranks places))
      (length (ranks places)) (omega (arith, ranks_long, within))
      (λ e. ltb-true (position_or_len (λ number. number == k) (ranks places))
      (length (ranks places)) e) in
      omega (arith, in_ranks, ranks_long)
