-- The order names each place once, and each place comes before those after it.
use Rattle.std.proofs.Common.{◌≡◌, ◌≢◌, ℕ, ◌<◌, true, inl, inr, ⊎_elim, nat_lt, ◌==◌, List, [], sym}
use Rattle.std.proofs.Common.{ap, ◌∙◌, arith, length, get_or, Some, None}
use Rattle.std.proofs.lemmas.Bool.{cases_Bool, cases_order, cases_lt, lt-ltb, eq-eqb, cond-true}
use Rattle.std.proofs.lemmas.Bool.Decides.{nat_tests}
use Rattle.std.proofs.lemmas.List.{get_or-map, get_or_default, length-map}
use Rattle.std.proofs.lemmas.List.Sums.{fails_before_first, passes_at_first}
use Rattle.std.specs.Prelude.{EachIndex, Contains, unwrap_or}
use Rattle.std.specs.List.{position_or_len}
use Rattle.fixed_math.specs.declared.F2Dot14.{F2Dot14}
use Rattle.variation_model.specs.Places as spec
use Rattle.variation_model.specs.Laws.{comes_before, IsOrder, IsInOrder}
use Rattle.variation_model.proofs.RankLemmas.{rank, rank_grows, rank_rises, rank_below, AllDiffer}
use Rattle.variation_model.proofs.RankLemmas.{ranked}
use Rattle.variation_model.proofs.KeyLemmas.{less_key_IsStrict, same_key}
use Rattle.variation_model.proofs.ModelLemmas.{length-order_of, order_of-within, order_of-at}
use Rattle.variation_model.proofs.ModelLemmas.{length-ranks}

pub comes_before_IsOrder : (places : List (List F2Dot14)) → IsOrder (comes_before places)
comes_before_IsOrder places = record {
  irreflexive = λ x. less_key_IsStrict.irreflexive (spec.key places x);
  transitive = λ x y z. less_key_IsStrict.transitive (spec.key places x) (spec.key places y)
      (spec.key places z);
  total = λ x y h apart.
      ⊎_elim (λ e. inl e)
      (λ e. ⊎_elim (λ f. inr f)
      (λ f. absurd (apart (same_key places x y h
      (less_key_IsStrict.total (spec.key places x) (spec.key places y) e f))))
      (cases_Bool (comes_before places y x)))
      (cases_Bool (comes_before places x y));
}

-- a number that stands in a list is found there
found : (numbers : List ℕ) (k i : ℕ) → i < length numbers → get_or numbers i 0 ≡ k
    → position_or_len (λ n. n == k) numbers < length numbers
found numbers k i h e =
    ⊎_elim (λ l. l)
    (λ l. let fails = fails_before_first (λ n. n == k) numbers i 0 (omega arith) in
    let passes : (get_or numbers i 0 == k) ≡ true = eq-eqb (get_or numbers i 0) k e in
    cc)
    (cases_lt (position_or_len (λ n. n == k) numbers) (length numbers))

is_number : (x k : ℕ) → (x == k) ≡ true → x ≡ k
is_number x k e = grind (arith, nat_tests)

of_rank-found : (numbers : List ℕ) (k i : ℕ) → i < length numbers → get_or numbers i 0 ≡ k
    → get_or numbers (spec.of_rank numbers k) 0 ≡ k
of_rank-found numbers k i h e =
    let place = position_or_len (λ n. n == k) numbers in
    let within = found numbers k i h e in
    let is_place : spec.of_rank numbers k ≡ place =
    ap (λ o. unwrap_or o 0) (cond-true (nat_lt place (length numbers)) (Some place) None
    (lt-ltb place (length numbers) within)) in
    ap (λ n. get_or numbers n 0) is_place ∙ is_number (get_or numbers place 0) k
    (passes_at_first (λ n. n == k) numbers 0 within)

-- keys of different places differ
length-keys : (places : List (List F2Dot14)) → length (spec.keys_of places) ≡ length places
length-keys places = length-map places (spec.key places)

key_at : (places : List (List F2Dot14)) (i : ℕ) → i < length places
    → get_or (spec.keys_of places) i [] ≡ spec.key places (spec.place_at places i)
key_at places i h = get_or-map (spec.key places) places i [] [] h

keys_differ : (places : List (List F2Dot14))
    → EachIndex places (λ i. length (spec.place_at places i) ≡ spec.axis_count places)
    → ((i j : ℕ) → i < j → j < length places → spec.place_at places i ≢ spec.place_at places j)
    → AllDiffer (spec.keys_of places) []
keys_differ places one_length different i j h k e =
    let second : j < length places = omega (arith, length-keys places) in
    let first : i < length places = omega arith in
    let same : spec.key places (spec.place_at places i) ≡ spec.key places (spec.place_at places j) =
    sym (key_at places i first) ∙ e ∙ key_at places j second in
    different i j h second (same_key places (spec.place_at places i) (spec.place_at places j)
    (one_length i first ∙ sym (one_length j second)) same)

-- the rank of a place
rank_at : (places : List (List F2Dot14)) (i : ℕ) → i < length places
    → get_or (spec.ranks places) i 0 ≡ rank spec.is_less_key (spec.keys_of places)
    (get_or (spec.keys_of places) i [])
rank_at places i h =
    let within : i < length (spec.keys_of places) = omega (arith, length-keys places) in
    get_or-map (spec.rank_among (spec.keys_of places)) (spec.keys_of places) i [] 0 within

-- the k-th position has rank k
rank_of-order : (places : List (List F2Dot14)) (k : ℕ) → AllDiffer (spec.keys_of places) []
    → k < length places → get_or (spec.ranks places) (get_or (spec.order_of places) k 0) 0 ≡ k
rank_of-order places k differ h =
    let has = ranked spec.is_less_key less_key_IsStrict (spec.keys_of places) [] k differ
    (omega (arith, length-keys places)) in
    let i = has.0 in
    let within : i < length places = omega (arith, length-keys places, has.1) in
    let there : i < length (spec.ranks places) = omega (arith, length-ranks places) in
    ap (λ n. get_or (spec.ranks places) n 0) (order_of-at places k 0 h)
    ∙ of_rank-found (spec.ranks places) k i there (rank_at places i within ∙ has.2)

-- a place of lower rank comes before
lower_first : (places : List (List F2Dot14)) (i j : ℕ) → i < length places → j < length places
    → get_or (spec.ranks places) i 0 < get_or (spec.ranks places) j 0
    → comes_before places (spec.place_at places i) (spec.place_at places j) ≡ true
lower_first places i j h k l =
    let keys = spec.keys_of places in
    let first = get_or keys i [] in
    let second = get_or keys j [] in
    let ranks_rise : rank spec.is_less_key keys first < rank spec.is_less_key keys second
    = omega (arith, rank_at places i h, rank_at places j k) in
    let less : spec.is_less_key first second ≡ true =
    ⊎_elim (λ e. e)
    (λ e. ⊎_elim
    (λ f. let grows = rank_grows spec.is_less_key less_key_IsStrict keys second first f
    in absurd (omega arith))
    (λ f. let same = ap (rank spec.is_less_key keys) (less_key_IsStrict.total first second e f)
    in absurd (omega arith))
    (cases_Bool (spec.is_less_key second first)))
    (cases_Bool (spec.is_less_key first second)) in
    ap (λ x. spec.is_less_key x (spec.key places (spec.place_at places j)))
    (sym (key_at places i h)) ∙ ap (λ y. spec.is_less_key first y) (sym (key_at places j k))
    ∙ less

-- two places of one rank are one
one_rank : (places : List (List F2Dot14)) (i j : ℕ) → AllDiffer (spec.keys_of places) []
    → i < length places → j < length places
    → get_or (spec.ranks places) i 0 ≡ get_or (spec.ranks places) j 0 → i ≡ j
one_rank places i j differ h k e =
    let keys = spec.keys_of places in
    let first = get_or keys i [] in
    let second = get_or keys j [] in
    let in_keys : length keys ≡ length places = length-keys places in
    let ranks_same : rank spec.is_less_key keys first
    ≡ rank spec.is_less_key keys second = sym (rank_at places i h) ∙ e ∙ rank_at places j k in
    let same : first ≡ second =
    ⊎_elim
    (λ f. let rises = rank_rises spec.is_less_key less_key_IsStrict keys i [] second (omega arith) f
    in absurd (omega arith))
    (λ f. ⊎_elim
    (λ g. let rises = rank_rises spec.is_less_key less_key_IsStrict keys j [] first (omega arith) g
    in absurd (omega arith))
    (λ g. less_key_IsStrict.total first second f g)
    (cases_Bool (spec.is_less_key second first)))
    (cases_Bool (spec.is_less_key first second)) in
    ⊎_elim (λ s. s)
    (λ o. ⊎_elim
    (λ l. absurd (differ i j l (omega arith) same))
    (λ l. absurd (differ j i l (omega arith) (sym same)))
    o)
    (cases_order i j)

rank_within : (places : List (List F2Dot14)) (i : ℕ) → i < length places
    → get_or (spec.ranks places) i 0 < length places
rank_within places i h =
    let below = rank_below spec.is_less_key less_key_IsStrict (spec.keys_of places) i []
    (omega (arith, length-keys places)) in
    omega (arith, rank_at places i h, length-keys places, below)

-- each place is named at its rank
named : (places : List (List F2Dot14)) (i : ℕ) → AllDiffer (spec.keys_of places) []
    → i < length places → Contains (spec.order_of places) i
named places i differ h =
    let order = spec.order_of places in
    let k = get_or (spec.ranks places) i 0 in
    let below : k < length places = rank_within places i h in
    let there : k < length order = omega (arith, length-order_of places) in
    let within : get_or order k 0 < length places = order_of-within places k 0 there in
    let same : get_or order k 0 ≡ i = one_rank places (get_or order k 0) i differ within h
    (rank_of-order places k differ below) in
    let here : get_or order k i ≡ i = get_or_default order k i 0 there ∙ same in
    (k, there, here)

pub order_IsInOrder : (places : List (List F2Dot14))
    → EachIndex places (λ i. length (spec.place_at places i) ≡ spec.axis_count places)
    → ((i j : ℕ) → i < j → j < length places → spec.place_at places i ≢ spec.place_at places j)
    → IsInOrder places (spec.order_of places)
order_IsInOrder places one_length different =
    let differ = keys_differ places one_length different in
    let order = spec.order_of places in
    let many : length order ≡ length places = length-order_of places in
    let at : (k : ℕ) → k < length places → get_or order k 0 < length places =
    λ k h. order_of-within places k 0 (omega arith) in
    let rank_is : (k : ℕ) → k < length places
    → get_or (spec.ranks places) (get_or order k 0) 0 ≡ k =
    λ k h. rank_of-order places k differ h in
    record {
      as_many = many;
      within = order_of-within places;
      each = λ i h. named places i differ h;
      once = λ j k l h e.
          let low = rank_is j (omega arith) in
          let high = rank_is k h in
          let same = ap (λ n. get_or (spec.ranks places) n 0) e in
          omega arith;
      rising = λ j k l h.
          let low = rank_is j (omega arith) in
          let high = rank_is k h in
          lower_first places (get_or order j 0) (get_or order k 0) (at j (omega arith)) (at k h)
          (omega arith);
    }
