-- A code stands in the list with a glyph ID exactly where the glyph with this ID has it.
use Rattle.std.proofs.Common.{◌≡◌, ◌⊎◌, inl, inr, ℕ, zero, suc, ◌+◌, List, [], ◌∷◌, Option}
use Rattle.std.proofs.Common.{Some, None, refl, sym, ap, subst, arith}
use Rattle.std.specs.List.{Contains, slice_get}
use Rattle.std.proofs.lemmas.List.Elements.{Contains-append_left, Contains-append_right}
use Rattle.std.proofs.lemmas.List.Elements.{Contains-append_cases}
use Rattle.std.proofs.lemmas.List.Sorted.{Contains-permutation, IsPermutation-sym}
use Rattle.character_codes.specs.CharacterCodes.{Entry, entry_codes, codes_at, with_gid}
use Rattle.character_codes.specs.CharacterCodes.{codes_from, in_order, codes_of}
use Rattle.character_codes.specs.Laws.{HasCode, AreExactly}
use Rattle.character_codes.proofs.OrderLemmas.{in_order_moved}

-- ---- lists

module _ {X : Type 0} where
  at_head : (x : X) (xs : List X) → Contains (x ∷ xs) x
  at_head x xs = (0, omega arith, refl)

  in_tail : (x : X) (xs : List X) (y : X) → Contains xs y → Contains (x ∷ xs) y
  in_tail x xs y (k, lt, e) = (suc k, omega (arith, lt), e)

  in_none : (y : X) → ¬ (Contains [] y)
  in_none y (k, lt, e) = absurd (omega (arith, lt))

  head_or_tail : (x : X) (xs : List X) (y : X) → Contains (x ∷ xs) y → (x ≡ y) ⊎ Contains xs y
  head_or_tail x xs y (zero, lt, e) = inl e
  head_or_tail x xs y (suc k, lt, e) = inr (k, omega (arith, lt), e)

-- ---- the codes of one glyph

given_gid : (gid : ℕ) (list : List ℕ) (code : ℕ) → Contains list code
    → Contains {X = ℕ × ℕ} (with_gid gid list) (code, gid)
given_gid gid [] code h = absurd (in_none code h)
given_gid gid (c ∷ list) code h =
    elim (head_or_tail c list code h) [
      | inl e ↦ subst (λ x. Contains {X = ℕ × ℕ} (with_gid gid (c ∷ list)) (x, gid)) e
          (at_head (c, gid) (with_gid gid list))
      | inr more ↦ in_tail (c, gid) (with_gid gid list) (code, gid) (given_gid gid list code more)
    ]

of_gid : (gid : ℕ) (list : List ℕ) (code other : ℕ)
    → Contains {X = ℕ × ℕ} (with_gid gid list) (code, other) → (gid ≡ other) × Contains list code
of_gid gid [] code other h =
    let pair : ℕ × ℕ = (code, other) in absurd (in_none pair h)
of_gid gid (c ∷ list) code other h =
    let pair : ℕ × ℕ = (code, other) in
    elim (head_or_tail (c, gid) (with_gid gid list) pair h) [
      | inl e ↦ (
        ap (λ x. x.1) e,
        subst (Contains (c ∷ list)) (ap (λ x. x.0) e) (at_head c list),
      )
      | inr more ↦ let rest = of_gid gid list code other more in (
        rest.0,
        in_tail c list code rest.1,
      )
    ]

-- ---- those of all

-- the glyph at this place of an order has this code
record CodedAt (index : List Entry) (numbers : List (Option ℕ)) (place code : ℕ) : Type 0 where
  pub number : Option ℕ
  pub ordered : slice_get numbers place ≡ Some number
  pub coded : Contains (codes_at index number) code

stands_from : (index : List Entry) (gid : ℕ) (numbers : List (Option ℕ)) (place code : ℕ)
    → CodedAt index numbers place code
    → Contains {X = ℕ × ℕ} (codes_from index gid numbers) (code, gid + place)
stands_from index gid [] place code h = absurd (none h.number h.ordered)
  where
    none : (number : Option ℕ) → ◌≡◌ {A = Option (Option ℕ)} None (Some number) → ⊥
    none number e = cc
stands_from index gid (number ∷ numbers) zero code h =
    let same : number ≡ h.number = given h.ordered in
    subst (λ g. Contains {X = ℕ × ℕ} (codes_from index gid (number ∷ numbers)) (code, g))
    (omega arith)
    (Contains-append_left (with_gid gid (codes_at index number))
    (codes_from index (gid + 1) numbers) (code, gid)
    (given_gid gid (codes_at index number) code
    (subst (λ n. Contains (codes_at index n) code) (sym same) h.coded)))
  where
    given : Some number ≡ Some h.number → number ≡ h.number
    given e = cc
stands_from index gid (number ∷ numbers) (suc place) code h =
    subst (λ g. Contains {X = ℕ × ℕ} (codes_from index gid (number ∷ numbers)) (code, g))
    (omega arith)
    (Contains-append_right (with_gid gid (codes_at index number))
    (codes_from index (gid + 1) numbers) (code, gid + 1 + place)
    (stands_from index (gid + 1) numbers place code
    (record { number = h.number; ordered = h.ordered; coded = h.coded })))

-- where a code stands with an ID, and the first glyph has an ID
record StandsAt (index : List Entry) (first : ℕ) (numbers : List (Option ℕ)) (gid code : ℕ)
    : Type 0 where
  pub place : ℕ
  pub counted : gid ≡ first + place
  pub there : CodedAt index numbers place code

stands_at : (index : List Entry) (first : ℕ) (numbers : List (Option ℕ)) (gid code : ℕ)
    → Contains {X = ℕ × ℕ} (codes_from index first numbers) (code, gid)
    → StandsAt index first numbers gid code
stands_at index first [] gid code h = let pair : ℕ × ℕ = (code, gid) in absurd (in_none pair h)
stands_at index first (number ∷ numbers) gid code h =
    elim (Contains-append_cases (with_gid first (codes_at index number))
    (codes_from index (first + 1) numbers) (code, gid) h) [
      | inl here ↦ let one = of_gid first (codes_at index number) code gid here in record {
        place = 0;
        counted = omega (arith, one.0);
        there = record { number = number; ordered = refl; coded = one.1 };
      }
      | inr more ↦ let rest = stands_at index (first + 1) numbers gid code more in
          let counted = rest.counted in
          record {
            place = suc rest.place;
            counted = omega (arith, counted);
            there = record {
              number = rest.there.number;
              ordered = rest.there.ordered;
              coded = rest.there.coded;
            };
          }
    ]

-- ---- in the words of the law

stands : (index : List Entry) (numbers : List (Option ℕ)) (gid code : ℕ)
    → HasCode index numbers gid code → Contains {X = ℕ × ℕ} (codes_from index 0 numbers) (code, gid)
stands index numbers gid code h =
    subst (λ g. Contains {X = ℕ × ℕ} (codes_from index 0 numbers) (code, g)) (omega arith)
    (stands_from index 0 numbers gid code (record {
      number = Some h.number;
      ordered = h.ordered;
      coded = subst (λ e. Contains (entry_codes e) code) (sym h.there) h.coded;
    }))

has_entry : (index : List Entry) (numbers : List (Option ℕ)) (gid code number : ℕ)
    (found : Option Entry) → slice_get numbers gid ≡ Some (Some number)
    → slice_get index number ≡ found → Contains (entry_codes found) code
    → HasCode index numbers gid code
has_entry index numbers gid code number None o e h = absurd (in_none code h)
has_entry index numbers gid code number (Some entry) o e h = record {
  number = number;
  entry = entry;
  ordered = o;
  there = e;
  coded = h;
}

has_code : (index : List Entry) (numbers : List (Option ℕ)) (gid code : ℕ) (number : Option ℕ)
    → slice_get numbers gid ≡ Some number → Contains (codes_at index number) code
    → HasCode index numbers gid code
has_code index numbers gid code None o h = absurd (in_none code h)
has_code index numbers gid code (Some number) o h =
    has_entry index numbers gid code number (slice_get index number) o refl h

has : (index : List Entry) (numbers : List (Option ℕ)) (gid code : ℕ)
    → Contains {X = ℕ × ℕ} (codes_from index 0 numbers) (code, gid) → HasCode index numbers gid code
has index numbers gid code h =
    let at = stands_at index 0 numbers gid code h in
    let counted = at.counted in
    let place : at.place ≡ gid = omega (arith, counted) in
    has_code index numbers gid code at.there.number
    (subst (λ p. slice_get numbers p ≡ Some at.there.number) place at.there.ordered)
    at.there.coded

pub exactly : (index : List Entry) (numbers : List (Option ℕ))
    → AreExactly index numbers (codes_of index numbers)
unfolding codes_of
exactly index numbers =
    let codes = codes_from index 0 numbers in
    record {
      stands = λ gid code h. Contains-permutation codes (in_order codes) (code, gid)
          (in_order_moved codes) (stands index numbers gid code h);
      has = λ gid code h. has index numbers gid code
          (Contains-permutation (in_order codes) codes (code, gid)
          (IsPermutation-sym codes (in_order codes) (in_order_moved codes)) h);
    }
