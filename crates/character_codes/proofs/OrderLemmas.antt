-- Putting codes in order moves them and nothing else, and a sort gives the same list.
use Rattle.std.proofs.Common.{◌≡◌, ℕ, suc, ◌+◌, Bool, true, false, cond, [], ◌∷◌, refl, sym, ap}
use Rattle.std.proofs.Common.{◌∙◌, arith}
use Rattle.std.specs.List.{AllByRecursion, AllPairs, sum_by}
use Rattle.std.specs.List.Sorted.{IsPermutation, IsSortedBy}
use Rattle.std.specs.Cmp.{IsTotalOrder, IsStrictWeakOrder}
use Rattle.std.specs.Ordering.{nat_cmp, is_lt, ordering_then, ordering_reverse}
use Rattle.std.specs.declared.cmp.Ordering.{Ordering}
use Rattle.std.specs.declared.cmp.Ordering.TheVariants.{Less, Equal, Greater}
use Rattle.std.proofs.lemmas.Cmp.{nat_cmp_total, on_total, then_total, tied_itself, ranked}
use Rattle.std.proofs.lemmas.List.Elements.{recursion_from_All}
use Rattle.std.proofs.lemmas.List.Sorted.{IsPermutation-refl, IsPermutation-sym, IsPermutation-cons}
use Rattle.std.proofs.lemmas.List.Sorted.{IsPermutation-trans, IsPermutation-middle, ranks_by}
use Rattle.std.proofs.lemmas.List.Sorted.{sum_by-IsPermutation, sorted_far}
use Rattle.std.proofs.lemmas.List.Sums.{sum_by-cons}
use Rattle.character_codes.specs.CharacterCodes.{Codes, comes_before, with_code, in_order}

-- ---- the order

abbrev code_cmp : ℕ × ℕ → ℕ × ℕ → Ordering
code_cmp a b = ordering_then (nat_cmp a.0 b.0) (nat_cmp a.1 b.1)

code_cmp_total : IsTotalOrder code_cmp
code_cmp_total = then_total (on_total (λ (p : ℕ × ℕ). p.0) nat_cmp_total)
    (on_total (λ (p : ℕ × ℕ). p.1) nat_cmp_total)

pub ordered : IsStrictWeakOrder comes_before
ordered = ranks_by code_cmp_total (λ (p : ℕ × ℕ). p)

pub not_before_itself : (a : ℕ × ℕ) → comes_before a a ≡ false
not_before_itself a = ap is_lt (tied_itself code_cmp_total a)

both_equal : (a b : Ordering) → ordering_then a b ≡ Equal → (a ≡ Equal) × (b ≡ Equal)
both_equal Less b e = absurd cc
both_equal Equal b e = (refl, e)
both_equal Greater b e = absurd cc

neither_less : (a b : Ordering) → a ≡ ordering_reverse b → is_lt a ≡ false → is_lt b ≡ false
    → a ≡ Equal
neither_less Less b r e f = absurd cc
neither_less Equal b r e f = refl
neither_less Greater Less r e f = absurd cc
neither_less Greater Equal r e f = absurd cc
neither_less Greater Greater r e f = absurd cc

-- two codes of which no one comes before the other are the same
same_code : (a b : ℕ × ℕ) → comes_before a b ≡ false → comes_before b a ≡ false → a ≡ b
same_code a b e f =
    let parts = both_equal (nat_cmp a.0 b.0) (nat_cmp a.1 b.1)
    (neither_less (code_cmp a b) (code_cmp b a) (code_cmp_total.antisymm a b) e f) in
    let first = ranked a.0 b.0 Equal (sym parts.0) in
    let second = ranked a.1 b.1 Equal (sym parts.1) in
    λ i. (first i, second i)

-- ---- lists in order

-- no code comes before an earlier one
abbrev pub AreInOrder : Codes → Type 0
AreInOrder [] = Unit {0}
AreInOrder (a ∷ codes) = AllByRecursion (λ b. comes_before b a ≡ false) codes × AreInOrder codes

-- what is so of each two codes of a list, as a sort says it
pairs_in_order : (codes : Codes) → AllPairs (λ a b. comes_before b a ≡ false) codes
    → AreInOrder codes
pairs_in_order [] h = tt
pairs_in_order (a ∷ codes) h = (
  recursion_from_All (λ b. comes_before b a ≡ false) codes
      (λ k d lt. h 0 (suc k) d (omega arith) (omega (arith, lt))),
  pairs_in_order codes
      (λ i j d lt within. h (suc i) (suc j) d (omega (arith, lt)) (omega (arith, within))),
)

pub sorted_in_order : (codes : Codes) → IsSortedBy comes_before codes → AreInOrder codes
sorted_in_order codes s = pairs_in_order codes
    (λ i j d lt within. sorted_far comes_before ordered codes s i j d (omega (arith, lt)) within)

-- what is so of a code and of a list's is so of the list with that code
pub each_with : (P : ℕ × ℕ → Type 0) (a : ℕ × ℕ) (codes : Codes) → P a → AllByRecursion P codes
    → AllByRecursion P (with_code a codes)
each_with P a [] p h = (p, tt)
each_with P a (b ∷ codes) p h =
    elim (comes_before b a) as
    (λ v. AllByRecursion P (cond v (b ∷ with_code a codes) (a ∷ b ∷ codes))) [
      | true ↦ (h.0, each_with P a codes p h.1)
      | false ↦ (p, h)
    ]

weaker : (P Q : ℕ × ℕ → Type 0) → ((a : ℕ × ℕ) → P a → Q a) → (codes : Codes)
    → AllByRecursion P codes → AllByRecursion Q codes
weaker P Q f [] h = tt
weaker P Q f (a ∷ codes) h = (f a h.0, weaker P Q f codes h.1)

with_step : (v : Bool) (a b : ℕ × ℕ) (codes : Codes) → comes_before b a ≡ v
    → AreInOrder (b ∷ codes) → AreInOrder (with_code a codes)
    → AreInOrder (cond v (b ∷ with_code a codes) (a ∷ b ∷ codes))
with_step true a b codes e h deeper = (
  each_with (λ c. comes_before c b ≡ false) a codes (ordered.one_way b a e) h.0,
  deeper,
)
with_step false a b codes e h deeper = (
  (
    e,
    weaker (λ c. comes_before c b ≡ false) (λ c. comes_before c a ≡ false)
        (λ c f. ordered.chain c b a f e) codes h.0,
  ),
  h,
)

with_in_order : (a : ℕ × ℕ) (codes : Codes) → AreInOrder codes → AreInOrder (with_code a codes)
with_in_order a [] h = (tt, tt)
with_in_order a (b ∷ codes) h = with_step (comes_before b a) a b codes refl h
    (with_in_order a codes h.1)

pub in_order_rises : (codes : Codes) → AreInOrder (in_order codes)
in_order_rises [] = tt
in_order_rises (a ∷ codes) = with_in_order a (in_order codes) (in_order_rises codes)

-- ---- codes are moved

with_moved : (a : ℕ × ℕ) (codes : Codes) → IsPermutation (a ∷ codes) (with_code a codes)
with_moved a [] = IsPermutation-refl (a ∷ [])
with_moved a (b ∷ codes) =
    elim (comes_before b a) as
    (λ v. IsPermutation (a ∷ b ∷ codes) (cond v (b ∷ with_code a codes) (a ∷ b ∷ codes))) [
      | true ↦ IsPermutation-trans (a ∷ b ∷ codes) (b ∷ a ∷ codes) (b ∷ with_code a codes)
          (IsPermutation-sym (b ∷ a ∷ codes) (a ∷ b ∷ codes)
          (IsPermutation-middle (b ∷ []) a codes))
          (IsPermutation-cons b (a ∷ codes) (with_code a codes) (with_moved a codes))
      | false ↦ IsPermutation-refl (a ∷ b ∷ codes)
    ]

pub in_order_moved : (codes : Codes) → IsPermutation codes (in_order codes)
in_order_moved [] = IsPermutation-refl []
in_order_moved (a ∷ codes) = IsPermutation-trans (a ∷ codes) (a ∷ in_order codes)
    (in_order (a ∷ codes)) (IsPermutation-cons a codes (in_order codes) (in_order_moved codes))
    (with_moved a (in_order codes))

-- ---- there is one such list

-- whatever is added over the codes of two lists is the same
abbrev SameSums : Codes → Codes → Type 0
SameSums xs ys = (f : ℕ × ℕ → ℕ) → sum_by f xs ≡ sum_by f ys

abbrev counts : ℕ × ℕ → ℕ × ℕ → ℕ
counts a b = cond (comes_before b a) 1 0

none_counts : (a : ℕ × ℕ) (codes : Codes) → AllByRecursion (λ b. comes_before b a ≡ false) codes
    → sum_by (counts a) codes ≡ 0
none_counts a [] h = refl
none_counts a (b ∷ codes) h =
    let weight : Bool → ℕ = λ v. cond v 1 0 in
    let first : counts a b ≡ 0 = ap weight h.0 in
    let others = none_counts a codes h.1 in
    let sum = sum_by-cons (counts a) b codes in
    omega (arith, first, others, sum)

no_count : (v : Bool) (n : ℕ) → cond v 1 0 + n ≡ 0 → v ≡ false
no_count true n e = absurd (omega (arith, e))
no_count false n e = refl

-- the first code of one list is not after the first of the other
not_after : (x y : ℕ × ℕ) (xs ys : Codes) → AreInOrder (y ∷ ys) → SameSums (x ∷ xs) (y ∷ ys)
    → comes_before x y ≡ false
not_after x y xs ys h s =
    no_count (comes_before x y) (sum_by (counts y) xs)
    (sym (sum_by-cons (counts y) x xs) ∙ s (counts y)
    ∙ none_counts y (y ∷ ys) (not_before_itself y, h.0))

one_list : (xs ys : Codes) → AreInOrder xs → AreInOrder ys → SameSums xs ys → xs ≡ ys
one_list [] [] g h s = refl
one_list [] (y ∷ ys) g h s =
    let sum = sum_by-cons (λ z. 1) y ys in
    let same = s (λ z. 1) in
    absurd (omega (arith, sum, same))
one_list (x ∷ xs) [] g h s =
    let sum = sum_by-cons (λ z. 1) x xs in
    let same = s (λ z. 1) in
    absurd (omega (arith, sum, same))
one_list (x ∷ xs) (y ∷ ys) g h s =
    let first : x ≡ y = same_code x y (not_after x y xs ys h s)
    (not_after y x ys xs g (λ f. sym (s f))) in
    let tails : SameSums xs ys = λ f.
    let left = sum_by-cons f x xs in
    let right = sum_by-cons f y ys in
    let same = s f in
    let heads = ap f first in
    omega (arith, left, right, same, heads) in
    ap (λ z. z ∷ xs) first ∙ ap (λ zs. y ∷ zs) (one_list xs ys g.1 h.1 tails)

-- what a sort leaves is the list in order
pub sorted_is_in_order : (codes sorted : Codes) → IsPermutation codes sorted
    → IsSortedBy comes_before sorted → sorted ≡ in_order codes
sorted_is_in_order codes sorted moved rises =
    one_list sorted (in_order codes) (sorted_in_order sorted rises) (in_order_rises codes)
    (λ f. sum_by-IsPermutation f codes sorted moved
    ∙ sym (sum_by-IsPermutation f codes (in_order codes) (in_order_moved codes)))
