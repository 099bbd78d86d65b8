-- The codes of an order rise where no code of the index stands twice among its exported glyphs.
use Rattle.std.proofs.Common.{◌≡◌, ◌≢◌, ℕ, zero, suc, ◌+◌, ◌<◌, ◌≤◌, Bool, true, false, cond}
use Rattle.std.proofs.Common.{List, [], ◌∷◌, ◌++◌, length, Option, Some, None, nat_eq, refl, sym}
use Rattle.std.proofs.Common.{ap, ◌∙◌, subst, arith, get_or}
use Rattle.std.specs.Prelude.{flat_map}
use Rattle.std.specs.List.{All, AllPairs, AllByRecursion, IsDistinct, slice_get}
use Rattle.std.specs.Ordering.{nat_cmp, is_lt, ordering_then}
use Rattle.std.specs.declared.cmp.Ordering.{Ordering}
use Rattle.std.specs.declared.cmp.Ordering.TheVariants.{Less, Equal, Greater}
use Rattle.std.proofs.lemmas.Cmp.{nat_eq_equiv, ranked}
use Rattle.std.proofs.lemmas.Bool.Decides.{nat_tests}
use Rattle.std.proofs.lemmas.List.Elements.{All-from_recursion, recursion_from_All, All-append}
use Rattle.std.proofs.lemmas.List.Elements.{All-nil, All-cons, All-head, All-tail, All-map}
use Rattle.std.proofs.lemmas.List.Elements.{All-weaker}
use Rattle.std.proofs.lemmas.List.Concat.{flat_map-cons}
use Rattle.std.proofs.lemmas.List.Sorted.{All-permutation}
use Rattle.glyphs_source.specs.IndexReading.{counting, IsCharacterCode, AreCoded}
use Rattle.character_codes.specs.CharacterCodes.{Entry, Codes, entry_codes, codes_at, with_gid}
use Rattle.character_codes.specs.CharacterCodes.{codes_from, comes_before, with_code, in_order}
use Rattle.character_codes.specs.CharacterCodes.{codes_of}
use Rattle.character_codes.specs.Laws.{IsExportedAt, AreDifferent, IsOrderOver, AreCodes}
use Rattle.character_codes.specs.OrderLaws.{all_at}
use Rattle.character_codes.proofs.OrderLemmas.{AreInOrder, in_order_rises, in_order_moved}
use Rattle.character_codes.proofs.OrderLemmas.{each_with}

-- ---- lists of distinct numbers

-- no number of one list is in the other
abbrev AreApart : List ℕ → List ℕ → Type 0
AreApart xs ys = All (λ x. All (λ y. nat_eq x y ≡ false) ys) xs

apart_back : (xs ys : List ℕ) → AreApart xs ys → AreApart ys xs
apart_back xs ys h = λ j d lt i e below.
    nat_eq_equiv.symm (get_or ys j d) (get_or xs i e) ∙ h i e below j d lt

second_all : (P : ℕ → Type 0) (xs ys : List ℕ) → AllByRecursion P (xs ++ ys) → AllByRecursion P ys
second_all P [] ys h = h
second_all P (x ∷ xs) ys h = second_all P xs ys h.1

first_all : (P : ℕ → Type 0) (xs ys : List ℕ) → AllByRecursion P (xs ++ ys) → AllByRecursion P xs
first_all P [] ys h = tt
first_all P (x ∷ xs) ys h = (h.0, first_all P xs ys h.1)

distinct_first : (xs ys : List ℕ) → IsDistinct nat_eq (xs ++ ys) → IsDistinct nat_eq xs
unfolding IsDistinct
distinct_first [] ys h = tt
distinct_first (x ∷ xs) ys h = (
  first_all (λ y. nat_eq x y ≡ false) xs ys h.0,
  distinct_first xs ys h.1,
)

distinct_second : (xs ys : List ℕ) → IsDistinct nat_eq (xs ++ ys) → IsDistinct nat_eq ys
unfolding IsDistinct
distinct_second [] ys h = h
distinct_second (x ∷ xs) ys h = distinct_second xs ys h.1

distinct_apart : (xs ys : List ℕ) → IsDistinct nat_eq (xs ++ ys) → AreApart xs ys
unfolding IsDistinct
distinct_apart [] ys h = All-nil (λ x. All (λ y. nat_eq x y ≡ false) ys)
distinct_apart (x ∷ xs) ys h =
    All-cons (λ x. All (λ y. nat_eq x y ≡ false) ys) x xs
    (All-from_recursion (λ y. nat_eq x y ≡ false) ys
    (second_all (λ y. nat_eq x y ≡ false) xs ys h.0))
    (distinct_apart xs ys h.1)

-- ---- the codes of an index

abbrev counted : Entry → List ℕ
counted entry = counting entry.1

abbrev all_counted : List Entry → List ℕ
all_counted index = flat_map counted index

split_counted : (entry : Entry) (index : List Entry)
    → IsDistinct nat_eq (all_counted (entry ∷ index))
    → IsDistinct nat_eq (counted entry ++ all_counted index)
split_counted entry index h = subst (IsDistinct nat_eq) (flat_map-cons counted entry index) h

counted_distinct : (index : List Entry) (n : ℕ) (entry : Entry)
    → IsDistinct nat_eq (all_counted index)
    → slice_get index n ≡ Some entry → IsDistinct nat_eq (counted entry)
counted_distinct [] n entry h e = absurd cc
counted_distinct (first ∷ index) zero entry h e =
    let same : first ≡ entry = cc in
    subst (λ x. IsDistinct nat_eq (counted x)) same
    (distinct_first (counted first) (all_counted index) (split_counted first index h))
counted_distinct (first ∷ index) (suc n) entry h e =
    counted_distinct index n entry
    (distinct_second (counted first) (all_counted index) (split_counted first index h)) e

-- what is so of all codes is so of those of one glyph
counted_all : (P : ℕ → Type 0) (index : List Entry) (n : ℕ) (entry : Entry)
    → AllByRecursion P (all_counted index) → slice_get index n ≡ Some entry
    → AllByRecursion P (counted entry)
counted_all P [] n entry h e = absurd cc
counted_all P (first ∷ index) zero entry h e =
    let same : first ≡ entry = cc in
    subst (λ x. AllByRecursion P (counted x)) same
    (first_all P (counted first) (all_counted index)
    (subst (AllByRecursion P) (flat_map-cons counted first index) h))
counted_all P (first ∷ index) (suc n) entry h e =
    counted_all P index n entry
    (second_all P (counted first) (all_counted index)
    (subst (AllByRecursion P) (flat_map-cons counted first index) h)) e

-- the first glyph's codes are none of a later one's
first_apart : (first : Entry) (index : List Entry) (n : ℕ) (entry : Entry)
    → IsDistinct nat_eq (all_counted (first ∷ index)) → slice_get index n ≡ Some entry
    → AreApart (counted first) (counted entry)
first_apart first index n entry h e =
    All-weaker (λ x. All (λ y. nat_eq x y ≡ false) (all_counted index))
    (λ x. All (λ y. nat_eq x y ≡ false) (counted entry))
    (λ x all. All-from_recursion (λ y. nat_eq x y ≡ false) (counted entry)
    (counted_all (λ y. nat_eq x y ≡ false) index n entry
    (recursion_from_All (λ y. nat_eq x y ≡ false) (all_counted index) all) e))
    (counted first)
    (distinct_apart (counted first) (all_counted index) (split_counted first index h))

counted_apart : (index : List Entry) (n m : ℕ) (a b : Entry) → IsDistinct nat_eq (all_counted index)
    → n ≢ m → slice_get index n ≡ Some a → slice_get index m ≡ Some b
    → AreApart (counted a) (counted b)
counted_apart [] n m a b h d e f = absurd cc
counted_apart (first ∷ index) zero zero a b h d e f = absurd (d refl)
counted_apart (first ∷ index) zero (suc m) a b h d e f =
    let same : first ≡ a = cc in
    subst (λ x. AreApart (counted x) (counted b)) same (first_apart first index m b h f)
counted_apart (first ∷ index) (suc n) zero a b h d e f =
    let same : first ≡ b = cc in
    subst (λ x. AreApart (counted a) (counted x)) same
    (apart_back (counted first) (counted a) (first_apart first index n a h e))
counted_apart (first ∷ index) (suc n) (suc m) a b h d e f =
    counted_apart index n m a b
    (distinct_second (counted first) (all_counted index) (split_counted first index h))
    (λ s. d (ap suc s)) e f

-- ---- the codes of a glyph of an order

-- those of an exported glyph are those that count
counted_codes : (index : List Entry) (n : ℕ) (entry : Entry) → slice_get index n ≡ Some entry
    → entry.1.exported ≡ true → counted entry ≡ codes_at index (Some n)
counted_codes index n entry e x =
    ap (λ (b : Bool). cond b entry.1.codes []) x ∙ sym (ap entry_codes e)

module _ (index : List Entry) (coded : AreCoded index) where
  distinct_at : (number : Option ℕ) → IsExportedAt index number
      → IsDistinct nat_eq (codes_at index number)
  unfolding IsDistinct
  distinct_at None x = tt
  distinct_at (Some n) x =
      subst (IsDistinct nat_eq) (counted_codes index n x.0 x.1 x.2)
      (counted_distinct index n x.0 coded.distinct x.1)

  apart_at : (a b : Option ℕ) → IsExportedAt index a → IsExportedAt index b → AreDifferent a b
      → AreApart (codes_at index a) (codes_at index b)
  apart_at None b x y d = All-nil (λ c. All (λ e. nat_eq c e ≡ false) (codes_at index b))
  apart_at (Some n) None x y d = λ k e lt i f within. absurd (omega (arith, within))
  apart_at (Some n) (Some m) x y d =
      subst (λ cs. AreApart cs (codes_at index (Some m))) (counted_codes index n x.0 x.1 x.2)
      (subst (AreApart (counted x.0)) (counted_codes index m y.0 y.1 y.2)
      (counted_apart index n m x.0 y.0 coded.distinct d x.1 y.1))

  within_entry : (n : ℕ) (found : Option Entry) → slice_get index n ≡ found
      → All IsCharacterCode (entry_codes found)
  within_entry n None e = All-nil IsCharacterCode
  within_entry n (Some entry) e =
      all_at (λ x. All IsCharacterCode x.1.codes) index n entry coded.within e

  within_at : (number : Option ℕ) → All IsCharacterCode (codes_at index number)
  within_at None = All-nil IsCharacterCode
  within_at (Some n) = within_entry n (slice_get index n) refl

  within_from : (gid : ℕ) (numbers : List (Option ℕ))
      → All (λ code. code.0 ≤ 1114111) (codes_from index gid numbers)
  within_from gid [] = All-nil (λ (code : ℕ × ℕ). code.0 ≤ 1114111)
  within_from gid (number ∷ numbers) =
      All-append (λ code. code.0 ≤ 1114111) (with_gid gid (codes_at index number))
      (codes_from index (gid + 1) numbers)
      (All-map (λ code. code.0 ≤ 1114111) (λ (c : ℕ). (c, gid)) (codes_at index number)
      (All-weaker IsCharacterCode (λ c. c ≤ 1114111) (λ c h. h.most) (codes_at index number)
      (within_at number)))
      (within_from (gid + 1) numbers)

-- ---- codes no two of which are equal

-- no code stands twice
abbrev AreSingle : Codes → Type 0
AreSingle [] = Unit {0}
AreSingle (a ∷ codes) = AllByRecursion (λ b. nat_eq a.0 b.0 ≡ false) codes × AreSingle codes

-- a code before those of one glyph and others
before_joined : (c gid : ℕ) (list : List ℕ) (codes : Codes)
    → AllByRecursion (λ y. nat_eq c y ≡ false) list
    → AllByRecursion (λ b. nat_eq c b.0 ≡ false) codes
    → AllByRecursion (λ b. nat_eq c b.0 ≡ false) (with_gid gid list ++ codes)
before_joined c gid [] codes d h = h
before_joined c gid (x ∷ list) codes d h = (d.0, before_joined c gid list codes d.1 h)

-- those of one glyph before the others
join_single : (gid : ℕ) (list : List ℕ) (codes : Codes) → IsDistinct nat_eq list → AreSingle codes
    → All (λ c. AllByRecursion (λ b. nat_eq c b.0 ≡ false) codes) list
    → AreSingle (with_gid gid list ++ codes)
unfolding IsDistinct
join_single gid [] codes d s h = s
join_single gid (c ∷ list) codes d s h =
    let P : ℕ → Type 0 = λ c. AllByRecursion (λ b. nat_eq c b.0 ≡ false) codes in (
      before_joined c gid list codes d.0 (All-head P c list h),
      join_single gid list codes d.1 s (All-tail P c list h),
    )

module _ (index : List Entry) (coded : AreCoded index) where
  -- a code of a glyph is none of the others'
  none_later : (c gid : ℕ) (numbers : List (Option ℕ))
      → All (λ m. All (λ y. nat_eq c y ≡ false) (codes_at index m)) numbers
      → All (λ b. nat_eq c b.0 ≡ false) (codes_from index gid numbers)
  none_later c gid [] h = All-nil (λ (b : ℕ × ℕ). nat_eq c b.0 ≡ false)
  none_later c gid (m ∷ numbers) h =
      let P : Option ℕ → Type 0 = λ m. All (λ y. nat_eq c y ≡ false) (codes_at index m) in
      All-append (λ b. nat_eq c b.0 ≡ false) (with_gid gid (codes_at index m))
      (codes_from index (gid + 1) numbers)
      (All-map (λ b. nat_eq c b.0 ≡ false) (λ (c : ℕ). (c, gid)) (codes_at index m)
      (All-head P m numbers h))
      (none_later c (gid + 1) numbers (All-tail P m numbers h))

  single_from : (gid : ℕ) (numbers : List (Option ℕ)) → All (IsExportedAt index) numbers
      → AllPairs AreDifferent numbers → AreSingle (codes_from index gid numbers)
  single_from gid [] x d = tt
  single_from gid (number ∷ numbers) x d =
      let rest = codes_from index (gid + 1) numbers in
      let first = All-head (IsExportedAt index) number numbers x in
      let others = All-tail (IsExportedAt index) number numbers x in
      join_single gid (codes_at index number) rest (distinct_at index coded number first)
      (single_from (gid + 1) numbers others
      (λ i j e lt within. d (suc i) (suc j) e (omega (arith, lt)) (omega (arith, within))))
      (λ k e lt. recursion_from_All (λ b. nat_eq (get_or (codes_at index number) k e) b.0 ≡ false)
      rest (none_later (get_or (codes_at index number) k e) (gid + 1) numbers
      (λ j o within. apart_at index coded number (get_or numbers j o) first (others j o within)
      (d 0 (suc j) o (omega arith) (omega (arith, within))) k e lt)))

single_with : (a : ℕ × ℕ) (codes : Codes) → AllByRecursion (λ b. nat_eq a.0 b.0 ≡ false) codes
    → AreSingle codes → AreSingle (with_code a codes)
single_with a [] h s = (tt, tt)
single_with a (b ∷ codes) h s =
    elim (comes_before b a) as
    (λ v. AreSingle (cond v (b ∷ with_code a codes) (a ∷ b ∷ codes))) [
      | true ↦ (
        each_with (λ c. nat_eq b.0 c.0 ≡ false) a codes (nat_eq_equiv.symm b.0 a.0 ∙ h.0) s.0,
        single_with a codes h.1 s.1,
      )
      | false ↦ (h, s)
    ]

each_in_order : (P : ℕ × ℕ → Type 0) (codes : Codes) → AllByRecursion P codes
    → AllByRecursion P (in_order codes)
each_in_order P [] h = tt
each_in_order P (a ∷ codes) h = each_with P a (in_order codes) h.0 (each_in_order P codes h.1)

single_in_order : (codes : Codes) → AreSingle codes → AreSingle (in_order codes)
single_in_order [] s = tt
single_in_order (a ∷ codes) s =
    single_with a (in_order codes) (each_in_order (λ b. nat_eq a.0 b.0 ≡ false) codes s.0)
    (single_in_order codes s.1)

-- ---- so they rise

below : (x y : ℕ) (o : Ordering) → is_lt (ordering_then (nat_cmp y x) o) ≡ false
    → nat_eq x y ≡ false → x < y
below x y o e n = by (nat_cmp y x) refl e
  where
    by : (v : Ordering) → nat_cmp y x ≡ v → is_lt (ordering_then v o) ≡ false → x < y
    by Less r e = absurd cc
    by Equal r e =
        let same = ranked y x Equal (sym r) in
        absurd (grind (arith, nat_tests))
    by Greater r e = ranked y x Greater (sym r)

later_below : (a : ℕ × ℕ) (codes : Codes) → AllByRecursion (λ b. comes_before b a ≡ false) codes
    → AllByRecursion (λ b. nat_eq a.0 b.0 ≡ false) codes → All (λ b. a.0 < b.0) codes
later_below a [] h s = All-nil (λ (b : ℕ × ℕ). a.0 < b.0)
later_below a (b ∷ codes) h s =
    All-cons (λ b. a.0 < b.0) b codes (below a.0 b.0 (nat_cmp b.1 a.1) h.0 s.0)
    (later_below a codes h.1 s.1)

rises : (codes : Codes) → AreInOrder codes → AreSingle codes → AllPairs (λ a b. a.0 < b.0) codes
rises [] h s i j d lt within = absurd (omega (arith, within))
rises (a ∷ codes) h s i zero d lt within = absurd (omega (arith, lt))
rises (a ∷ codes) h s zero (suc j) d lt within =
    later_below a codes h.0 s.0 j d (omega (arith, within))
rises (a ∷ codes) h s (suc i) (suc j) d lt within =
    rises codes h.1 s.1 i j d (omega (arith, lt)) (omega (arith, within))

-- ---- glyph IDs

gids_from : (index : List Entry) (gid count : ℕ) (numbers : List (Option ℕ))
    → gid + length numbers ≤ count → All (λ code. code.1 < count) (codes_from index gid numbers)
gids_from index gid count [] h = All-nil (λ (code : ℕ × ℕ). code.1 < count)
gids_from index gid count (number ∷ numbers) h =
    All-append (λ code. code.1 < count) (with_gid gid (codes_at index number))
    (codes_from index (gid + 1) numbers)
    (All-map (λ code. code.1 < count) (λ (c : ℕ). (c, gid)) (codes_at index number)
    (λ k d lt. omega (arith, h)))
    (gids_from index (gid + 1) count numbers (omega (arith, h)))

pub are_codes : (index : List Entry) (numbers : List (Option ℕ)) → AreCoded index
    → IsOrderOver index numbers → AreCodes (length numbers) (codes_of index numbers)
unfolding codes_of
are_codes index numbers coded over =
    let codes = codes_from index 0 numbers in
    record {
      rise = rises (in_order codes) (in_order_rises codes)
          (single_in_order codes (single_from index coded 0 numbers over.exported over.different));
      within = All-permutation (λ code. code.0 ≤ 1114111) codes (in_order codes)
          (in_order_moved codes) (within_from index coded 0 numbers);
      glyphs = All-permutation (λ code. code.1 < length numbers) codes (in_order codes)
          (in_order_moved codes) (gids_from index 0 (length numbers) numbers (omega arith));
    }
