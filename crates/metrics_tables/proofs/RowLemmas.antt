-- A row by the places of regions is the row over the regions.
use Rattle.std.proofs.Common.{◌≡◌, ◌≢◌, ℕ, zero, suc, ◌<◌, Bool, true, false, List, []}
use Rattle.std.proofs.Common.{◌∷◌, length, map, get_or, drop, Option, None, Some, refl}
use Rattle.std.proofs.Common.{sym, ap, ◌∙◌, subst, arith, ℤ, pos}
use Rattle.std.proofs.lemmas.List.Elements.{All-from_recursion}
use Rattle.std.specs.Prelude.{if◌then◌else◌, slice_get, slice_set, replicate}
use Rattle.std.specs.List.{All, AllPairs, AllByRecursion, fold}
use Rattle.font_ir.specs.declared.variation.Region.{Region}
use Rattle.metrics_tables.specs.Changes.{Change, row_over, same_region}
use Rattle.metrics_tables.specs.RegionIndexes.{AllTold, AreTold, IsWithin, row_by, row_with}
use Rattle.metrics_tables.specs.declared.changes.PlacedDelta.{PlacedDelta}
use Rattle.metrics_tables.proofs.RegionLemmas.{same_is, same_self, told_first, told_rest, Told}

-- a region differs from each of these
abbrev pub IsApart : Region → List Region → Type 0
IsApart region others = AllByRecursion (λ other. region ≢ other) others

abbrev pub AreApart : List Region → Type 0
AreApart [] = Unit {0}
AreApart (region ∷ regions) = IsApart region regions × AreApart regions

apart_from : (region : Region) (others : List Region)
    → ((j : ℕ) (d : Region) → j < length others → region ≢ get_or others j d)
    → IsApart region others
apart_from region [] h = tt
apart_from region (other ∷ others) h = (
  h 0 other (omega arith),
  apart_from region others (λ j d within. h (suc j) d (omega (arith, within))),
)

pub are_apart : (regions : List Region) → AllPairs (λ a b. a ≢ b) regions → AreApart regions
are_apart [] h = tt
are_apart (region ∷ regions) h = (
  apart_from region regions (λ j d within. h 0 (suc j) d (omega arith) (omega (arith, within))),
  are_apart regions
      (λ i j d below within. h (suc i) (suc j) d (omega (arith, below)) (omega (arith, within))),
)

pub not_same : (a b : Region) → a ≢ b → same_region a b ≡ false
not_same a b apart = by (same_region a b) refl
  where
    by : (t : Bool) → same_region a b ≡ t → t ≡ false
    by true e = absurd (apart (same_is a b e))
    by false e = refl

-- what a region's delta makes of what stands for each region
abbrev put : Region → ℤ → (Region → ℤ) → Region → ℤ
put region delta f q = if same_region region q then delta else f q

elsewhere : (regions : List Region) (f : Region → ℤ) (region : Region) (delta : ℤ)
    → IsApart region regions → map f regions ≡ map (put region delta f) regions
elsewhere [] f region delta apart = refl
elsewhere (q ∷ regions) f region delta apart =
    let here : f q ≡ put region delta f q
    = sym (ap (λ (t : Bool). if t then delta else f q) (not_same region q apart.0)) in
    let rest = elsewhere regions f region delta apart.1 in
    (λ i. here i ∷ rest i)

abbrev some_region : Region → Option Region → Region
some_region d None = d
some_region d (Some x) = x

-- a region that stands there isn't one that it differs from
there_apart : (regions : List Region) (region q : Region) (place : ℕ) → IsApart q regions
    → slice_get regions place ≡ Some region → region ≢ q
there_apart [] region q place apart found e = absurd (cc)
there_apart (r ∷ regions) region q zero apart found e =
    let same : r ≡ region = ap (some_region r) found in apart.0 (sym (same ∙ e))
there_apart (r ∷ regions) region q (suc place) apart found e =
    there_apart regions region q place apart.1 found e

row_set : (regions : List Region) (f : Region → ℤ) (place : ℕ) (region : Region) (delta : ℤ)
    → AreApart regions → slice_get regions place ≡ Some region
    → slice_set (map f regions) place delta ≡ map (put region delta f) regions
row_set [] f place region delta apart found = absurd (cc)
row_set (r ∷ regions) f zero region delta apart found =
    let same : region ≡ r = sym (ap (some_region r) found) in
    let here : delta ≡ put region delta f r
    = sym (ap (λ (t : Bool). if t then delta else f r) (same_self region r same)) in
    let others : IsApart region regions = subst (λ x. IsApart x regions) (sym same) apart.0 in
    let rest = elsewhere regions f region delta others in
    (λ i. here i ∷ rest i)
row_set (r ∷ regions) f (suc place) region delta apart found =
    let other : region ≢ r = there_apart regions region r place apart.0 found in
    let here : f r ≡ put region delta f r
    = sym (ap (λ (t : Bool). if t then delta else f r) (not_same region r other)) in
    let rest = row_set regions f place region delta apart.1 found in
    (λ i. here i ∷ rest i)

-- the deltas of changes, over what stands for each region
abbrev puts : List Change → ℤ → Region → ℤ
puts changes so_far q =
    fold (λ so_far change. if same_region change.0 q then change.1 else so_far) so_far changes

module _ (regions : List Region) (apart : AreApart regions) where
  row_is : (f : Region → ℤ) (placed : List PlacedDelta) (changes : List Change)
      → AreTold regions placed changes
      → row_with (map f regions) placed ≡ map (λ q. puts changes (f q) q) regions
  row_is f [] [] e = refl
  row_is f [] (change ∷ changes) e = absurd (omega (arith, ap length e))
  row_is f (p ∷ placed) [] e = absurd (omega (arith, ap length e))
  row_is f (p ∷ placed) (change ∷ changes) e =
      let first = told_first regions p placed change changes e in
      let place : slice_get regions p.place ≡ Some change.0 = ap (λ (t : Told). t.0) first in
      let delta : p.delta ≡ change.1 = ap (λ (t : Told). t.1) first in
      let here = ap (slice_set (map f regions) p.place) delta
      ∙ row_set regions f p.place change.0 change.1 apart place in
      ap (λ row. row_with row placed) here
      ∙ row_is (put change.0 change.1 f) placed changes
      (told_rest regions p placed change changes e)

zeros_are : (regions : List Region)
    → replicate (length regions) (pos 0) ≡ map (λ (q : Region). pos 0) regions
zeros_are [] = refl
zeros_are (q ∷ regions) = ap (λ rest. pos 0 ∷ rest) (zeros_are regions)

row_told : (regions : List Region) (placed : List PlacedDelta) (changes : List Change)
    → AreApart regions → AreTold regions placed changes
    → row_by (length regions) placed ≡ row_over regions changes
row_told regions placed changes apart e =
    ap (λ row. row_with row placed) (zeros_are regions)
    ∙ row_is regions apart (λ q. pos 0) placed changes e

rows_by : (regions : List Region) (all : List (List PlacedDelta)) (changes : List (List Change))
    → AreApart regions → AllTold regions all changes
    → map (row_by (length regions)) all ≡ map (row_over regions) changes
rows_by regions [] [] apart e = refl
rows_by regions [] (each ∷ changes) apart e = absurd (omega (arith, ap length e))
rows_by regions (placed ∷ all) [] apart e = absurd (omega (arith, ap length e))
rows_by regions (placed ∷ all) (each ∷ changes) apart e =
    let here = row_told regions placed each apart (ap (λ (xs : List (List Told)). get_or xs 0 []) e) in
    let rest = rows_by regions all changes apart (ap (λ (xs : List (List Told)). drop 1 xs) e) in
    (λ i. here i ∷ rest i)

pub rows_told : (regions : List Region) (all : List (List PlacedDelta))
    (changes : List (List Change)) → AllPairs (λ a b. a ≢ b) regions
    → AllTold regions all changes
    → map (row_by (length regions)) all ≡ map (row_over regions) changes
rows_told regions all changes different e =
    rows_by regions all changes (are_apart regions different) e

-- ---- the places are those of regions

place_within : (regions : List Region) (place : ℕ) (region : Region)
    → slice_get regions place ≡ Some region → place < length regions
place_within [] place region e = absurd (cc)
place_within (r ∷ regions) zero region e = omega arith
place_within (r ∷ regions) (suc place) region e =
    let rest = place_within regions place region e in omega (arith, rest)

told_within : (regions : List Region) (placed : List PlacedDelta) (changes : List Change)
    → AreTold regions placed changes → AllByRecursion (IsWithin (length regions)) placed
told_within regions [] changes e = tt
told_within regions (p ∷ placed) [] e = absurd (omega (arith, ap length e))
told_within regions (p ∷ placed) (change ∷ changes) e = (
  place_within regions p.place change.0
      (ap (λ (t : Told). t.0) (told_first regions p placed change changes e)),
  told_within regions placed changes (told_rest regions p placed change changes e),
)

all_within_by : (regions : List Region) (all : List (List PlacedDelta))
    (changes : List (List Change)) → AllTold regions all changes
    → AllByRecursion (All (IsWithin (length regions))) all
all_within_by regions [] changes e = tt
all_within_by regions (placed ∷ all) [] e = absurd (omega (arith, ap length e))
all_within_by regions (placed ∷ all) (each ∷ changes) e = (
  All-from_recursion (IsWithin (length regions)) placed
      (told_within regions placed each (ap (λ (xs : List (List Told)). get_or xs 0 []) e)),
  all_within_by regions all changes (ap (λ (xs : List (List Told)). drop 1 xs) e),
)

pub all_within : (regions : List Region) (all : List (List PlacedDelta))
    (changes : List (List Change)) → AllTold regions all changes
    → All (All (IsWithin (length regions))) all
all_within regions all changes e =
    All-from_recursion (All (IsWithin (length regions))) all
    (all_within_by regions all changes e)
