-- Regions by their numbers, and what is told of the changes as regions are added.
use Rattle.std.proofs.Common.{◌≡◌, ◌≢◌, ℕ, zero, suc, ◌+◌, ◌<◌, Bool, true, false, List, [], ◌∷◌}
use Rattle.std.proofs.Common.{◌++◌, length, map, get_or, take, drop, Option, None, Some, refl, sym, ap}
use Rattle.std.proofs.Common.{◌∙◌, subst, arith, ℤ, pos}
use Rattle.std.proofs.lemmas.List.{get_or-map, length-map, map-append}
use Rattle.std.proofs.lemmas.List.{take_more}
use Rattle.std.proofs.lemmas.Grind.{flat_map-append}
use Rattle.std.proofs.lemmas.List.Elements.{All-push, filter-append}
use Rattle.std.proofs.lemmas.List.Folds.{list_any_at}
use Rattle.std.proofs.lemmas.List.Quantifiers.{all_pairs_push, position-Some}
use Rattle.std.proofs.lemmas.List.Sums.{fold-append}
use Rattle.std.proofs.lemmas.Option.{slice_get-get_or}
use Rattle.std.specs.Prelude.{if◌then◌else◌, ◌||◌, slice_get, Vec, is_some, IfSome, IfNone}
use Rattle.std.specs.declared.alloc.Global.{Global}
use Rattle.std.specs.List.{flat_map, All, AllPairs, filter, list_any, position, zip}
use Rattle.std.specs.Ordering.{int_eq}
use Rattle.std.specs.Cmp.Lexicographic.{pointwise}
use Rattle.std.specs.Cmp.Rules.{signed_items}
use Rattle.std.specs.Cmp.{signed_Decides}
use Rattle.fixed_math.specs.declared.F2Dot14.{F2Dot14}
use Rattle.font_ir.specs.declared.variation.Region.{Region}
use Rattle.indexmap.specs.IndexSet.{insert_key}
use Rattle.metrics_tables.specs.Changes.{Change, changes_over, is_change, is_there, numbers_of}
use Rattle.metrics_tables.specs.Changes.{same_region, with_changes, with_region}
use Rattle.metrics_tables.specs.RegionIndexes.{changes_at, IsToldOneMore, AreTold, HasSides, IsIndexed, stands_at, told_by}
use Rattle.metrics_tables.specs.declared.changes.PlacedDelta.{PlacedDelta}
use Rattle.metrics_tables.specs.declared.region_index.RegionIndex.{RegionIndex}

-- ---- a region is told by its numbers

abbrev Side : Type 0
Side = F2Dot14 × F2Dot14 × F2Dot14

sides_same : (xs ys : List Side) → numbers_of (record { sides = xs })
    ≡ numbers_of (record { sides = ys }) → xs ≡ ys
sides_same [] [] e = refl
sides_same [] (y ∷ ys) e = absurd (omega (arith, ap length e))
sides_same (x ∷ xs) [] e = absurd (omega (arith, ap length e))
sides_same (x ∷ xs) (y ∷ ys) e =
    let start : x.0.0 ≡ y.0.0 = ap (λ zs. get_or zs 0 (pos 0)) e in
    let peak : x.1.0 ≡ y.1.0 = ap (λ zs. get_or zs 1 (pos 0)) e in
    let end : x.2.0 ≡ y.2.0 = ap (λ zs. get_or zs 2 (pos 0)) e in
    let rest = sides_same xs ys (ap (drop 3) e) in
    (λ i. (record { 0 = start i }, record { 0 = peak i }, record { 0 = end i }) ∷ rest i)

-- the numbers of one side more
pub numbers_more_by : (sides : List Side) (k : ℕ) (d : Side) (before after : List ℤ)
    → k < length sides
    → after ≡ before ++ (get_or sides k d).0.0 ∷ (get_or sides k d).1.0
    ∷ (get_or sides k d).2.0 ∷ []
    → before ≡ numbers_of (record { sides = take k sides })
    → after ≡ numbers_of (record { sides = take (k + 1) sides })
numbers_more_by sides k d before after within grown e =
    let numbers : Side → List ℤ = λ s. s.0.0 ∷ s.1.0 ∷ s.2.0 ∷ [] in
    grown ∙ ap (λ (start : List ℤ). start ++ numbers (get_or sides k d)) e
    ∙ sym (ap (flat_map numbers) (take_more sides k d within)
    ∙ flat_map-append numbers (take k sides) (get_or sides k d ∷ []))

numbers_tell : (a b : Region) → numbers_of a ≡ numbers_of b → a ≡ b
numbers_tell a b e = ap (λ (sides : List Side). record { sides = sides })
    (sides_same a.sides b.sides e)

pub same_is : (a b : Region) → same_region a b ≡ true → a ≡ b
same_is a b e = numbers_tell a b ((signed_items (numbers_of a) (numbers_of b)).0 e)

pub same_self : (a b : Region) → a ≡ b → same_region a b ≡ true
same_self a b e = (signed_items (numbers_of a) (numbers_of b)).1 (ap numbers_of e)

-- ---- the index

any-map : {X Y : Type 0} (p : Y → Bool) (f : X → Y) (xs : List X)
    → list_any p (map f xs) ≡ list_any (λ x. p (f x)) xs
any-map p f [] = refl
any-map p f (x ∷ xs) = ap (λ found. p (f x) || found) (any-map p f xs)

abbrev items_of : Vec ℤ Global → List ℤ
items_of key = key.items

-- a key with these numbers stands where the region stands
stands_there : (keys : List (Vec ℤ Global)) (regions : List Region) (numbers : List ℤ)
    (region : Region) (place : ℕ) → map items_of keys ≡ map numbers_of regions
    → numbers ≡ numbers_of region
    → position (λ key. pointwise int_eq numbers key.items) keys ≡ Some place
    → slice_get regions place ≡ Some region
stands_there [] regions numbers region place e same found = absurd (cc)
stands_there (k ∷ keys) regions numbers region place e same found =
    let at = position-Some (λ (key : Vec ℤ Global). pointwise int_eq numbers key.items)
    (k ∷ keys) place k found in
    let key = get_or (k ∷ keys) place k in
    let within : place < length regions = omega (
      arith,
      at.0,
      ap length e,
      length-map (k ∷ keys) items_of,
      length-map regions numbers_of,
    ) in
    let told : key.items ≡ numbers_of (get_or regions place region)
    = sym (get_or-map items_of (k ∷ keys) place k [] at.0)
    ∙ ap (λ all. get_or all place []) e
    ∙ get_or-map numbers_of regions place region [] within in
    let tells : numbers ≡ key.items = (signed_items numbers key.items).0 at.1 in
    let found_region : region ≡ get_or regions place region
    = numbers_tell region (get_or regions place region) (sym same ∙ tells ∙ told) in
    slice_get-get_or regions place region within ∙ ap Some (sym found_region)

module _ (index : RegionIndex) (is : IsIndexed index) (numbers : List ℤ) (region : Region)
    (same : numbers ≡ numbers_of region) where
  found_there : list_any (λ key. pointwise int_eq numbers key.items) index.numbers.keys
      ≡ is_there index.regions.items region
  found_there =
      sym (any-map (pointwise int_eq numbers) items_of index.numbers.keys)
      ∙ ap (list_any (pointwise int_eq numbers)) is.numbers
      ∙ any-map (pointwise int_eq numbers) numbers_of index.regions.items
      ∙ ap (λ ns. list_any (λ r. pointwise int_eq ns (numbers_of r)) index.regions.items) same

  place_there : (place : ℕ)
      → position (λ key. pointwise int_eq numbers key.items) index.numbers.keys ≡ Some place
      → slice_get index.regions.items place ≡ Some region
  place_there place found = stands_there index.numbers.keys index.regions.items numbers region place
      is.numbers same found

  -- what the place of a key says of the region
  pub told_there : (result : Option ℕ)
      → result ≡ position (λ key. pointwise int_eq numbers key.items) index.numbers.keys
      → is_some result ≡ list_any (λ key. pointwise int_eq numbers key.items) index.numbers.keys
      → IfSome result (λ place. is_there index.regions.items region ≡ true)
      × IfSome result (λ place. slice_get index.regions.items place ≡ Some region)
      × IfNone result (is_there index.regions.items region ≡ false)
  told_there None at found = (tt, tt, sym found_there ∙ sym found)
  told_there (Some place) at found =
      (sym found_there ∙ sym found, place_there place (sym at), tt)

-- a region that isn't there is none of those that are
apart : (regions : List Region) (region : Region) → is_there regions region ≡ false → (k : ℕ)
    (d : Region) → k < length regions → get_or regions k d ≢ region
apart regions region new k d within e =
    let there : is_there regions region ≡ true
    = list_any_at (same_region region) regions k d within
    (same_self region (get_or regions k d) (sym e)) in
    absurd (cc)

module _ (index new : RegionIndex) (is : IsIndexed index) (key : Vec ℤ Global) (region : Region)
    (same : key.items ≡ numbers_of region)
    (absent : is_there index.regions.items region ≡ false)
    (keys : new.numbers.keys
    ≡ insert_key (λ a b. pointwise int_eq a.items b.items) index.numbers.keys key)
    (regions : new.regions.items ≡ index.regions.items ++ region ∷ []) (axes : new.axes ≡ index.axes)
    (sides : HasSides index.axes region) where
  keys_more : new.numbers.keys ≡ index.numbers.keys ++ key ∷ []
  keys_more =
      keys ∙ ap (λ (found : Bool). if found then index.numbers.keys
      else index.numbers.keys ++ key ∷ []) (found_there index is key.items region same ∙ absent)

  numbers_more : map items_of new.numbers.keys ≡ map numbers_of new.regions.items
  numbers_more =
      ap (map items_of) keys_more
      ∙ map-append items_of index.numbers.keys (key ∷ [])
      ∙ (λ i. is.numbers i ++ same i ∷ [])
      ∙ sym (map-append numbers_of index.regions.items (region ∷ []))
      ∙ ap (map numbers_of) (sym regions)

  pub indexed_more : IsIndexed new
  indexed_more = record {
    numbers = numbers_more;
    different = subst (λ (all : List Region). AllPairs (λ a b. a ≢ b) all) (sym regions)
        (all_pairs_push (λ (a : Region) b. a ≢ b) index.regions.items region is.different
        (apart index.regions.items region absent));
    sides = subst (λ n. All (HasSides n) new.regions.items) (sym axes)
        (subst (All (HasSides index.axes)) (sym regions)
        (All-push (HasSides index.axes) index.regions.items region is.sides sides));
  }

pub last_there : (regions : List Region) (region : Region)
    → slice_get (regions ++ region ∷ []) (length regions) ≡ Some region
last_there [] region = refl
last_there (r ∷ regions) region = last_there regions region

pub with_new : (regions : List Region) (region : Region) → is_there regions region ≡ false
    → with_region regions region ≡ regions ++ region ∷ []
with_new regions region e = ap (λ (there : Bool). if there then regions
    else regions ++ region ∷ []) e

-- ---- what is told of places, as regions are added

get_more : (regions more : List Region) (place : ℕ) (region : Region)
    → slice_get regions place ≡ Some region → slice_get (regions ++ more) place ≡ Some region
get_more [] more place region e = absurd (cc)
get_more (r ∷ regions) more zero region e = e
get_more (r ∷ regions) more (suc place) region e = get_more regions more place region e

get_with : (regions : List Region) (added : Region) (place : ℕ) (region : Region)
    → slice_get regions place ≡ Some region
    → slice_get (with_region regions added) place ≡ Some region
get_with regions added place region e = by (is_there regions added)
  where
    by : (b : Bool) → slice_get (if b then regions else regions ++ added ∷ []) place ≡ Some region
    by true = e
    by false = get_more regions (added ∷ []) place region e

abbrev pub Told : Type 0
Told = Option Region × ℤ

abbrev none_told : Told
none_told = (None, pos 0)

pub told_first : (regions : List Region) (p : PlacedDelta) (placed : List PlacedDelta)
    (change : Change) (changes : List Change) → AreTold regions (p ∷ placed) (change ∷ changes)
    → told_by regions p ≡ stands_at change
told_first regions p placed change changes e = ap (λ (all : List Told). get_or all 0 none_told) e

pub told_rest : (regions : List Region) (p : PlacedDelta) (placed : List PlacedDelta)
    (change : Change) (changes : List Change) → AreTold regions (p ∷ placed) (change ∷ changes)
    → AreTold regions placed changes
told_rest regions p placed change changes e = ap (λ (all : List Told). drop 1 all) e

pub told_kept : (regions : List Region) (added : Region) (placed : List PlacedDelta)
    (changes : List Change) → AreTold regions placed changes
    → AreTold (with_region regions added) placed changes
told_kept regions added [] [] e = refl
told_kept regions added [] (change ∷ changes) e = absurd (omega (arith, ap length e))
told_kept regions added (p ∷ placed) [] e = absurd (omega (arith, ap length e))
told_kept regions added (p ∷ placed) (change ∷ changes) e =
    let first = told_first regions p placed change changes e in
    let place : slice_get regions p.place ≡ Some change.0 = ap (λ (t : Told). t.0) first in
    let delta : p.delta ≡ change.1 = ap (λ (t : Told). t.1) first in
    let here = get_with regions added p.place change.0 place in
    let rest = told_kept regions added placed changes
    (told_rest regions p placed change changes e) in
    (λ i. (here i, delta i) ∷ rest i)

pub told_more : (regions : List Region) (region : Region) (placed : List PlacedDelta)
    (p : PlacedDelta) (changes : List Change) (delta : ℤ) → AreTold regions placed changes
    → slice_get (with_region regions region) p.place ≡ Some region → p.delta ≡ delta
    → AreTold (with_region regions region) (placed ++ p ∷ []) (changes ++ (region, delta) ∷ [])
told_more regions region placed p changes delta e place is =
    let all = with_region regions region in
    let before = told_kept regions region placed changes e in
    map-append (told_by all) placed (p ∷ [])
    ∙ (λ i. before i ++ (place i, is i) ∷ [])
    ∙ sym (map-append stands_at changes ((region, delta) ∷ []))

-- and as those of changes are
pub told_on : (regions : List Region) (added : List Change) (placed : List PlacedDelta)
    (changes : List Change) → AreTold regions placed changes
    → AreTold (with_changes regions added) placed changes
told_on regions [] placed changes e = e
told_on regions (change ∷ added) placed changes e =
    told_on (with_region regions change.0) added placed changes
    (told_kept regions change.0 placed changes e)

-- ---- the changes over supports, one by one

zip_more : (supports : List Region) (deltas : List ℤ) (k : ℕ) (s : Region) (d : ℤ)
    → k < length supports → k < length deltas
    → zip (take (suc k) supports) (take (suc k) deltas)
    ≡ zip (take k supports) (take k deltas) ++ (get_or supports k s, get_or deltas k d) ∷ []
zip_more [] deltas k s d h j = absurd (omega (arith, h))
zip_more (support ∷ supports) [] k s d h j = absurd (omega (arith, j))
zip_more (support ∷ supports) (delta ∷ deltas) zero s d h j = refl
zip_more (support ∷ supports) (delta ∷ deltas) (suc k) s d h j =
    ap (λ rest. (support, delta) ∷ rest)
    (zip_more supports deltas k s d (omega (arith, h)) (omega (arith, j)))

over_more : (supports : List Region) (deltas : List ℤ) (k : ℕ) (s : Region) (d : ℤ)
    → k < length supports → k < length deltas
    → changes_over (take (k + 1) supports) (take (k + 1) deltas)
    ≡ changes_over (take k supports) (take k deltas)
    ++ filter is_change ((get_or supports k s, get_or deltas k d) ∷ [])
over_more supports deltas k s d h j =
    let one_more : k + 1 ≡ suc k = omega arith in
    ap (λ n. changes_over (take n supports) (take n deltas)) one_more
    ∙ ap (filter is_change) (zip_more supports deltas k s d h j)
    ∙ filter-append is_change (zip (take k supports) (take k deltas))
    ((get_or supports k s, get_or deltas k d) ∷ [])

kept_change : (region : Region) (delta : ℤ) → int_eq delta (pos 0) ≡ false
    → filter is_change ((region, delta) ∷ []) ≡ (region, delta) ∷ []
kept_change region delta e = rw e refl

not_zero : (delta : ℤ) → delta ≢ pos 0 → int_eq delta (pos 0) ≡ false
not_zero delta apart = by (int_eq delta (pos 0)) refl
  where
    by : (b : Bool) → int_eq delta (pos 0) ≡ b → b ≡ false
    by true e = absurd (apart ((signed_Decides delta (pos 0)).0 e))
    by false e = refl

is_one : (region : Region) (delta : ℤ) → delta ≢ pos 0
    → filter is_change ((region, delta) ∷ []) ≡ (region, delta) ∷ []
is_one region delta apart = kept_change region delta (not_zero delta apart)

-- a change behind others is told by the place that its region has
pub told_one : (before after : List Region) (placed more : List PlacedDelta) (p : PlacedDelta)
    (region : Region) (delta : ℤ) → delta ≢ pos 0 → after ≡ with_region before region
    → slice_get after p.place ≡ Some region → p.delta ≡ delta → more ≡ placed ++ p ∷ []
    → IsToldOneMore before placed after more (changes_at region delta)
told_one before after placed more p region delta apart grown place is pushed so_far told =
    (λ i. map (told_by (grown i)) (pushed i))
    ∙ told_more before region placed p so_far delta told
    (ap (λ all. slice_get all p.place) (sym grown) ∙ place) is
    ∙ ap (λ last. map stands_at (so_far ++ last)) (sym (is_one region delta apart))

-- the changes up to the next support
module _ (supports : List Region) (deltas : List ℤ) (k : ℕ) (region : Region) (delta : ℤ)
    (h : k < length supports) (j : k < length deltas) (at : region ≡ get_or supports k region)
    (is : delta ≡ get_or deltas k (pos 0)) where
  abbrev so_far : List Change
  so_far = changes_over (take k supports) (take k deltas)

  step : changes_over (take (k + 1) supports) (take (k + 1) deltas)
      ≡ so_far ++ changes_at region delta
  step = over_more supports deltas k region (pos 0) h j
      ∙ (λ i. so_far ++ changes_at (sym at i) (sym is i))

  pub regions_step : (initial before after : List Region)
      → after ≡ with_changes before (changes_at region delta)
      → before ≡ with_changes initial so_far
      → after ≡ with_changes initial (changes_over (take (k + 1) supports) (take (k + 1) deltas))
  regions_step initial before after grown e =
      grown ∙ ap (λ rs. with_changes rs (changes_at region delta)) e
      ∙ sym (fold-append (λ rs (c : Change). with_region rs c.0) initial so_far
      (changes_at region delta))
      ∙ ap (with_changes initial) (sym step)

  pub told_step : (after : List Region) (placed : List PlacedDelta)
      → AreTold after placed (so_far ++ changes_at region delta)
      → AreTold after placed (changes_over (take (k + 1) supports) (take (k + 1) deltas))
  told_step after placed told = told ∙ ap (map stands_at) (sym step)
