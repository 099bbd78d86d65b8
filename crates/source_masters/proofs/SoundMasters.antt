-- Where no rule of the masters fails, what is read of them fulfils what is asked.
use Rattle.std.proofs.Common.{◌≡◌, ◌≢◌, ℕ, zero, suc, ◌+◌, ◌*◌, ◌/◌, ◌<◌, ◌≤◌, Bool, true, false, not}
use Rattle.std.proofs.Common.{◌||◌, ◌&&◌, cond, ltb, eqb, nat_eq, nat_le, List, [], ◌∷◌, ◌++◌, length}
use Rattle.std.proofs.Common.{map, get_or, Option, Some, None, is_some, unwrap_or, refl, sym, ap, ◌∙◌}
use Rattle.std.proofs.Common.{subst, true≢false, arith, ℤ, pos, neg_ℤ, ◌-ℤ◌}
use Rattle.std.specs.Prelude.{codes, flat_map, position, slice_get, option_map, option_and_then}
use Rattle.std.specs.Option.{option_map_or}
use Rattle.std.specs.List.{All, AllPairs, AllByRecursion}
use Rattle.std.specs.Cmp.Lexicographic.{pointwise, nat_list_eq_equiv}
use Rattle.std.proofs.lemmas.Bool.Decides.{nat_tests}
use Rattle.std.proofs.lemmas.Int.{ints}
use Rattle.std.proofs.lemmas.List.{append-nil, append_assoc, length-map}
use Rattle.std.proofs.lemmas.List.Concat.{flat_map-cons}
use Rattle.std.proofs.lemmas.List.Elements.{All-from_recursion}
use Rattle.std.proofs.lemmas.List.Quantifiers.{all_pairs_push, position-Some}
use Rattle.plist_reader.specs.declared.tree.Tree.{Tree}
use Rattle.plist_reader.specs.Tree.{find_in, text_at}
use Rattle.plist_reader.specs.Keys.{is_among}
use Rattle.fixed_math.specs.declared.Fixed.{Fixed}
use Rattle.refusal_codes.specs.declared.rule.Rule.TheVariants.{MissingKey, NoMaster, AxisCount}
use Rattle.refusal_codes.specs.declared.rule.Rule.TheVariants.{TooManyMasters, OriginUnknown}
use Rattle.refusal_codes.specs.declared.first.Failure.{Failure}
use Rattle.refusal_codes.specs.First.{foremost}
use Rattle.font_ir.specs.declared.header.Master.{Master}
use Rattle.font_ir.specs.Headers.{IsAxisCoordinate}
use Rattle.font_ir.specs.FlatGlyphs.{IsSmall}
use Rattle.font_ir.specs.Coordinates.{coordinate_at}
use Rattle.source_values.specs.declared.decimals.Decimal.{Decimal}
use Rattle.source_values.specs.Decimals.{is_whole}
use Rattle.source_values.specs.Values.{decimal_at, items_at, items_under, natural_by, natural_in}
use Rattle.source_values.specs.Asking.{fails, is_empty_list, under_by, each_by, dictionary}
use Rattle.source_masters.specs.declared.metrics.Heights.{Heights}
use Rattle.source_axes.specs.AxisValues.{axis_coordinate, coordinates_under}
use Rattle.source_axes.specs.AxisValueLaws.{small_coordinate, small_coordinates}
use Rattle.source_masters.specs.Metrics.{height_by, height_at, height_in, height_of, heights_of}
use Rattle.source_masters.specs.Metrics.{missing_heights, metric_numbers, is_of_type, used_metrics}
use Rattle.source_masters.specs.MasterRules.{master_parts_failures, masters_failures}
use Rattle.source_masters.specs.WholeRules.{master_numbers, too_many_masters, crowded, no_master}
use Rattle.source_masters.specs.WholeRules.{deserted, master_id, repeated_ids, duplicate_masters}
use Rattle.source_masters.specs.WholeRules.{axis_count, axis_counts, has_id, master_named}
use Rattle.source_masters.specs.WholeRules.{origin_value, origin_of, unknown, unknown_origin}
use Rattle.source_masters.specs.MasterReading.{units_per_em, design_of, location_in}
use Rattle.source_masters.specs.MasterReading.{location_entries, user_coordinate, user_from}
use Rattle.source_masters.specs.MasterReading.{default_heights, master_with, masters_of}
use Rattle.source_masters.specs.ReadMasters.{IsReadMaster}
use Rattle.source_masters.specs.ReadMasters.{SoundMastersAreRead}

-- ---- coordinates

zero_within : IsAxisCoordinate (record { 0 = pos 0 })
zero_within = (omega (arith, ints), omega (arith, ints))

module _ (t : Tree) where
  abbrev AreWithin : List Fixed → Type 0
  AreWithin = AllByRecursion IsAxisCoordinate

  at_within : (fs : List Fixed) (i : ℕ) → AreWithin fs → IsAxisCoordinate (coordinate_at fs i)
  at_within [] i h = zero_within
  at_within (f ∷ fs) zero h = h.0
  at_within (f ∷ fs) (suc i) h = at_within fs i h.1

  user_within : (entries axis : List ℕ) (f : Fixed) → IsAxisCoordinate f
      → IsAxisCoordinate (user_coordinate t entries axis f)
  unfolding user_coordinate
  user_within entries axis f h = by (location_in axis t entries)
    where
      by : (o : Option ℕ) → IsAxisCoordinate (option_map_or (axis_coordinate t) o f)
      by None = h
      by (Some n) = small_coordinate t n

  module _ (entries : List ℕ) (fs : List Fixed) (h : AreWithin fs) where
    users_within : (i : ℕ) (axes : List (List ℕ)) → AreWithin (user_from t entries fs i axes)
    users_within i [] = tt
    users_within i (axis ∷ axes) = (
      user_within entries axis (coordinate_at fs i) (at_within fs i h),
      users_within (i + 1) axes,
    )

  users_long : (entries : List ℕ) (fs : List Fixed) (i : ℕ) (axes : List (List ℕ))
      → length (user_from t entries fs i axes) ≡ length axes
  users_long entries fs i [] = refl
  users_long entries fs i (axis ∷ axes) = ap (λ (n : ℕ). suc n) (users_long entries fs (i + 1) axes)

-- ---- heights

small_natural : (s : Bool) (n : ℕ) → nat_le n 16383 ≡ true
    → IsSmall (cond s (neg_ℤ (pos n)) (pos n))
small_natural true n e = let le : n ≤ 16383 = grind (arith, nat_tests, e) in
    (omega (arith, ints, le), omega (arith, ints, le))
small_natural false n e = let le : n ≤ 16383 = grind (arith, nat_tests, e) in
    (omega (arith, ints, le), omega (arith, ints, le))

zero_small : IsSmall (pos 0)
zero_small = (omega (arith, ints), omega (arith, ints))

height_small : (o : Option Decimal) → IsSmall (height_by o)
height_small None = zero_small
height_small (Some d) = by (is_whole d) (nat_le d.whole 16383) refl
  where
    by : (a b : Bool) → nat_le d.whole 16383 ≡ b
        → IsSmall (cond (a && b) (cond d.negative (neg_ℤ (pos d.whole)) (pos d.whole)) (pos 0))
    by true true e = small_natural d.negative d.whole e
    by true false e = zero_small
    by false b e = zero_small

module _ (t : Tree) where
  height_in-small : (value : ℕ) → IsSmall (height_in t value)
  unfolding height_in height_at
  height_in-small value = by (find_in t value (codes "pos"))
    where
      by : (o : Option ℕ) → IsSmall (option_map_or (height_at t) o (pos 0))
      by None = zero_small
      by (Some n) = height_small (decimal_at t n)

  height_or : (kind metrics : List ℕ) (m : ℕ) (z : ℤ) → IsSmall z
      → IsSmall (unwrap_or (height_of kind t metrics m) z)
  unfolding height_of
  height_or kind metrics m z h =
      by (option_and_then (slice_get (items_under t m (codes "metricValues")))
      (position (is_of_type kind t) metrics))
    where
      by : (o : Option ℕ) → IsSmall (unwrap_or (option_map (height_in t) o) z)
      by None = h
      by (Some value) = height_in-small value

pub record AreSmall (h : Heights) : Type 0 where
  pub ascender : IsSmall h.ascender
  pub descender : IsSmall h.descender
  pub cap : IsSmall h.cap
  pub xheight : IsSmall h.xheight

heights_small : (t : Tree) (metrics : List ℕ) (m : ℕ) (h : Heights) → AreSmall h
    → AreSmall (heights_of t metrics m h)
unfolding heights_of
heights_small t metrics m h s = record {
  ascender = height_or t (codes "ascender") metrics m h.ascender s.ascender;
  descender = height_or t (codes "descender") metrics m h.descender s.descender;
  cap = height_or t (codes "cap height") metrics m h.cap s.cap;
  xheight = height_or t (codes "x-height") metrics m h.xheight s.xheight;
}

signed : (a u : ℕ) → a ≤ u → u ≤ a + 16383 → a ≤ 16383
    → IsSmall (pos a) × IsSmall (pos a -ℤ pos u)
signed a u below near top = (
  (omega (arith, ints, top), omega (arith, ints, top)),
  (omega (arith, ints, below, near), omega (arith, ints, below, near)),
)

four_fifths : (u : ℕ) → u ≤ 16384 → (u * 4 / 5 ≤ u) × (u ≤ u * 4 / 5 + 16383) × (u * 4 / 5 ≤ 16383)
four_fifths u units = (omega (arith, units), omega (arith, units), omega (arith, units))

missing_small : (u : ℕ) → u ≤ 16384 → AreSmall (missing_heights u)
unfolding missing_heights
missing_small u units =
    let four = four_fifths u units in
    let both = signed (u * 4 / 5) u four.0 four.1 four.2 in
    record {
      ascender = both.0;
      descender = both.1;
      cap = zero_small;
      xheight = zero_small;
    }

picked : (whole : ℕ) (p q : Bool) → nat_le whole 16384 ≡ q → cond (p && q) whole 16 ≤ 16384
picked whole true true e = grind (arith, nat_tests, e)
picked whole true false e = omega arith
picked whole false q e = omega arith

chosen : (whole : ℕ) (a s p q : Bool) → nat_le whole 16384 ≡ q
    → cond (a && (s && (p && q))) whole 16 ≤ 16384
chosen whole true true p q e = picked whole p q e
chosen whole true false p q e = omega arith
chosen whole false s p q e = omega arith

natural_small : (o : Option Decimal) → natural_by 16 16384 o ≤ 16384
natural_small None = omega arith
natural_small (Some d) = chosen d.whole (is_whole d) (not d.negative || eqb d.whole 0)
    (nat_le 16 d.whole) (nat_le d.whole 16384) refl

units_small : (t : Tree) → units_per_em t ≤ 16384
unfolding natural_in
units_small t = by (find_in t t.top (codes "unitsPerEm"))
  where
    by : (o : Option ℕ) → option_map_or (natural_in 16 16384 t) o 16 ≤ 16384
    by None = omega arith
    by (Some n) = natural_small (decimal_at t n)

default_small : (t : Tree) → AreSmall (default_heights t)
unfolding default_heights
default_small t = by (option_and_then (slice_get (master_numbers t)) (origin_of t))
  where
    missing : AreSmall (missing_heights (units_per_em t))
    missing = missing_small (units_per_em t) (units_small t)

    by : (o : Option ℕ)
        → AreSmall (option_map_or
        (λ m. heights_of t (metric_numbers t) m (missing_heights (units_per_em t))) o
        (missing_heights (units_per_em t)))
    by None = missing
    by (Some m) = heights_small t (metric_numbers t) m (missing_heights (units_per_em t)) missing

-- ---- masters

module _ (t : Tree) (axes : List (List ℕ)) where
  module _ (missing : Heights) (small : AreSmall missing) where
    one_read : (m : ℕ) → length (items_under t m (codes "axesValues")) ≡ length axes
        → IsReadMaster (length axes) (master_with t axes missing m)
    unfolding master_with design_of coordinates_under
    one_read m count =
        let heights = heights_small t (metric_numbers t) m missing small in
        let values = items_under t m (codes "axesValues") in
        let design = small_coordinates t values in
        record {
          design = length-map values (axis_coordinate t) ∙ count;
          user = users_long t (location_entries t m) (design_of t m) 0 axes;
          design_range = All-from_recursion IsAxisCoordinate (map (axis_coordinate t) values)
              design;
          user_range = All-from_recursion IsAxisCoordinate
              (user_from t (location_entries t m) (design_of t m) 0 axes)
              (users_within t (location_entries t m) (design_of t m) design 0 axes);
          ascender = heights.ascender;
          descender = heights.descender;
          cap = heights.cap;
          xheight = heights.xheight;
        }

    counted : (m : ℕ) (b : Bool)
        → eqb (length (items_under t m (codes "axesValues"))) (length axes) ≡ b
        → cond b [] (fails AxisCount t m) ≡ []
        → length (items_under t m (codes "axesValues")) ≡ length axes
    counted m true e n = grind (arith, nat_tests, e)
    counted m false e n = absurd cc

    all_read : (ms : List ℕ) → flat_map (axis_count (length axes) t) ms ≡ []
        → AllByRecursion (IsReadMaster (length axes)) (map (master_with t axes missing) ms)
    unfolding axis_count
    all_read [] n = tt
    all_read (m ∷ ms) n =
        let parts = halves (axis_count (length axes) t m)
        (flat_map (axis_count (length axes) t) ms)
        (sym (flat_map-cons (axis_count (length axes) t) m ms) ∙ n) in (
          one_read m (counted m _ refl parts.0),
          all_read ms parts.1,
        )
      where
        halves : (xs ys : List Failure) → xs ++ ys ≡ [] → (xs ≡ []) × (ys ≡ [])
        halves [] ys e = (refl, e)
        halves (x ∷ xs) ys e = absurd cc

    ids_read : (ms : List ℕ)
        → map (λ (master : Master). master.id) (map (master_with t axes missing) ms)
        ≡ map (master_id t) ms
    unfolding master_with
    ids_read [] = refl
    ids_read (m ∷ ms) = ap (λ (ids : List (List ℕ)). master_id t m ∷ ids) (ids_read ms)

-- ---- ids

neither : (b r : Bool) → (b || r) ≡ false → (b ≡ false) × (r ≡ false)
neither true r n = absurd (true≢false n)
neither false r n = (refl, n)

abbrev Differ : List (List ℕ) → Type 0
Differ ids = AllPairs (λ a b. a ≢ b) ids

differs : (id : List ℕ) (ids : List (List ℕ)) → is_among id ids ≡ false
    → (k : ℕ) (d : List ℕ) → k < length ids → get_or ids k d ≢ id
differs id [] n k d lt = absurd (omega (arith, lt))
differs id (x ∷ ids) n zero d lt =
    λ (e : x ≡ id). true≢false
    (sym (nat_list_eq_equiv.refl id) ∙ ap (λ (y : List ℕ). pointwise nat_eq id y) (sym e)
    ∙ (neither (pointwise nat_eq id x) (is_among id ids) n).0)
differs id (x ∷ ids) n (suc k) d lt =
    differs id ids (neither (pointwise nat_eq id x) (is_among id ids) n).1 k d
    (omega (arith, lt))

at_none : (b : Bool) (x : Failure) (fs : List Failure) → foremost (cond b (x ∷ []) [] ++ fs) ≡ None
    → (b ≡ false) × (foremost fs ≡ None)
at_none true x fs n = absurd cc
at_none false x fs n = (refl, n)

module _ (t : Tree) where
  unrepeated : (ids : List (List ℕ)) (ms : List ℕ) → Differ ids
      → foremost (repeated_ids t ids ms) ≡ None → Differ (ids ++ map (master_id t) ms)
  unrepeated ids [] h n = subst Differ (sym (append-nil ids)) h
  unrepeated ids (m ∷ ms) h n =
      let id = master_id t m in
      let parts = at_none (is_among id ids) _ (repeated_ids t (ids ++ id ∷ []) ms) n in
      subst Differ (append_assoc ids (id ∷ []) (map (master_id t) ms))
      (unrepeated (ids ++ id ∷ []) ms
      (all_pairs_push (λ a b. a ≢ b) ids id h (differs id ids parts.0)) parts.1)

  none_differ : Differ []
  none_differ = λ i j d below within. absurd (omega (arith, below, within))

  ids_differ : foremost (duplicate_masters t) ≡ None → Differ (map (master_id t) (master_numbers t))
  unfolding duplicate_masters
  ids_differ n = unrepeated [] (master_numbers t) none_differ n

-- ---- the default master

module _ (t : Tree) where
  named_within : (o : Option (List ℕ)) (k : ℕ)
      → option_and_then (λ id. position (has_id id t) (master_numbers t)) o ≡ Some k
      → k < length (master_numbers t)
  named_within None k e = absurd cc
  named_within (Some id) k e = (position-Some (has_id id t) (master_numbers t) k 0 e).0

  master_within : (n k : ℕ) → master_named t n ≡ Some k → k < length (master_numbers t)
  unfolding master_named
  master_within n k e = named_within (text_at t.nodes n) k e

  abbrev Found : Option ℕ → Type 0
  Found o = (k : ℕ) × (o ≡ Some k) × (k < length (master_numbers t))

  found : (n : ℕ) (o : Option ℕ) → master_named t n ≡ o
      → foremost (cond (is_some o) [] (fails OriginUnknown t n)) ≡ None → Found o
  found n None e h = absurd cc
  found n (Some k) e h = (k, refl, master_within n k e)

  default_found : (o : Option ℕ) → foremost (option_map_or (unknown t) o []) ≡ None
      → 1 ≤ length (master_numbers t) → Found (option_map_or (master_named t) o (Some 0))
  default_found None h some = (0, refl, omega (arith, some))
  default_found (Some n) h some = found n (master_named t n) refl h

  origin_found : foremost (unknown_origin t) ≡ None → 1 ≤ length (master_numbers t)
      → Found (origin_of t)
  unfolding unknown_origin origin_of
  origin_found h some = default_found (origin_value t) h some

-- ---- how many there are

module _ (t : Tree) where
  at_most : (n count : ℕ) (b : Bool) → ltb 32 count ≡ b
      → foremost (cond b (fails TooManyMasters t n) []) ≡ None → count ≤ 32
  at_most n count true e h = absurd cc
  at_most n count false e h = grind (arith, nat_tests, e)

  few_under : (o : Option ℕ) → find_in t t.top (codes "fontMaster") ≡ o
      → foremost (option_map_or (crowded t) o []) ≡ None → length (master_numbers t) ≤ 32
  unfolding master_numbers
  few_under None e h =
      let none : length (master_numbers t) ≡ 0 =
      ap (λ (o : Option ℕ). length (unwrap_or (option_and_then (items_at t) o) [])) e in
      omega (arith, none)
  few_under (Some n) e h = at_most n (length (master_numbers t)) _ refl h

  few_masters : foremost (too_many_masters t) ≡ None → length (master_numbers t) ≤ 32
  unfolding too_many_masters
  few_masters h = few_under (find_in t t.top (codes "fontMaster")) refl h

  within_few : (o : Option ℕ) (k : ℕ) → Some k ≡ option_map_or (master_named t) o (Some 0)
      → length (master_numbers t) ≤ 32 → k ≤ 32
  within_few None k e few = let same : k ≡ 0 = cc in omega (arith, same)
  within_few (Some n) k e few = omega (arith, few, master_within t n k (sym e))

  module _ (failures : ℕ → List Failure) where
    some_listed : (n : ℕ) (o : Option (List ℕ)) → each_by failures t n o ≡ []
        → foremost (cond (is_empty_list o) (fails NoMaster t n) []) ≡ None
        → 1 ≤ length (unwrap_or o [])
    some_listed n None e h = absurd cc
    some_listed n (Some []) e h = absurd cc
    some_listed n (Some (m ∷ ms)) e h = omega arith

    some_under : (o : Option ℕ)
        → under_by (λ n. each_by failures t n (items_at t n)) (fails MissingKey t t.top) o ≡ []
        → foremost (option_map_or (deserted t) o []) ≡ None
        → 1 ≤ length (unwrap_or (option_and_then (items_at t) o) [])
    some_under None e h = absurd cc
    some_under (Some n) e h = some_listed n (items_at t n) e h

  some_masters : under_by (masters_failures (used_metrics t) t) (fails MissingKey t t.top)
      (find_in t t.top (codes "fontMaster")) ≡ []
      → foremost (no_master t) ≡ None → 1 ≤ length (master_numbers t)
  unfolding no_master master_numbers
  some_masters e h =
      some_under (dictionary (master_parts_failures (used_metrics t)) t)
      (find_in t t.top (codes "fontMaster")) e h

pub origin_small : (t : Tree) (k : ℕ) → Some k ≡ origin_of t → foremost (too_many_masters t) ≡ None
    → k ≤ 32
unfolding origin_of
origin_small t k e few = within_few t (origin_value t) k e (few_masters t few)

-- ---- all together

counts_none : (t : Tree) (axes : ℕ) → axis_counts axes t ≡ []
    → flat_map (axis_count axes t) (master_numbers t) ≡ []
unfolding axis_counts
counts_none t axes e = e

as_many : (t : Tree) (axes : List (List ℕ))
    → length (masters_of t axes) ≡ length (master_numbers t)
unfolding masters_of
as_many t axes = length-map (master_numbers t) (master_with t axes (default_heights t))

each_read : (t : Tree) (axes : List (List ℕ)) → axis_counts (length axes) t ≡ []
    → All (IsReadMaster (length axes)) (masters_of t axes)
unfolding masters_of
each_read t axes e =
    All-from_recursion (IsReadMaster (length axes))
    (map (master_with t axes (default_heights t)) (master_numbers t))
    (all_read t axes (default_heights t) (default_small t) (master_numbers t)
    (counts_none t (length axes) e))

ids_of_read : (t : Tree) (axes : List (List ℕ))
    → map (λ (master : Master). master.id) (masters_of t axes)
    ≡ map (master_id t) (master_numbers t)
unfolding masters_of
ids_of_read t axes = ids_read t axes (default_heights t) (default_small t) (master_numbers t)

pub sound_masters : SoundMastersAreRead
sound_masters t axes h =
    let some = some_masters t h.local h.some in
    let few = few_masters t h.few in
    let many = as_many t axes in
    let origin = origin_found t h.origin some in (
      record {
        some = omega (arith, some, many);
        few = omega (arith, few, many);
        each = each_read t axes h.counts;
        ids = subst Differ (sym (ids_of_read t axes)) (ids_differ t h.ids);
      },
      record {
        origin = origin.0;
        there = origin.1;
        within = omega (arith, origin.2, many);
      },
    )
