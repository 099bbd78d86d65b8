-- Each region that measuring keeps has a side on each axis.
use Rattle.std.proofs.Common.{◌≡◌, ℕ, ◌+◌, ◌<◌, Bool, true, false, cond, ℤ, List, [], ◌∷◌, ◌++◌}
use Rattle.std.proofs.Common.{length, map, drop, get_or, nat_lt, ◌==◌, Some, None, refl, sym, ap}
use Rattle.std.proofs.Common.{◌∙◌, arith}
use Rattle.std.proofs.lemmas.Bool.Decides.{nat_tests}
use Rattle.std.proofs.lemmas.List.{length-map, get_or-take, get_or_default}
use Rattle.std.proofs.lemmas.List.Elements.{All-from_recursion, recursion_from_All}
use Rattle.std.specs.Prelude.{unwrap_or}
use Rattle.std.specs.List.{All, AllByRecursion, filter, fold, position_or_len, range_with_len, zip}
use Rattle.fixed_math.specs.declared.F2Dot14.{F2Dot14}
use Rattle.font_ir.specs.FlatGlyphs.{IsFlatGlyph}
use Rattle.font_ir.specs.Headers.{IsHeader, IsMaster}
use Rattle.font_ir.specs.declared.glyph.FlatGlyph.{FlatGlyph}
use Rattle.font_ir.specs.declared.header.Header.{Header}
use Rattle.font_ir.specs.declared.header.Master.{Master}
use Rattle.font_ir.specs.declared.variation.Region.{Region}
use Rattle.variation_model.specs.Places.{place_at, ordered, order_of, of_rank, ranks, rank_among}
use Rattle.variation_model.specs.Places.{keys_of, key}
use Rattle.variation_model.specs.Supports as spec
use Rattle.variation_model.specs.Supports.{supports_of, supports_after}
use Rattle.metrics_tables.specs.Changes.{Change, is_change, is_there, with_region, with_changes}
use Rattle.metrics_tables.specs.Changes.{with_glyphs, regions_of, changes_of}
use Rattle.metrics_tables.specs.Changes.{advance_deltas, master_places, BeginsWithMasters}

-- ---- supports

length-widest_from : (places : List (List F2Dot14)) (axis : ℕ) (place : List F2Dot14)
    → length (spec.widest_from places axis place) ≡ length place
length-widest_from places axis [] = refl
length-widest_from places axis (v ∷ vs) = omega (arith, length-widest_from places (axis + 1) vs)

length-cut_largest : (largest : ℕ × ℕ) (sides : List (F2Dot14 × F2Dot14 × F2Dot14))
    (place : List F2Dot14) → length (spec.cut_largest largest sides place) ≡ length sides
length-cut_largest largest [] vs = refl
length-cut_largest largest (side ∷ sides) [] = refl
length-cut_largest largest (side ∷ sides) (v ∷ vs)
    = omega (arith, length-cut_largest largest sides vs)

length-cond : (b : Bool) (xs ys : List (F2Dot14 × F2Dot14 × F2Dot14)) (n : ℕ) → length xs ≡ n
    → length ys ≡ n → length (cond b xs ys) ≡ n
length-cond true xs ys n e g = e
length-cond false xs ys n e g = g

length-narrowed : (sides : List (F2Dot14 × F2Dot14 × F2Dot14)) (place : List F2Dot14)
    → length (spec.narrowed sides place) ≡ length sides
length-narrowed sides place =
    length-cond (spec.all_inside sides place)
    (spec.cut_largest (spec.largest_ratio sides place) sides place) sides (length sides)
    (length-cut_largest (spec.largest_ratio sides place) sides place) refl

length-fold-narrowed : (sides : List (F2Dot14 × F2Dot14 × F2Dot14))
    (earlier : List (List F2Dot14)) → length (fold spec.narrowed sides earlier) ≡ length sides
length-fold-narrowed sides [] = refl
length-fold-narrowed sides (place ∷ rest) =
    length-fold-narrowed (spec.narrowed sides place) rest ∙ length-narrowed sides place

length-support : (places earlier : List (List F2Dot14)) (place : List F2Dot14)
    → length ((spec.support places earlier place).sides) ≡ length place
length-support places earlier place =
    length-fold-narrowed (spec.widest_from places 0 place) earlier
    ∙ length-widest_from places 0 place

-- the order names places that are there
chosen : (b : Bool) (i n : ℕ) → 0 < n → (b ≡ true → i < n) → unwrap_or (cond b (Some i) None) 0 < n
chosen true i n h f = f refl
chosen false i n h f = h

rank_within : (numbers : List ℕ) (k : ℕ) → 0 < length numbers → of_rank numbers k < length numbers
rank_within numbers k h =
    chosen (nat_lt (position_or_len (λ number. number == k) numbers) (length numbers))
    (position_or_len (λ number. number == k) numbers) (length numbers) h
    (λ e. grind (arith, nat_tests))

ranks_within : (numbers ks : List ℕ) (count : ℕ) → length numbers ≡ count → 0 < count
    → AllByRecursion (λ i. i < count) (map (of_rank numbers) ks)
ranks_within numbers [] count e h = tt
ranks_within numbers (k ∷ ks) count e h =
    let within = rank_within numbers k (omega (arith, e, h)) in
    (omega (arith, e, within), ranks_within numbers ks count e h)

length-ranks : (places : List (List F2Dot14)) → length (ranks places) ≡ length places
length-ranks places =
    length-map (keys_of places) (rank_among (keys_of places)) ∙ length-map places (key places)

module _ (n : ℕ) where
  abbrev IsLong : List F2Dot14 → Type 0
  IsLong place = length place ≡ n

  abbrev HasSides : Region → Type 0
  HasSides region = length region.sides ≡ n

  abbrev Each : List Region → Type 0
  Each regions = AllByRecursion HasSides regions

  abbrev EachChange : List Change → Type 0
  EachChange changes = AllByRecursion (λ change. HasSides change.0) changes

  sides-supports_after : (places earlier rest : List (List F2Dot14)) → AllByRecursion IsLong rest
      → Each (supports_after places earlier rest)
  sides-supports_after places earlier [] long = tt
  sides-supports_after places earlier (place ∷ rest) long = (
    length-support places earlier place ∙ long.0,
    sides-supports_after places (earlier ++ place ∷ []) rest long.1,
  )

  long_at : (places : List (List F2Dot14)) (numbers : List ℕ) → AllByRecursion IsLong places
      → AllByRecursion (λ i. i < length places) numbers
      → AllByRecursion IsLong (map (place_at places) numbers)
  long_at places [] long within = tt
  long_at places (i ∷ numbers) long within = (
    All-from_recursion IsLong places long i [] within.0,
    long_at places numbers long within.1,
  )

  ordered_long : (places : List (List F2Dot14)) → AllByRecursion IsLong places
      → AllByRecursion IsLong (ordered places)
  unfolding order_of
  ordered_long [] long = tt
  ordered_long (place ∷ places) long =
      long_at (place ∷ places) (order_of (place ∷ places)) long
      (ranks_within (ranks (place ∷ places)) (range_with_len 0 (length (place ∷ places)))
      (length (place ∷ places)) (length-ranks (place ∷ places)) (omega arith))

  sides-supports_of : (places : List (List F2Dot14)) → AllByRecursion IsLong places
      → Each (supports_of places)
  unfolding supports_of
  sides-supports_of places long =
      sides-supports_after places [] (ordered places) (ordered_long places long)

  sides-drop : (regions : List Region) → Each regions → Each (drop 1 regions)
  sides-drop [] each = tt
  sides-drop (region ∷ regions) each = each.1

  -- ---- changes

  sides-zip : (regions : List Region) (deltas : List ℤ) → Each regions
      → EachChange (zip regions deltas)
  sides-zip [] deltas each = tt
  sides-zip (region ∷ regions) [] each = tt
  sides-zip (region ∷ regions) (delta ∷ deltas) each = (each.0, sides-zip regions deltas each.1)

  sides-filter : (changes : List Change) → EachChange changes
      → EachChange (filter is_change changes)
  sides-filter [] each = tt
  sides-filter (change ∷ changes) each =
      by (is_change change) (filter is_change changes) (sides-filter changes each.1)
    where
      by : (b : Bool) (kept : List Change) → EachChange kept
          → EachChange (cond b (change ∷ kept) kept)
      by true kept rest = (each.0, rest)
      by false kept rest = rest

  sides-changes_of : (glyph : FlatGlyph) → AllByRecursion IsLong glyph.places
      → EachChange (changes_of glyph)
  sides-changes_of glyph long =
      let supports = drop 1 (supports_of glyph.places) in
      let deltas = drop 1 (advance_deltas glyph) in
      sides-filter (zip supports deltas) (sides-zip supports deltas
      (sides-drop (supports_of glyph.places) (sides-supports_of glyph.places long)))

  -- ---- the regions so far

  one_more : (regions : List Region) (region : Region) → Each regions → HasSides region
      → Each (regions ++ region ∷ [])
  one_more [] region each has = (has, tt)
  one_more (first ∷ regions) region each has = (each.0, one_more regions region each.1 has)

  either : (b : Bool) (xs ys : List Region) → Each xs → Each ys → Each (cond b xs ys)
  either true xs ys e f = e
  either false xs ys e f = f

  sides-with_changes : (regions : List Region) (changes : List Change) → Each regions
      → EachChange changes → Each (with_changes regions changes)
  sides-with_changes regions [] each has = each
  sides-with_changes regions (change ∷ changes) each has =
      sides-with_changes (with_region regions change.0) changes
      (either (is_there regions change.0) regions (regions ++ change.0 ∷ []) each
      (one_more regions change.0 each has.0)) has.1

  sides-with_glyphs : (regions : List Region) (glyphs : List FlatGlyph) → Each regions
      → AllByRecursion (λ glyph. AllByRecursion IsLong glyph.places) glyphs
      → Each (with_glyphs regions glyphs)
  sides-with_glyphs regions [] each long = each
  sides-with_glyphs regions (glyph ∷ glyphs) each long =
      sides-with_glyphs (with_changes regions (changes_of glyph)) glyphs
      (sides-with_changes regions (changes_of glyph) each (sides-changes_of glyph long.0)) long.1

  -- ---- the places of a header's masters, and those of glyphs that begin with them

  masters_long : (masters : List Master) → AllByRecursion (IsMaster n) masters
      → AllByRecursion IsLong (map (λ master. master.location) masters)
  masters_long [] is = tt
  masters_long (master ∷ masters) is = (is.0.location, masters_long masters is.1)

module _ (header : Header) (is : IsHeader header) where
  abbrev axes : ℕ
  axes = length header.axes

  header_long : AllByRecursion (IsLong axes) (master_places header)
  header_long = masters_long axes header.masters
      (recursion_from_All (IsMaster axes) header.masters is.masters)

  glyph_long : (glyph : FlatGlyph) → IsFlatGlyph glyph → BeginsWithMasters header glyph
      → AllByRecursion (IsLong axes) glyph.places
  glyph_long glyph flat begins =
      let origin = is.origin in
      let some : 0 < length header.masters = omega (arith, origin) in
      let placed : 0 < length (master_places header)
      = omega (arith, some, length-map header.masters (λ master. master.location)) in
      let first : length (place_at glyph.places 0) ≡ axes
      = ap length (sym (get_or-take (length header.masters) glyph.places 0 [] some)
      ∙ ap (λ places. place_at places 0) begins)
      ∙ All-from_recursion (IsLong axes) (master_places header) header_long 0 [] placed in
      recursion_from_All (IsLong axes) glyph.places (λ k d within.
      ap length (get_or_default glyph.places k d [] within)
      ∙ flat.places.are_places.one_length k within ∙ first)

  pub sides-regions_of : (glyphs : List FlatGlyph) → All IsFlatGlyph glyphs
      → All (BeginsWithMasters header) glyphs
      → All (λ region. length region.sides ≡ length header.axes) (regions_of header glyphs)
  sides-regions_of glyphs flat begin =
      let long = recursion_from_All (λ glyph. AllByRecursion (IsLong axes) glyph.places) glyphs
      (λ k d within. glyph_long (get_or glyphs k d) (flat k d within) (begin k d within)) in
      let first = sides-drop axes (supports_of (master_places header))
      (sides-supports_of axes (master_places header) header_long) in
      All-from_recursion (HasSides axes) (regions_of header glyphs)
      (sides-with_glyphs axes (drop 1 (supports_of (master_places header))) glyphs first long)
