-- A font of one master, without axes and without components, has no regions, no deltas and no
-- nesting. For the proofs of other crates alone.
use Rattle.std.proofs.Common.{◌≡◌, ℕ, zero, suc, ◌+◌, ◌<◌, ℤ, pos, ◌≤ℤ◌, List, []}
use Rattle.std.proofs.Common.{◌∷◌, length, map, drop, Option, None, Some, refl}
use Rattle.std.proofs.Common.{ap, ◌∙◌, arith, true, Bool}
use Rattle.std.proofs.lemmas.Int.{ints}
use Rattle.std.proofs.lemmas.List.Elements.{recursion_from_All}
use Rattle.std.specs.Prelude.{if◌then◌else◌, nat_eq, ◌*ℤ◌, ◌-ℤ◌, Ok}
use Rattle.std.specs.List.{All, AllByRecursion, Contains, flat_map}
use Rattle.std.specs.List.{range_with_len}
use Rattle.std.specs.Option.{option_map, option_to_list}
use Rattle.fixed_math.specs.FloorLaws.{half_up_exact}
use Rattle.fixed_math.specs.FixedPoint.{half_up}
use Rattle.fixed_math.specs.declared.F2Dot14.{F2Dot14}
use Rattle.font_ir.specs.FlatGlyphs.{IsFlatGlyph}
use Rattle.font_ir.specs.Glyphs.{gid_of}
use Rattle.font_ir.specs.Headers.{IsHeader, IsMaster}
use Rattle.font_ir.specs.Outlines.{contours_at, points_at}
use Rattle.font_ir.specs.declared.header.Header.{Header}
use Rattle.font_ir.specs.declared.header.Master.{Master}
use Rattle.font_ir.specs.declared.glyph.FlatGlyph.{FlatGlyph}
use Rattle.font_ir.specs.declared.glyph.Kept.{Kept}
use Rattle.font_ir.specs.declared.variation.Region.{Region}
use Rattle.variation_model.specs.Places.{order_of}
use Rattle.variation_model.specs.Supports.{supports_of}
use Rattle.variation_model.specs.Deltas.{deltas_of, first_large, is_storable}
use Rattle.metrics_tables.specs.declared.changes.LargeDelta.{LargeDelta}
use Rattle.metrics_tables.specs.Comparisons.{greatest_count}
use Rattle.metrics_tables.specs.Nesting.{bases_of, bases_in, bases_at, depth_within, depth_of}
use Rattle.metrics_tables.specs.Nesting.{NoneLeadsToItself}
use Rattle.metrics_tables.specs.Changes.{master_places, advance_deltas, changes_of, in_16_16}
use Rattle.metrics_tables.specs.Changes.{changes_over}
use Rattle.metrics_tables.specs.Changes.{first_of, large_from, large_of, row_over, regions_of}
use Rattle.metrics_tables.specs.Changes.{with_changes, with_glyphs}
use Rattle.metrics_tables.specs.Measuring as measuring
use Rattle.metrics_tables.specs.Measuring.{HasMastersPlaces, IsStatic, measured_of, measures_of}
use Rattle.metrics_tables.specs.Measuring.{font_measures, maxima_of, simple_maxima}

-- ---- no nesting

no_base_of : (names : List (List ℕ)) (glyph : FlatGlyph) → glyph.kept ≡ []
    → bases_of names glyph ≡ []
no_base_of names glyph e = ap (λ (kept : List Kept). flat_map
    (λ k. option_to_list (gid_of names k.base)) kept) e

module _ (names : List (List ℕ)) where
  no_bases : (glyphs : List FlatGlyph) → AllByRecursion (λ glyph. glyph.kept ≡ []) glyphs
      → (gid : ℕ) → bases_at (bases_in names glyphs) gid ≡ []
  no_bases [] none gid = refl
  no_bases (glyph ∷ glyphs) none zero = no_base_of names glyph none.0
  no_bases (glyph ∷ glyphs) none (suc gid) = no_bases glyphs none.1 gid

  module _ (glyphs : List FlatGlyph) (none : AllByRecursion (λ glyph. glyph.kept ≡ []) glyphs) where
    no_base : (gid base : ℕ) → Contains (bases_at (bases_in names glyphs) gid) base → ⊥
    no_base gid base there =
        let inside : there.0 < length (bases_at (bases_in names glyphs) gid) = there.1 in
        let empty = ap length (no_bases glyphs none gid) in omega (arith, inside, empty)

    pub none_leads : NoneLeadsToItself (bases_in names glyphs)
    none_leads gid [] chain = no_base gid gid chain.0
    none_leads gid (base ∷ between) chain = no_base gid base chain.0

    no_depth : (n gid : ℕ) → depth_within (bases_in names glyphs) n gid ≡ 0
    unfolding depth_within
    no_depth zero gid = refl
    no_depth (suc n) gid = ap (λ (gids : List ℕ). greatest_count
        (map (λ base. 1 + depth_within (bases_in names glyphs) n base) gids))
        (no_bases glyphs none gid)

    zeros : (gids : List ℕ) → greatest_count (map (depth_of (bases_in names glyphs)) gids) ≡ 0
    zeros [] = refl
    zeros (gid ∷ gids) =
        let first = no_depth (length (bases_in names glyphs)) gid in
        let rest = zeros gids in omega (arith, first, rest)

-- ---- counts

-- what is the same of each glyph
all_same : {Y : Type 0} (f g : FlatGlyph → Y) (glyphs : List FlatGlyph)
    → ((glyph : FlatGlyph) → glyph.kept ≡ [] → f glyph ≡ g glyph)
    → AllByRecursion (λ glyph. glyph.kept ≡ []) glyphs → map f glyphs ≡ map g glyphs
all_same f g [] same none = refl
all_same f g (glyph ∷ glyphs) same none =
    (λ i. same glyph none.0 i ∷ all_same f g glyphs same none.1 i)

no_count : (glyphs : List FlatGlyph) → greatest_count (map (λ (g : FlatGlyph). 0) glyphs) ≡ 0
no_count [] = refl
no_count (glyph ∷ glyphs) = let rest = no_count glyphs in omega (arith, rest)

module _ (names : List (List ℕ)) (glyphs : List FlatGlyph) (place : ℕ)
    (none : AllByRecursion (λ glyph. glyph.kept ≡ []) glyphs) where
  of_simple : (f g : FlatGlyph → ℕ) → ((glyph : FlatGlyph) → glyph.kept ≡ [] → f glyph ≡ g glyph)
      → greatest_count (map f glyphs) ≡ greatest_count (map g glyphs)
  of_simple f g same = ap greatest_count (all_same f g glyphs same none)

  simple_are : maxima_of names glyphs place ≡ simple_maxima glyphs place
  simple_are =
      let points = of_simple (measuring.simple_points place) (λ g. length (points_at place g))
      (λ glyph e. ap (λ (kept : List Kept). if nat_eq (length kept) 0
      then length (points_at place glyph) else 0) e) in
      let contours = of_simple (measuring.simple_contours place) (λ g. length (contours_at place g))
      (λ glyph e. ap (λ (kept : List Kept). if nat_eq (length kept) 0
      then length (contours_at place glyph) else 0) e) in
      let no_points = of_simple (measuring.composite_points place) (λ g. 0)
      (λ glyph e. ap (λ (kept : List Kept). if nat_eq (length kept) 0 then 0
      else length (points_at place glyph)) e) ∙ no_count glyphs in
      let no_contours = of_simple (measuring.composite_contours place) (λ g. 0)
      (λ glyph e. ap (λ (kept : List Kept). if nat_eq (length kept) 0 then 0
      else length (contours_at place glyph)) e) ∙ no_count glyphs in
      let no_components = of_simple (λ g. length g.kept) (λ g. 0)
      (λ glyph e. ap length e) ∙ no_count glyphs in
      let count = length (bases_in names glyphs) in
      let no_nesting = zeros names glyphs none (range_with_len 0 count) in
      (λ i. record {
        points = points i;
        contours = contours i;
        composite_points = no_points i;
        composite_contours = no_contours i;
        components = no_components i;
        depth = no_nesting i;
      })

-- ---- no regions

abbrev alone : List (List F2Dot14)
alone = [] ∷ []

-- a master of a font without axes lies at the origin
one_place : (header : Header) → IsHeader header → length header.masters ≡ 1 → header.axes ≡ []
    → master_places header ≡ alone
one_place header is one none = by header.masters one is.masters
  where
    empty : {X : Type 0} (xs : List X) → length xs ≡ 0 → xs ≡ []
    empty [] e = refl
    empty (x ∷ xs) e = absurd (omega (arith, e))

    by : (masters : List Master) → length masters ≡ 1
        → All (IsMaster (length header.axes)) masters
        → map (λ master. master.location) masters ≡ alone
    by [] e each = absurd (omega (arith, e))
    by (master ∷ []) e each =
        let long : length master.location ≡ length header.axes
        = (each 0 master (omega arith)).location
        in ap (λ (place : List F2Dot14). place ∷ []) (empty master.location
        (long ∙ ap length none))
    by (master ∷ other ∷ masters) e each = absurd (omega (arith, e))

no_support : drop 1 (supports_of alone) ≡ []
unfolding supports_of order_of
no_support = refl

pub no_change : (glyph : FlatGlyph) → glyph.places ≡ alone → changes_of glyph ≡ []
no_change glyph e =
    ap (λ places. changes_over (drop 1 (supports_of places))
    (drop 1 (advance_deltas glyph))) e
    ∙ ap (λ supports. changes_over supports
    (drop 1 (advance_deltas glyph))) no_support

-- the one delta is the width
whole : (z : ℤ) → z -ℤ pos 0 ≡ z
whole z = omega (arith, ints)

one_exact : (width : ℤ) → deltas_of alone (in_16_16 width ∷ []) ≡ width ∷ []
unfolding deltas_of supports_of order_of
one_exact width = ap (λ (z : ℤ). half_up z ∷ []) (whole (width *ℤ pos 65536))
    ∙ ap (λ (z : ℤ). z ∷ []) (half_up_exact width)

one_delta : (widths : List ℤ) (width : ℤ) → widths ≡ width ∷ []
    → deltas_of alone (map in_16_16 widths) ≡ width ∷ []
one_delta widths width e = ap (λ all. deltas_of alone (map in_16_16 all)) e ∙ one_exact width

one_width : (glyph : FlatGlyph) → IsFlatGlyph glyph → glyph.places ≡ alone
    → (width : ℤ) × (glyph.widths ≡ width ∷ []) × (pos 0 ≤ℤ width) × (width ≤ℤ pos 32767)
one_width glyph flat e = by glyph.widths (flat.widths ∙ ap length e) flat.width_range
  where
    by : (widths : List ℤ) → length widths ≡ 1
        → All (λ width. (pos 0 ≤ℤ width) × (width ≤ℤ pos 32767)) widths
        → (width : ℤ) × (widths ≡ width ∷ []) × (pos 0 ≤ℤ width) × (width ≤ℤ pos 32767)
    by [] long range = absurd (omega (arith, long))
    by (width ∷ []) long range =
        let within = range 0 width (omega arith) in (width, refl, within.0, within.1)
    by (width ∷ other ∷ widths) long range = absurd (omega (arith, long))

fits : (width : ℤ) → pos 0 ≤ℤ width → width ≤ℤ pos 32767 → is_storable width ≡ true
fits width low high = grind (arith, ints)

no_large : (glyph : FlatGlyph) → IsFlatGlyph glyph → glyph.places ≡ alone
    → first_large 0 (advance_deltas glyph) ≡ None
no_large glyph flat e =
    let one = one_width glyph flat e in
    let same : advance_deltas glyph ≡ one.0 ∷ []
    = ap (λ places. deltas_of places (map in_16_16 glyph.widths)) e
    ∙ one_delta glyph.widths one.0 one.1 in
    ap (first_large 0) same
    ∙ ap (λ (b : Bool). if b then None else Some (0, one.0)) (fits one.0 one.2 one.3)

-- a glyph without a large delta
pub none_of : (gid : ℕ) (glyph : FlatGlyph) → first_large 0 (advance_deltas glyph) ≡ None
    → large_of gid glyph ≡ None
none_of gid glyph e =
    ap (λ (large : Option (ℕ × ℤ)). option_map (λ (l : ℕ × ℤ). let told : LargeDelta
    = record { number = glyph.number; gid = gid; value = l.1 } in told) large) e

none_large : (gid : ℕ) (glyphs : List FlatGlyph) → AllByRecursion IsFlatGlyph glyphs
    → AllByRecursion (λ glyph. glyph.places ≡ alone) glyphs → large_from gid glyphs ≡ None
none_large gid [] flat places = refl
none_large gid (glyph ∷ glyphs) flat places =
    ap (λ large. first_of large (large_from (gid + 1) glyphs))
    (none_of gid glyph (no_large glyph flat.0 places.0)) ∙ none_large (gid + 1) glyphs flat.1 places.1

no_more : (glyphs : List FlatGlyph) → AllByRecursion (λ glyph. glyph.places ≡ alone) glyphs
    → with_glyphs [] glyphs ≡ []
no_more [] places = refl
no_more (glyph ∷ glyphs) places =
    ap (λ changes. with_glyphs (with_changes [] changes) glyphs) (no_change glyph places.0)
    ∙ no_more glyphs places.1

-- ---- the whole

-- a font of one master has no regions
module _ (header : Header) (glyphs : List FlatGlyph) (is : IsHeader header)
    (one : length header.masters ≡ 1) (none : header.axes ≡ [])
    (places : All (HasMastersPlaces header) glyphs) where
  masters_alone : master_places header ≡ alone
  masters_alone = one_place header is one none

  by_recursion : AllByRecursion (λ glyph. glyph.places ≡ alone) glyphs
  by_recursion = recursion_from_All (λ glyph. glyph.places ≡ alone) glyphs
      (λ k d within. places k d within ∙ masters_alone)

  pub no_regions : regions_of header glyphs ≡ []
  no_regions = ap (λ places. with_glyphs (drop 1 (supports_of places)) glyphs) masters_alone
      ∙ ap (λ regions. with_glyphs regions glyphs) no_support
      ∙ no_more glyphs by_recursion

  -- and no delta that is too large, so that measuring gives its measures
  pub one_master_is : (names : List (List ℕ)) → All IsFlatGlyph glyphs
      → measured_of header names glyphs ≡ Ok (font_measures header names glyphs)
  one_master_is names flat =
      ap (λ large. measuring.measured_unless large (length (regions_of header glyphs))
      (font_measures header names glyphs))
      (none_large 0 glyphs (recursion_from_All IsFlatGlyph glyphs flat) by_recursion)
      ∙ ap (λ (regions : List Region). measuring.measured_unless None (length regions)
      (font_measures header names glyphs)) no_regions

-- and without components those are counts of simple glyphs
module _ (header : Header) (names : List (List ℕ)) (glyphs : List FlatGlyph) (is : IsHeader header)
    (static : IsStatic header glyphs) (places : All (HasMastersPlaces header) glyphs) where
  simple : AllByRecursion (λ glyph. glyph.kept ≡ []) glyphs
  simple = recursion_from_All (λ glyph. glyph.kept ≡ []) glyphs static.no_components

  pub static_measures : font_measures header names glyphs ≡ measures_of header glyphs
  static_measures =
      let regions = no_regions header glyphs is static.one_master static.no_axes places in
      let maxima = simple_are names glyphs header.origin simple in
      (λ i. record {
        advances = (measures_of header glyphs).advances;
        bounds = (measures_of header glyphs).bounds;
        regions = regions i;
        rows = map (λ g. row_over (regions i) (changes_of g)) glyphs;
        maxima = maxima i;
      })

  pub static_is : All IsFlatGlyph glyphs
      → measured_of header names glyphs ≡ Ok (measures_of header glyphs)
  static_is flat = one_master_is header glyphs is static.one_master static.no_axes places names flat
      ∙ ap Ok static_measures

  -- and its glyphs lead nowhere
  pub static_leads : NoneLeadsToItself (bases_in names glyphs)
  static_leads = none_leads names glyphs simple
