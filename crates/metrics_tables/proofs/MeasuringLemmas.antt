-- The glyphs that are measured, behind their references.
use Rattle.std.proofs.Common.{◌≡◌, ℕ, ℤ, ◌<◌, ◌≤◌, List, length, map, get_or, unsigned_abs, sym}
use Rattle.std.proofs.Common.{ap}
use Rattle.std.proofs.Common.{◌∙◌, subst, arith}
use Rattle.std.proofs.Math.ListN.{get_or-map}
use Rattle.std.proofs.lemmas.List.{length-map, length-take}
use Rattle.std.proofs.lemmas.List.Elements.{All-map}
use Rattle.std.proofs.lemmas.Simd.{map-map}
use Rattle.std.specs.Arc.{arc_value}
use Rattle.std.specs.Prelude.{Bool, false, nat_lt, if◌then◌else◌, Ok, Err}
use Rattle.std.proofs.lemmas.Bool.Decides.{nat_tests}
use Rattle.std.specs.List.{All}
use Rattle.std.specs.declared.alloc.Global.{Global}
use Rattle.std.specs.declared.sync.Arc.{Arc}
use Rattle.refusal_codes.specs.declared.limits.TheConstants.{REGIONS}
use Rattle.font_ir.specs.FlatGlyphs.{IsFlatGlyph, glyphs_of}
use Rattle.font_ir.specs.declared.header.Header.{Header}
use Rattle.font_ir.specs.declared.glyph.FlatGlyph.{FlatGlyph}
use Rattle.font_ir.specs.declared.variation.Region.{Region}
use Rattle.font_ir.specs.Outlines.{points_at, bounds_of}
use Rattle.metrics_tables.specs.Changes.{BeginsWithMasters, changes_of, delta_at, row_over}
use Rattle.metrics_tables.specs.Changes.{regions_of}
use Rattle.metrics_tables.specs.Comparisons.{greatest_count}
use Rattle.metrics_tables.specs.Hvar.{AreMeasuresFor}
use Rattle.metrics_tables.specs.Measuring as measuring
use Rattle.metrics_tables.specs.Measuring.{IsMeasurable, Measured, font_measures, maxima_of}
use Rattle.metrics_tables.specs.Measuring.{measured_of, measured_unless, width_at}
use Rattle.metrics_tables.specs.Nesting.{bases_of, bases_in, greatest_depth, NoneLeadsToItself}
use Rattle.metrics_tables.specs.RegionIndexes.{AreRows}
use Rattle.metrics_tables.specs.Walks.{AreBases}
use Rattle.metrics_tables.specs.declared.measures.Maxima.{Maxima}
use Rattle.metrics_tables.specs.declared.measures.MeasureError.TheVariants as measure_errors
use Rattle.metrics_tables.specs.declared.measures.Measures.{Measures}
use Rattle.metrics_tables.proofs.BasesLemmas.{are_bases}

-- what is said of the glyphs in order, said of the references
pub each : {Y : Type 0} (f : FlatGlyph → Y) (glyphs : List (Arc FlatGlyph Global))
    → map (λ glyph. f glyph.value) glyphs ≡ map f (glyphs_of glyphs)
each f glyphs = sym (map-map f arc_value glyphs)

glyph_at : (glyphs : List (Arc FlatGlyph Global)) (k : ℕ) (d : Arc FlatGlyph Global)
    → get_or (glyphs_of glyphs) k d.value ≡ (get_or glyphs k d).value
glyph_at glyphs k d = get_or-map (λ (glyph : Arc FlatGlyph Global). glyph.value) glyphs k d

-- each glyph has the places of the masters
pub measurable : (header : Header) (glyphs : List (Arc FlatGlyph Global))
    → All IsFlatGlyph (glyphs_of glyphs) → All (BeginsWithMasters header) (glyphs_of glyphs)
    → header.origin < length header.masters
    → All (λ glyph. IsMeasurable header.origin glyph.value) glyphs
measurable header glyphs flat places origin = λ k d h.
    let there : k < length (glyphs_of glyphs)
    = omega (arith, length-map glyphs (λ (glyph : Arc FlatGlyph Global). glyph.value), h) in
    let glyph : FlatGlyph = (get_or glyphs k d).value in
    let begins : BeginsWithMasters header glyph
    = subst (BeginsWithMasters header) (glyph_at glyphs k d) (places k d.value there) in
    record {
      flat = subst IsFlatGlyph (glyph_at glyphs k d) (flat k d.value there);
      there = omega (
        arith,
        origin,
        ap length begins,
        length-take (length header.masters) glyph.places,
        length-map header.masters (λ master. master.location),
      );
    }

module _ (names : List (List ℕ)) (glyphs : List (Arc FlatGlyph Global)) where
  -- the components of each glyph
  pub bases_are : (place : ℕ) (bases : List (List ℕ))
      → bases ≡ map (λ glyph. bases_of names glyph.value) glyphs → length names ≤ 65535
      → length glyphs ≡ length names
      → All (λ glyph. IsMeasurable place glyph.value) glyphs
      → NoneLeadsToItself (bases_in names (glyphs_of glyphs)) → AreBases bases
  bases_are place bases e few one measurable none =
      let flat : All IsFlatGlyph (glyphs_of glyphs) = All-map IsFlatGlyph arc_value glyphs
      (λ k d within. (measurable k d within).flat) in
      subst AreBases (sym (e ∙ each (bases_of names) glyphs))
      (are_bases names (glyphs_of glyphs) few (length-map glyphs arc_value ∙ one) flat none)

  -- the maxima, count by count
  pub maxima_are : (place : ℕ) (bases : List (List ℕ)) (counts made : Maxima) (depth : ℕ)
      → bases ≡ map (λ glyph. bases_of names glyph.value) glyphs → depth ≡ greatest_depth bases
      → made ≡ record counts { depth = depth }
      → counts.points ≡ greatest_count
      (map (λ glyph. measuring.simple_points place glyph.value) glyphs)
      → counts.contours ≡ greatest_count
      (map (λ glyph. measuring.simple_contours place glyph.value) glyphs)
      → counts.composite_points ≡ greatest_count
      (map (λ glyph. measuring.composite_points place glyph.value) glyphs)
      → counts.composite_contours ≡ greatest_count
      (map (λ glyph. measuring.composite_contours place glyph.value) glyphs)
      → counts.components ≡ greatest_count (map (λ glyph. length glyph.value.kept) glyphs)
      → made ≡ maxima_of names (glyphs_of glyphs) place
  maxima_are place bases counts made depth e deep is points contours more_points more_contours
      components =
      let p = points ∙ ap greatest_count (each (measuring.simple_points place) glyphs) in
      let c = contours ∙ ap greatest_count (each (measuring.simple_contours place) glyphs) in
      let mp = more_points ∙ ap greatest_count (each (measuring.composite_points place) glyphs) in
      let mc = more_contours ∙ ap greatest_count (each (measuring.composite_contours place) glyphs)
      in let n = components ∙ ap greatest_count
      (each (λ (glyph : FlatGlyph). length glyph.kept) glyphs) in
      let d = deep ∙ ap greatest_depth (e ∙ each (bases_of names) glyphs) in
      is ∙ (λ i. record {
        points = p i;
        contours = c i;
        composite_points = mp i;
        composite_contours = mc i;
        components = n i;
        depth = d i;
      })

-- ---- the whole

not_more : (n : ℕ) → n ≤ REGIONS → nat_lt REGIONS n ≡ false
not_more n few = grind (arith, nat_tests)

module _ (header : Header) (names : List (List ℕ)) (glyphs : List (Arc FlatGlyph Global)) where
  abbrev all : List FlatGlyph
  all = glyphs_of glyphs

  abbrev count : ℕ
  count = length (regions_of header all)

  abbrev wanted : Measures
  wanted = font_measures header names all

  -- measures are those of the font where each of their fields is
  module _ (measures : Measures) (regions : List Region) (rows : List (List ℤ))
      (are : AreRows header all regions rows)
      (advances : measures.advances
      ≡ map (λ glyph. unsigned_abs (width_at header.origin glyph.value)) glyphs)
      (is_regions : measures.regions ≡ regions) (is_rows : measures.rows ≡ rows) where
    few_regions : count ≤ REGIONS
    few_regions = subst (λ (all : List Region). length all ≤ REGIONS) are.are_regions are.few

    pub measures_are : measures.bounds
        ≡ map (λ glyph. bounds_of (points_at header.origin glyph.value)) glyphs
        → measures.maxima ≡ maxima_of names all header.origin
        → measured_of header names all ≡ Ok measures
    measures_are bounds maxima =
        let place = header.origin in
        let a = advances ∙ each (λ g. unsigned_abs (width_at place g)) glyphs in
        let b = bounds ∙ each (λ g. bounds_of (points_at place g)) glyphs in
        let s = is_regions ∙ are.are_regions in
        let r = is_rows ∙ are.are_rows in
        let same : measures ≡ wanted = (λ i. record {
          advances = a i;
          bounds = b i;
          regions = s i;
          rows = r i;
          maxima = maxima i;
        }) in
        ap (λ large. measured_unless large count wanted) are.none_large
        ∙ ap (λ (many : Bool). if many then Err (measure_errors.Regions count) else Ok wanted)
        (not_more count few_regions)
        ∙ ap Ok (sym same)

    -- and they fit the header
    pub measures_fit : AreMeasuresFor header measures
    measures_fit =
        let row : FlatGlyph → List ℤ = λ g. row_over (regions_of header all) (changes_of g) in
        let width : Arc FlatGlyph Global → ℕ
        = λ glyph. unsigned_abs (width_at header.origin glyph.value) in
        let long : length measures.regions ≡ count = ap length (is_regions ∙ are.are_regions) in
        record {
          few_regions = subst (λ n. n ≤ REGIONS) (sym long) few_regions;
          sides = subst (λ (rs : List Region). All (λ region. length region.sides
              ≡ length header.axes) rs) (sym is_regions) are.sides;
          one_row = ap length (is_rows ∙ are.are_rows) ∙ length-map all row
              ∙ length-map glyphs arc_value
              ∙ sym (ap length advances ∙ length-map glyphs width);
          deltas = subst (λ (rs : List (List ℤ)). All (λ r. length r ≡ length measures.regions) rs)
              (sym (is_rows ∙ are.are_rows))
              (All-map (λ (r : List ℤ). length r ≡ length measures.regions) row all
              (λ k d within. length-map (regions_of header all)
              (delta_at (changes_of (get_or all k d))) ∙ sym long));
        }
