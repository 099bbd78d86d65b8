-- What is measured is for its header.
use Rattle.std.proofs.Common.{◌≡◌, ℕ, ◌≤◌, Bool, true, false, List, [], ◌∷◌, length, map, Option}
use Rattle.std.proofs.Common.{None, Some, nat_lt, refl, sym, subst, ◌∙◌, arith}
use Rattle.std.proofs.lemmas.Bool.Decides.{nat_tests}
use Rattle.std.proofs.lemmas.List.{length-map}
use Rattle.std.proofs.lemmas.List.Elements.{All-from_recursion}
use Rattle.std.specs.Prelude.{if◌then◌else◌, unsigned_abs, Ok, Err}
use Rattle.std.specs.List.{All, AllByRecursion}
use Rattle.refusal_codes.specs.declared.limits.TheConstants.{REGIONS}
use Rattle.font_ir.specs.FlatGlyphs.{IsFlatGlyph}
use Rattle.font_ir.specs.Headers.{IsHeader}
use Rattle.font_ir.specs.declared.glyph.FlatGlyph.{FlatGlyph}
use Rattle.font_ir.specs.declared.header.Header.{Header}
use Rattle.font_ir.specs.declared.variation.Region.{Region}
use Rattle.metrics_tables.specs.declared.changes.LargeDelta.{LargeDelta}
use Rattle.metrics_tables.specs.declared.measures.Measures.{Measures}
use Rattle.metrics_tables.specs.declared.measures.MeasureError.TheVariants as measure_errors
use Rattle.metrics_tables.specs.Changes.{BeginsWithMasters, regions_of, row_over, delta_at}
use Rattle.metrics_tables.specs.Changes.{changes_of, large_from}
use Rattle.metrics_tables.specs.Hvar.{AreMeasuresFor}
use Rattle.metrics_tables.specs.Measuring.{font_measures, measured_of, measured_unless, width_at}
use Rattle.metrics_tables.proofs.RegionSides.{sides-regions_of}

-- measures are given where there are not too many regions
given : (large : Option LargeDelta) (regions : ℕ) (defined measures : Measures)
    → measured_unless large regions defined ≡ Ok measures
    → (regions ≤ REGIONS) × (defined ≡ measures)
given (Some large) regions defined measures e = absurd (cc)
given None regions defined measures e = by (nat_lt REGIONS regions) refl e
  where
    by : (b : Bool) → nat_lt REGIONS regions ≡ b
        → (if b then Err (measure_errors.Regions regions) else Ok defined) ≡ Ok measures
        → (regions ≤ REGIONS) × (defined ≡ measures)
    by true many f = absurd (cc)
    by false few f = (grind (arith, nat_tests), (cc))

-- a row has a delta for each region
rows_long : (regions : List Region) (glyphs : List FlatGlyph)
    → AllByRecursion (λ row. length row ≡ length regions)
    (map (λ glyph. row_over regions (changes_of glyph)) glyphs)
rows_long regions [] = tt
rows_long regions (glyph ∷ glyphs) =
    (length-map regions (delta_at (changes_of glyph)), rows_long regions glyphs)

pub measures_for : (header : Header) (names : List (List ℕ)) (glyphs : List FlatGlyph)
    (measures : Measures) → IsHeader header → All IsFlatGlyph glyphs
    → All (BeginsWithMasters header) glyphs
    → measured_of header names glyphs ≡ Ok measures → AreMeasuresFor header measures
measures_for header names glyphs measures is flat begin e =
    let regions = regions_of header glyphs in
    let defined = font_measures header names glyphs in
    let is_given = given (large_from 0 glyphs) (length regions) defined measures e in
    subst (AreMeasuresFor header) is_given.1 (record {
      few_regions = is_given.0;
      sides = sides-regions_of header is glyphs flat begin;
      one_row = length-map glyphs (λ glyph. row_over regions (changes_of glyph))
          ∙ sym (length-map glyphs (λ glyph. unsigned_abs (width_at header.origin glyph)));
      deltas = All-from_recursion (λ row. length row ≡ length regions) defined.rows
          (rows_long regions glyphs);
    })
