-- What is measured of the glyphs of a font, in the order of their glyph numbers.
use Rattle.std.specs.Prelude.{◌≡◌, ℕ, ◌<◌, ℤ, pos, unsigned_abs, List, [], length, map, nat_lt}
use Rattle.std.specs.Prelude.{nat_eq}
use Rattle.std.specs.Prelude.{Bool, if◌then◌else◌, slice_index_or, Option, None, Some, Result, Ok}
use Rattle.std.specs.Prelude.{Err}
use Rattle.std.specs.List.{All}
use Rattle.refusal_codes.specs.declared.limits.TheConstants.{REGIONS}
use Rattle.font_ir.specs.FlatGlyphs.{IsFlatGlyph}
use Rattle.font_ir.specs.Outlines.{contours_at, points_at, bounds_of}
use Rattle.font_ir.specs.declared.header.Header.{Header}
use Rattle.font_ir.specs.declared.glyph.FlatGlyph.{FlatGlyph}
use Rattle.metrics_tables.specs.declared.changes.LargeDelta.{LargeDelta}
use Rattle.metrics_tables.specs.declared.measures.Measures.{Measures}
use Rattle.metrics_tables.specs.declared.measures.Maxima.{Maxima}
use Rattle.metrics_tables.specs.declared.measures.MeasureError.{MeasureError}
use Rattle.metrics_tables.specs.declared.measures.MeasureError.TheVariants as measure_errors
use Rattle.metrics_tables.specs.Comparisons.{greatest_count}
use Rattle.metrics_tables.specs.Nesting.{bases_in, greatest_depth}
use Rattle.metrics_tables.specs.Changes.{regions_of, row_over, changes_of, large_from}

-- a flat glyph that has a place of this position
pub record IsMeasurable (place : ℕ) (glyph : FlatGlyph) : Type 0 where
  pub flat : IsFlatGlyph glyph
  pub there : place < length glyph.places

-- a glyph's advance width at a place
abbrev pub width_at : ℕ → FlatGlyph → ℤ
width_at place glyph = slice_index_or glyph.widths place (pos 0)

-- ---- the greatest counts

abbrev pub is_simple : FlatGlyph → Bool
is_simple glyph = nat_eq (length glyph.kept) 0

-- the points and contours of a glyph without components
abbrev pub simple_points : ℕ → FlatGlyph → ℕ
simple_points place glyph = if is_simple glyph then length (points_at place glyph) else 0

abbrev pub simple_contours : ℕ → FlatGlyph → ℕ
simple_contours place glyph = if is_simple glyph then length (contours_at place glyph) else 0

-- those that a composite draws, by all of its components
abbrev pub composite_points : ℕ → FlatGlyph → ℕ
composite_points place glyph = if is_simple glyph then 0 else length (points_at place glyph)

abbrev pub composite_contours : ℕ → FlatGlyph → ℕ
composite_contours place glyph = if is_simple glyph then 0 else length (contours_at place glyph)

-- over the glyphs of a font, whose order has these names
abbrev pub maxima_of : List (List ℕ) → List FlatGlyph → ℕ → Maxima
maxima_of names glyphs place = record {
  points = greatest_count (map (simple_points place) glyphs);
  contours = greatest_count (map (simple_contours place) glyphs);
  composite_points = greatest_count (map (composite_points place) glyphs);
  composite_contours = greatest_count (map (composite_contours place) glyphs);
  components = greatest_count (map (λ glyph. length glyph.kept) glyphs);
  depth = greatest_depth (bases_in names glyphs);
}

-- ---- the measures

-- advance widths and bounds at the default master, and how the widths change
abbrev pub font_measures : Header → List (List ℕ) → List FlatGlyph → Measures
font_measures header names glyphs = record {
  advances = map (λ g. unsigned_abs (width_at header.origin g)) glyphs;
  bounds = map (λ g. bounds_of (points_at header.origin g)) glyphs;
  regions = regions_of header glyphs;
  rows = map (λ g. row_over (regions_of header glyphs) (changes_of g)) glyphs;
  maxima = maxima_of names glyphs header.origin;
}

-- a delta that can't be stored comes before too many regions
abbrev pub measured_unless : Option LargeDelta → ℕ → Measures → Result Measures MeasureError
measured_unless (Some large) regions measures = Err (measure_errors.TooLarge large.gid large.value)
measured_unless None regions measures =
    if nat_lt REGIONS regions then Err (measure_errors.Regions regions) else Ok measures

abbrev pub measured_of : Header → List (List ℕ) → List FlatGlyph → Result Measures MeasureError
measured_of header names glyphs =
    measured_unless (large_from 0 glyphs) (length (regions_of header glyphs))
    (font_measures header names glyphs)

-- measuring gives what is defined, unless memory runs out
abbrev pub RefusesMeasures : MeasureError → Result Measures MeasureError → Type 0
RefusesMeasures measure_errors.NoMemory definition = Unit {0}
RefusesMeasures e definition = definition ≡ Err e

abbrev pub Measured : Result Measures MeasureError → Result Measures MeasureError → Type 0
Measured (Ok measures) definition = definition ≡ Ok measures
Measured (Err e) definition = RefusesMeasures e definition

-- ---- fonts of one master

-- One master, no axes, no kept components: such a font has no regions, no deltas and no nesting.
pub record IsStatic (header : Header) (glyphs : List FlatGlyph) : Type 0 where
  pub one_master : length header.masters ≡ 1
  pub no_axes : header.axes ≡ []
  pub no_components : All (λ glyph. glyph.kept ≡ []) glyphs

-- a glyph's places are the locations of the masters, in their order
abbrev pub HasMastersPlaces : Header → FlatGlyph → Type 0
HasMastersPlaces header glyph = glyph.places ≡ map (λ master. master.location) header.masters

abbrev pub simple_maxima : List FlatGlyph → ℕ → Maxima
simple_maxima glyphs place = record {
  points = greatest_count (map (λ g. length (points_at place g)) glyphs);
  contours = greatest_count (map (λ g. length (contours_at place g)) glyphs);
  composite_points = 0;
  composite_contours = 0;
  components = 0;
  depth = 0;
}

-- the measures of such a font's glyphs, at the default master
abbrev pub measures_of : Header → List FlatGlyph → Measures
measures_of header glyphs = record {
  advances = map (λ g. unsigned_abs (width_at header.origin g)) glyphs;
  bounds = map (λ g. bounds_of (points_at header.origin g)) glyphs;
  regions = [];
  rows = map (λ g. []) glyphs;
  maxima = simple_maxima glyphs header.origin;
}
