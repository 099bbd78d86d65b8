-- The variation data of a glyph (OpenType 1.9, "gvar", "Glyph variation data"): a tuple for each
-- region in which a point moves.
use Rattle.std.specs.Prelude.{◌≡◌, ℕ, ◌+◌, ◌||◌, Bool, if◌then◌else◌, ℤ, List, [], ◌∷◌, ◌++◌}
use Rattle.std.specs.Prelude.{length}
use Rattle.std.specs.Prelude.{map, drop, None, Result, Ok, Err, Vec}
use Rattle.std.specs.List.{flat_map, list_any, zip}
use Rattle.std.specs.declared.alloc.Global.{Global}
use Rattle.fixed_math.specs.declared.F2Dot14.{F2Dot14}
use Rattle.font_ir.specs.declared.glyph.Contour.{Contour}
use Rattle.font_ir.specs.declared.glyph.FlatGlyph.{FlatGlyph}
use Rattle.font_ir.specs.declared.variation.Region.{Region}
use Rattle.font_ir.specs.Outlines.{contours_at}
use Rattle.font_ir.specs.Places.{AreGlyphPlaces}
use Rattle.table_bytes.specs.DataTypes.{uint16, padded}
use Rattle.variation_model.specs.Supports.{supports_of}
use Rattle.variation_model.specs.declared.errors.DeltaError.{DeltaError}
use Rattle.gvar_writer.specs.GlyphPoints.{is_simple, glyph_rows, too_large}
use Rattle.gvar_writer.specs.RowAnswers.{RefusesDelta}
use Rattle.gvar_writer.specs.TupleData.{column, is_nonzero, contours_of, tuple_data}
use Rattle.gvar_writer.specs.TupleHeaders.{tuple_header}
use Rattle.gvar_writer.specs.declared.positions.Coordinate.TheVariants as coordinates

-- the regions of a font are those of its masters, but for the first, at which nothing moves
pub record AreShared (shared : List Region) : Type 0 where
  pub masters : List (List F2Dot14)
  pub are_places : AreGlyphPlaces masters
  pub are_regions : shared ≡ drop 1 (supports_of masters)

-- ---- tuples

pub record Tuple : Type 0 where
  pub region : Region
  -- a delta for each point
  pub xs : List ℤ
  pub ys : List ℤ

abbrev pub moves : Tuple → Bool
moves tuple = list_any is_nonzero tuple.xs || list_any is_nonzero tuple.ys

abbrev pub tuple_at : List (List ℤ) → List (List ℤ) → ℕ → Region → Tuple
tuple_at x_rows y_rows k region = record {
  region = region;
  xs = column k x_rows;
  ys = column k y_rows;
}

abbrev pub where_moving : Tuple → List Tuple
where_moving tuple = if moves tuple then (tuple ∷ []) else []

-- the tuples of regions, of which the first is the k-th of the model
abbrev pub tuples_from : List (List ℤ) → List (List ℤ) → ℕ → List Region → List Tuple
tuples_from x_rows y_rows k [] = []
tuples_from x_rows y_rows k (region ∷ regions) =
    where_moving (tuple_at x_rows y_rows k region) ++ tuples_from x_rows y_rows (k + 1) regions

-- ---- their bytes

abbrev pub data_of : List (List (ℤ × ℤ)) → Tuple → List ℕ
data_of contours tuple = tuple_data contours tuple.xs tuple.ys

abbrev pub header_bytes : List Region → List (List (ℤ × ℤ)) → Tuple → List ℕ
header_bytes shared contours tuple = tuple_header shared tuple.region
    (length (data_of contours tuple))

abbrev pub headers_of : List Region → List (List (ℤ × ℤ)) → List Tuple → List ℕ
headers_of shared contours tuples = flat_map (header_bytes shared contours) tuples

abbrev pub all_data_of : List (List (ℤ × ℤ)) → List Tuple → List ℕ
all_data_of contours tuples = flat_map (data_of contours) tuples

-- tuples with these headers and data
unfoldable pub with_head : ℕ → List ℕ → List ℕ → List ℕ
with_head tuple_variation_count headers serialized_data =
    let data_offset : ℕ = 4 + length headers in
    padded (uint16 tuple_variation_count ++ uint16 data_offset ++ headers ++ serialized_data)

-- a glyph without tuples has no bytes
abbrev pub tuples_bytes : List Region → List (List (ℤ × ℤ)) → List Tuple → List ℕ
tuples_bytes shared contours [] = []
tuples_bytes shared contours (tuple ∷ tuples) =
    with_head (length (tuple ∷ tuples)) (headers_of shared contours (tuple ∷ tuples))
    (all_data_of contours (tuple ∷ tuples))

-- ---- of a glyph

-- the contours of the outline, and how many points each has
abbrev pub own_contours : FlatGlyph → List Contour
own_contours glyph = if is_simple glyph then contours_at 0 glyph else []

abbrev pub contour_sizes : FlatGlyph → List ℕ
contour_sizes glyph = map (λ contour. length contour.points) (own_contours glyph)

-- the outline as it is stored, which the first deltas are
abbrev pub stored_contours : List ℕ → List (List ℤ) → List (List ℤ) → List (List (ℤ × ℤ))
stored_contours sizes x_rows y_rows = contours_of sizes (zip (column 0 x_rows) (column 0 y_rows))

abbrev pub rows_bytes : List Region → List Region → List ℕ → List (List ℤ) → List (List ℤ)
    → List ℕ
rows_bytes shared regions sizes x_rows y_rows =
    tuples_bytes shared (stored_contours sizes x_rows y_rows)
    (tuples_from x_rows y_rows 1 (drop 1 regions))

abbrev pub variation_data : List Region → FlatGlyph → List ℕ
variation_data shared glyph =
    rows_bytes shared (supports_of glyph.places) (contour_sizes glyph)
    (glyph_rows coordinates.X glyph) (glyph_rows coordinates.Y glyph)

-- ---- answers

-- the data where all deltas can be stored, and else the first one that can't
abbrev pub GivesVariations : Result (Vec ℕ Global) DeltaError → List Region → FlatGlyph → Type 0
GivesVariations (Ok bytes) shared glyph = (too_large glyph ≡ None)
    × (bytes.items ≡ variation_data shared glyph)
GivesVariations (Err e) shared glyph = RefusesDelta e (too_large glyph)
