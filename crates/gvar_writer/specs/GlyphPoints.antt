-- The points of a glyph that "gvar" moves, and their deltas (OpenType 1.9, "gvar", "Point numbers
-- and processing"): those of its outline, or one for each component, and then the four phantom
-- points. Where these lie to the outline is fontc's own: the left one at 0, and the upper and lower
-- ones at (0,0).
use Rattle.std.specs.Prelude.{ℕ, ◌==◌, Bool, if◌then◌else◌, ℤ, pos, ◌*ℤ◌, List, [], ◌∷◌, ◌++◌, map}
use Rattle.std.specs.Prelude.{length, slice_index_or, Option, Some, None}
use Rattle.std.specs.List.{flat_map, range_with_len}
use Rattle.fixed_math.specs.declared.F2Dot14.{F2Dot14}
use Rattle.fixed_math.specs.declared.Fixed.{Fixed}
use Rattle.font_ir.specs.declared.glyph.Contour.{Contour}
use Rattle.font_ir.specs.declared.glyph.DrawnPoint.{DrawnPoint}
use Rattle.font_ir.specs.declared.glyph.FlatGlyph.{FlatGlyph}
use Rattle.font_ir.specs.declared.glyph.Kept.{Kept}
use Rattle.font_ir.specs.Outlines.{contours_at}
use Rattle.variation_model.specs.Deltas.{deltas_of, first_large}
use Rattle.gvar_writer.specs.declared.positions.Position.{Position}
use Rattle.gvar_writer.specs.declared.positions.Coordinate.{Coordinate}
use Rattle.gvar_writer.specs.declared.positions.Coordinate.TheVariants as coordinates

-- ---- at one place

abbrev pub position_of : DrawnPoint → Position
position_of point = record { x = point.x; y = point.y }

abbrev pub contour_positions : Contour → List Position
contour_positions contour = map position_of contour.points

abbrev pub outline_positions : List Contour → List Position
outline_positions contours = flat_map contour_positions contours

-- a whole number of font units
abbrev pub whole : ℤ → Fixed
whole units = record { 0 = pos 65536 *ℤ units }

abbrev pub offset_position : ℤ × ℤ → Position
offset_position offset = record { x = whole offset.0; y = whole offset.1 }

abbrev pub component_position : ℕ → Kept → Position
component_position place kept = offset_position (slice_index_or kept.at place (pos 0, pos 0))

abbrev pub origin : Position
origin = offset_position (pos 0, pos 0)

abbrev pub phantom_positions : ℤ → List Position
phantom_positions width = origin ∷ offset_position (width, pos 0) ∷ origin ∷ origin ∷ []

-- whether a glyph is written as an outline, and not as components
abbrev pub is_simple : FlatGlyph → Bool
is_simple glyph = length glyph.kept == 0

abbrev pub own_positions : ℕ → FlatGlyph → List Position
own_positions place glyph = if is_simple glyph then outline_positions (contours_at place glyph) else
    map (component_position place) glyph.kept

abbrev pub positions_at : FlatGlyph → ℕ → List Position
positions_at glyph place = own_positions place glyph
    ++ phantom_positions (slice_index_or glyph.widths place (pos 0))

-- ---- at all places

abbrev pub positions_by_place : FlatGlyph → List (List Position)
positions_by_place glyph = map (positions_at glyph) (range_with_len 0 (length glyph.places))

abbrev pub along : Coordinate → Position → Fixed
along coordinates.X position = position.x
along coordinates.Y position = position.y

-- the numbers of a point's coordinate at the places
abbrev pub numbers_of : Coordinate → List (List Position) → ℕ → List Fixed
numbers_of coordinate by_place i =
    map (λ positions. along coordinate (slice_index_or positions i origin)) by_place

-- the deltas of the coordinate of each point, in the model's order: the first is the number that is
-- stored in the outline itself
abbrev pub rows_of : Coordinate → List (List F2Dot14) → List (List Position) → ℕ → List (List ℤ)
rows_of coordinate places by_place count =
    map (λ i. deltas_of places (numbers_of coordinate by_place i)) (range_with_len 0 count)

abbrev pub point_total : FlatGlyph → ℕ
point_total glyph = length (positions_at glyph 0)

unfoldable pub glyph_rows : Coordinate → FlatGlyph → List (List ℤ)
glyph_rows coordinate glyph = rows_of coordinate glyph.places (positions_by_place glyph)
    (point_total glyph)

-- ---- deltas that can't be stored

abbrev pub or_else : Option (ℕ × ℤ) → Option (ℕ × ℤ) → Option (ℕ × ℤ)
or_else (Some first) second = Some first
or_else None second = second

-- of the first row with a delta that can't be stored the first such delta, with its number
abbrev pub first_refused : List (List ℤ) → Option (ℕ × ℤ)
first_refused [] = None
first_refused (row ∷ rows) = or_else (first_large 0 row) (first_refused rows)

-- x of all points comes before y
abbrev pub too_large : FlatGlyph → Option (ℕ × ℤ)
too_large glyph = or_else (first_refused (glyph_rows coordinates.X glyph))
    (first_refused (glyph_rows coordinates.Y glyph))
