-- A glyph's outline as a font stores it (OpenType 1.9, "glyf", "Glyph Headers" and "Simple Glyph
-- Description"): its points in whole font units, and their bounds. How a coordinate is rounded is
-- fontc's own.
use Rattle.std.specs.Prelude.{ℕ, ℤ, pos, List, [], ◌∷◌, map, slice_index_or, Option, None, Some}
use Rattle.std.specs.List.{flat_map, fold}
use Rattle.std.specs.Int.{int_min, int_max}
use Rattle.fixed_math.specs.FixedPoint.{half_up}
use Rattle.font_ir.specs.declared.glyph.DrawnPoint.{DrawnPoint}
use Rattle.font_ir.specs.declared.glyph.Contour.{Contour}
use Rattle.font_ir.specs.declared.glyph.FlatGlyph.{FlatGlyph}
use Rattle.font_ir.specs.declared.outline.StoredPoint.{StoredPoint}
use Rattle.font_ir.specs.Extremes.{IsLeast, IsGreatest, least, greatest}

-- ---- points

-- a coordinate is stored as the whole number nearest to it, a tie going up
abbrev pub stored_point : DrawnPoint → StoredPoint
stored_point point = record { x = half_up point.x.0; y = half_up point.y.0; on = point.on }

-- the points of each contour
abbrev pub stored_contours : List Contour → List (List StoredPoint)
stored_contours contours = map (λ contour. map stored_point contour.points) contours

-- the points of all contours, in order
abbrev pub all_points : List (List StoredPoint) → List StoredPoint
all_points outline = flat_map (λ points. points) outline

abbrev pub stored_points : List Contour → List StoredPoint
stored_points contours = all_points (stored_contours contours)

-- what is drawn at a glyph's place, the outline that is stored of it, and the points of that
-- outline
abbrev pub contours_at : ℕ → FlatGlyph → List Contour
contours_at place glyph = slice_index_or glyph.drawn place []

abbrev pub outline_at : ℕ → FlatGlyph → List (List StoredPoint)
outline_at place glyph = stored_contours (contours_at place glyph)

abbrev pub points_at : ℕ → FlatGlyph → List StoredPoint
points_at place glyph = all_points (outline_at place glyph)

-- ---- bounds

-- xMin, yMin, xMax and yMax: the least and the greatest coordinates of points
pub record AreBounds (points : List StoredPoint) (sides : List ℤ) : Type 0 where
  pub x_min : IsLeast (map (λ point. point.x) points) (slice_index_or sides 0 (pos 0))
  pub y_min : IsLeast (map (λ point. point.y) points) (slice_index_or sides 1 (pos 0))
  pub x_max : IsGreatest (map (λ point. point.x) points) (slice_index_or sides 2 (pos 0))
  pub y_max : IsGreatest (map (λ point. point.y) points) (slice_index_or sides 3 (pos 0))

-- the function that computes them, where there is a point
abbrev pub bounds_of : List StoredPoint → Option (List ℤ)
bounds_of [] = None
bounds_of (point ∷ points) = Some
    (least (map (λ p. p.x) (point ∷ points)) ∷ least (map (λ p. p.y) (point ∷ points))
    ∷ greatest (map (λ p. p.x) (point ∷ points)) ∷ greatest (map (λ p. p.y) (point ∷ points)) ∷ [])

-- the bounds of a point and of those that were bounded before it, and of many points after those
abbrev pub widened_by : Option (List ℤ) → StoredPoint → Option (List ℤ)
widened_by None point = Some (point.x ∷ point.y ∷ point.x ∷ point.y ∷ [])
widened_by (Some sides) point = Some
    (int_min (slice_index_or sides 0 (pos 0)) point.x
    ∷ int_min (slice_index_or sides 1 (pos 0)) point.y
    ∷ int_max (slice_index_or sides 2 (pos 0)) point.x
    ∷ int_max (slice_index_or sides 3 (pos 0)) point.y ∷ [])

abbrev pub widened_by_all : Option (List ℤ) → List StoredPoint → Option (List ℤ)
widened_by_all bounds points = fold widened_by bounds points
