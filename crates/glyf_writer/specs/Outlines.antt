-- How the table "glyf" writes a glyph's outline (OpenType 1.9, "glyf", "Simple Glyph Description"):
-- each point by its distance from the one before it, and each contour by the number of its last
-- point.
use Rattle.std.specs.Prelude.{ℕ, ◌+◌, ◌-◌, pos, ℤ, ◌-ℤ◌, List, [], ◌∷◌, map}
use Rattle.std.specs.List.{All}
use Rattle.font_ir.specs.FlatGlyphs.{IsSmall}
use Rattle.font_ir.specs.declared.outline.StoredPoint.{StoredPoint}
use Rattle.glyf_writer.specs.declared.outline.Step.{Step}

-- how each point lies to the one before it
abbrev pub steps_from : ℤ → ℤ → List StoredPoint → List Step
steps_from x y [] = []
steps_from x y (point ∷ points) = record { dx = point.x -ℤ x; dy = point.y -ℤ y; on = point.on }
    ∷ steps_from point.x point.y points

-- the first point's step is from (0,0)
abbrev pub steps_of : List StoredPoint → List Step
steps_of points = steps_from (pos 0) (pos 0) points

-- the number of each contour's last point, where the points of all contours are counted from 0: of
-- contours of so many points
abbrev pub end_points : List ℕ → List ℕ
end_points [] = []
end_points (count ∷ counts) = (count - 1) ∷ map (λ end. count + end) (end_points counts)

-- stored points are at most 16383 in size, so that an int16 holds their differences
abbrev pub AreSmall : List StoredPoint → Type 0
AreSmall points = All (λ point. IsSmall point.x × IsSmall point.y) points
