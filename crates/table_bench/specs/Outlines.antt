-- The outlines of the glyphs that vary.
use Rattle.std.specs.Prelude.{◌≡◌, ℕ, ◌<◌, ◌≤◌, ℤ, pos, Bool, true, List, [], ◌∷◌, length, map}
use Rattle.std.specs.Prelude.{replicate}
use Rattle.std.specs.List.{All}
use Rattle.fixed_math.specs.declared.F2Dot14.{F2Dot14}
use Rattle.font_ir.specs.declared.glyph.Contour.{Contour}
use Rattle.font_ir.specs.declared.glyph.FlatGlyph.{FlatGlyph}
use Rattle.font_ir.specs.FlatGlyphs.{IsFlatGlyph, IsSmallPoint, point_count, shape_of}

abbrev pub at : ℤ → ℤ → List F2Dot14
at x y = record { 0 = x } ∷ record { 0 = y } ∷ []

-- the default master, and one at the end of each of two axes
abbrev pub three_places : List (List F2Dot14)
three_places = at (pos 0) (pos 0) ∷ at (pos 16384) (pos 0) ∷ at (pos 0) (pos 16384) ∷ []

-- two contours of thirty points, which are all on the curve
abbrev pub shape : List (List Bool)
shape = replicate 30 true ∷ replicate 30 true ∷ []

pub record IsOutline (contours : List Contour) : Type 0 where
  pub shape : shape_of contours ≡ shape
  pub few_points : point_count contours ≤ 8000
  pub whole : All (λ contour. 0 < length contour.points) contours
  pub small : All (λ contour. All IsSmallPoint contour.points) contours

-- a glyph with those places
pub record IsVarying (glyph : FlatGlyph) : Type 0 where
  pub flat : IsFlatGlyph glyph
  pub places : glyph.places ≡ three_places
