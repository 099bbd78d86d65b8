-- Worked examples: the bytes of outlines, as fonts from outside have them.
use Rattle.std.proofs.Common.{◌≡◌, ℕ, ℤ, pos, true, false, List, [], ◌∷◌, replicate, ◌++◌, refl}
use Rattle.font_ir.specs.declared.outline.StoredPoint.{StoredPoint}
use Rattle.table_bytes.specs.DataTypes.{padded}
use Rattle.glyf_writer.specs.CompositeData.{Component, composite_bytes, composite_of}
use Rattle.glyf_writer.specs.GlyphData.{simple_data, with_repeats}
use Rattle.glyf_writer.specs.Tables.{loca_bytes}

-- a point on the curve
abbrev point : ℤ → ℤ → StoredPoint
point x y = record { x = x; y = y; on = true }

-- the triangle (0,0), (500,0), (250,700), begun at its last point
abbrev triangle : List StoredPoint
triangle = point (pos 250) (pos 700) ∷ point (pos 0) (pos 0) ∷ point (pos 500) (pos 0) ∷ []

abbrev triangle_bytes : List ℕ
triangle_bytes = 0 ∷ 1 ∷ 0 ∷ 0 ∷ 0 ∷ 0 ∷ 1 ∷ 244 ∷ 2 ∷ 188 ∷ 0 ∷ 2 ∷ 0 ∷ 0 ∷ 19 ∷ 3 ∷ 33 ∷ 250 ∷ 250
    ∷ 1 ∷ 244 ∷ 2 ∷ 188 ∷ 253 ∷ 68 ∷ 0 ∷ 0 ∷ 0 ∷ []

pub triangle_row : simple_data false (triangle ∷ []) ≡ triangle_bytes
triangle_row = refl

-- in a font with axes its first flag is 0x53
pub variable_row : simple_data true (triangle ∷ [])
    ≡ 0 ∷ 1 ∷ 0 ∷ 0 ∷ 0 ∷ 0 ∷ 1 ∷ 244 ∷ 2 ∷ 188 ∷ 0 ∷ 2 ∷ 0 ∷ 0 ∷ 83 ∷ 3 ∷ 33 ∷ 250 ∷ 250 ∷ 1 ∷ 244
    ∷ 2 ∷ 188 ∷ 253 ∷ 68 ∷ 0 ∷ 0 ∷ 0 ∷ []
variable_row = refl

-- "loca" of a glyph without data and the triangle
pub loca_row : loca_bytes ([] ∷ triangle_bytes ∷ [])
    ≡ 0 ∷ 0 ∷ 0 ∷ 0 ∷ 0 ∷ 0 ∷ 0 ∷ 0 ∷ 0 ∷ 0 ∷ 0 ∷ 28 ∷ []
loca_row = refl

-- two contours: the bounds are of all points, and two flags in a row are equal nowhere
pub two_contours_row : simple_data false
    (triangle ∷ (point (pos 256) (pos 0) ∷ point (pos 0) (pos 0) ∷ point (pos 0) (pos 255)
    ∷ point (pos 256) (pos 255) ∷ []) ∷ [])
    ≡ 0 ∷ 2 ∷ 0 ∷ 0 ∷ 0 ∷ 0 ∷ 1 ∷ 244 ∷ 2 ∷ 188 ∷ 0 ∷ 2 ∷ 0 ∷ 6 ∷ 0 ∷ 0 ∷ 19 ∷ 3 ∷ 33 ∷ 35 ∷ 33 ∷ 53
    ∷ 33 ∷ 250 ∷ 250 ∷ 1 ∷ 244 ∷ 244 ∷ 255 ∷ 0 ∷ 1 ∷ 0 ∷ 2 ∷ 188 ∷ 253 ∷ 68 ∷ 255 ∷ 0 ∷ 0 ∷ 0 ∷ []
two_contours_row = refl

-- a run of 256 equal flags and one of a single flag more, a run of two, and one of none
pub runs_row : with_repeats (replicate 257 51 ++ (5 ∷ 23 ∷ 23 ∷ []))
    ≡ 59 ∷ 255 ∷ 51 ∷ 5 ∷ 31 ∷ 1 ∷ []
runs_row = refl

pub no_points_row : simple_data true [] ≡ []
no_points_row = refl

-- a composite of the triangle alone, moved by 100: of 18 bytes, and two zeros
abbrev moved : Component
moved = record { glyph = 1; x = pos 100; y = pos 0 }

pub composite_row : padded (composite_bytes (composite_of
    (point (pos 350) (pos 700) ∷ point (pos 100) (pos 0) ∷ point (pos 600) (pos 0) ∷ [])
    (moved ∷ [])))
    ≡ 255 ∷ 255 ∷ 0 ∷ 100 ∷ 0 ∷ 0 ∷ 2 ∷ 88 ∷ 2 ∷ 188 ∷ 0 ∷ 3 ∷ 0 ∷ 1 ∷ 0 ∷ 100 ∷ 0 ∷ 0 ∷ 0 ∷ 0 ∷ []
composite_row = refl

-- and where that glyph has no points
pub empty_composite_row : padded (composite_bytes (composite_of [] (moved ∷ [])))
    ≡ 255 ∷ 255 ∷ 0 ∷ 0 ∷ 0 ∷ 0 ∷ 0 ∷ 0 ∷ 0 ∷ 0 ∷ 0 ∷ 3 ∷ 0 ∷ 1 ∷ 0 ∷ 100 ∷ 0 ∷ 0 ∷ 0 ∷ 0 ∷ []
empty_composite_row = refl
