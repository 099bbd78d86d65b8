-- Worked examples: the data of two glyphs, as fonts from outside have them, and runs.
use Rattle.std.proofs.Common.{◌≡◌, ℕ, ℤ, pos, negsuc, true, List, [], ◌∷◌, ◌++◌, replicate}
use Rattle.std.proofs.Common.{refl, None}
use Rattle.fixed_math.specs.declared.F2Dot14.{F2Dot14}
use Rattle.font_ir.specs.declared.glyph.Contour.{Contour}
use Rattle.font_ir.specs.declared.glyph.DrawnPoint.{DrawnPoint}
use Rattle.font_ir.specs.declared.glyph.FlatGlyph.{FlatGlyph}
use Rattle.font_ir.specs.declared.variation.Region.{Region}
use Rattle.variation_model.specs.Places.{order_of}
use Rattle.variation_model.specs.Supports.{supports_of}
use Rattle.variation_model.specs.Deltas.{deltas_of}
use Rattle.gvar_writer.specs.PackedDeltas.{packed_deltas}
use Rattle.gvar_writer.specs.PackedPoints.{packed_points, packed_differences}
use Rattle.gvar_writer.specs.GlyphPoints.{glyph_rows, too_large}
use Rattle.gvar_writer.specs.TupleData.{all_form, named_form, tuple_data}
use Rattle.gvar_writer.specs.TupleHeaders.{tuple_header}
use Rattle.gvar_writer.specs.GlyphVariations.{with_head, rows_bytes, variation_data}

-- ---- runs

-- a run of 64 zeros and one more; a short delta between long ones is a run of its own
deltas_row : packed_deltas (replicate 65 (pos 0) ++ pos 127 ∷ negsuc 127 ∷ pos 128 ∷ negsuc 128
    ∷ pos 1 ∷ [])
    ≡ 0xbf ∷ 0x80 ∷ 0x01 ∷ 0x7f ∷ 0x80 ∷ 0x41 ∷ 0 ∷ 0x80 ∷ 0xff ∷ 0x7f ∷ 0 ∷ 1 ∷ []
unfolding packed_deltas
deltas_row = refl

points_row : packed_points (1 ∷ 3 ∷ 5 ∷ 260 ∷ 516 ∷ [])
    ≡ 5 ∷ 3 ∷ 1 ∷ 2 ∷ 2 ∷ 255 ∷ 0x80 ∷ 1 ∷ 0 ∷ []
unfolding packed_differences
points_row = refl

-- ---- a triangle that grows with its width

abbrev at : ℤ → F2Dot14
at z = record { 0 = z }

-- the peak alone, from 0 on
abbrev bold : Region
bold = record { sides = (at (pos 0), at (pos 16384), at (pos 16384)) ∷ [] }

abbrev corner : ℕ → ℕ → DrawnPoint
corner x y = record { x = record { 0 = pos x }; y = record { 0 = pos y }; on = true }

abbrev triangle_to : ℕ → List Contour
triangle_to x = (record {
  points = corner x 45875200 ∷ corner 0 0 ∷ corner 32768000 0 ∷ [];
}) ∷ []

abbrev growing : FlatGlyph
growing = record {
  number = 0;
  place = 0;
  places = (at (pos 0) ∷ []) ∷ (at (pos 16384) ∷ []) ∷ [];
  widths = pos 500 ∷ pos 520 ∷ [];
  drawn = triangle_to 16384000 ∷ triangle_to 17039360 ∷ [];
  kept = [];
  anchors = [];
}

growing_row : variation_data (bold ∷ []) growing
    ≡ 0 ∷ 1 ∷ 0 ∷ 8 ∷ 0 ∷ 8 ∷ 0x20 ∷ 0 ∷ 0 ∷ 0 ∷ 0x0a ∷ 0x82 ∷ 0 ∷ 0x14 ∷ 0x81 ∷ 0x86 ∷ []
unfolding packed_deltas packed_differences glyph_rows all_form named_form tuple_data tuple_header
    with_head order_of supports_of deltas_of
growing_row = refl

growing_fits : too_large growing ≡ None
unfolding glyph_rows order_of supports_of deltas_of
growing_fits = refl

-- ---- a rectangle of which two points are inferred

abbrev row : ℕ → ℕ → List ℤ
row stored delta = pos stored ∷ pos delta ∷ []

rectangle_row : rows_bytes (bold ∷ []) (bold ∷ bold ∷ []) (4 ∷ [])
    (row 266 0 ∷ row 266 0 ∷ row 666 4 ∷ row 666 4 ∷ row 0 0 ∷ row 713 7 ∷ row 0 0 ∷ row 0 0 ∷ [])
    (row 223 17 ∷ row 140 0 ∷ row 140 0 ∷ row 223 17 ∷ row 0 0 ∷ row 0 0 ∷ row 0 0 ∷ row 0 0 ∷ [])
    ≡ 0 ∷ 1 ∷ 0 ∷ 8 ∷ 0 ∷ 0x0d ∷ 0x20 ∷ 0 ∷ 3 ∷ 2 ∷ 1 ∷ 2 ∷ 2 ∷ 0x80 ∷ 1 ∷ 4 ∷ 7 ∷ 0x80 ∷ 0 ∷ 0x11
    ∷ 0x80 ∷ 0 ∷ 0 ∷ 0 ∷ []
unfolding packed_deltas packed_differences all_form named_form tuple_data tuple_header with_head
rectangle_row = refl
