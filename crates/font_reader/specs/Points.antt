-- A point of a glyph at a place of the design space, in 16.16 (OpenType 1.9, "glyf" and "gvar"):
-- the point that is stored, and how far the glyph's tuples move it. Of a composite glyph the points
-- are its components, and each is where the component is put. Four phantom points follow, of which
-- the second is at the advance, and the others are at zero.
use Rattle.std.specs.Prelude.{◌≡◌, ℕ, ℤ, pos, ◌+◌, ◌-◌, ◌*◌, ◌≤◌, ◌+ℤ◌, ◌*ℤ◌, List, []}
use Rattle.std.specs.Prelude.{length, take, Result, Ok, Err, nat_eq, nat_lt, min}
use Rattle.std.specs.Prelude.{if◌then◌else◌}
use Rattle.fixed_math.specs.declared.F2Dot14.{F2Dot14}
use Rattle.font_reader.specs.declared.directory.TheConstants.{GLYF}
use Rattle.font_reader.specs.declared.faults.FontFault.{FontFault}
use Rattle.font_reader.specs.declared.faults.FaultKind.TheVariants.{NoPoint}
use Rattle.font_reader.specs.declared.outlines.Contour.{Contour}
use Rattle.font_reader.specs.declared.packed.Target.{Target}
use Rattle.font_reader.specs.declared.points.Point.{Point}
use Rattle.font_reader.specs.declared.points.Place.{Place}
use Rattle.font_reader.specs.declared.shapes.Shape.{Shape}
use Rattle.font_reader.specs.declared.shapes.Shape.TheVariants.{Empty, Simple, Composite}
use Rattle.font_reader.specs.declared.tuples.Offset.{Offset}
use Rattle.font_reader.specs.Advances.{stored_advance}
use Rattle.font_reader.specs.Fields.{◌>>=◌, fault, read_i16}
use Rattle.font_reader.specs.Outlines.{contour_of, outline_of}
use Rattle.font_reader.specs.Shapes.{own_points, shape_of}
use Rattle.font_reader.specs.Tuples.{known, point_offset}
use Rattle.font_reader.specs.Versions.{axes_for, glyph_among, required}

-- ---- the outline, where the point is one of it; else nothing of it is read

unfoldable pub outline_at : List ℕ → ℕ → ℕ → ℕ → Result (List ℤ × List ℤ) FontFault
outline_at bytes at contours points = do
  glyf ← required bytes GLYF 5
  outline_of bytes glyf at contours points

unfoldable pub outline_for : List ℕ → Shape → ℕ → Result (List ℤ × List ℤ) FontFault
outline_for bytes Empty index = Ok ([], [])
outline_for bytes (Composite at components) index = Ok ([], [])
outline_for bytes (Simple at contours points) index = if nat_lt index points
    then outline_at bytes at contours points else Ok ([], [])

-- ---- the point's contour; a phantom point and a component are by themselves

abbrev pub alone : ℕ → Contour
alone index = record { first = index; last = index }

-- a contour ends with the outline at the latest
abbrev pub within : ℕ → Contour → Contour
within points contour = record { first = contour.first; last = min contour.last (points - 1) }

unfoldable pub contour_at : List ℕ → ℕ → ℕ → ℕ → ℕ → Result Contour FontFault
contour_at bytes at contours points index = do
  glyf ← required bytes GLYF 5
  contour ← contour_of bytes glyf at contours index
  Ok (within points contour)

unfoldable pub contour_for : List ℕ → Shape → ℕ → Result Contour FontFault
contour_for bytes Empty index = Ok (alone index)
contour_for bytes (Composite at components) index = Ok (alone index)
contour_for bytes (Simple at contours points) index = if nat_lt index points
    then contour_at bytes at contours points index else Ok (alone index)

-- ---- the point that is stored

unfoldable pub phantom_place : List ℕ → ℕ → ℕ → Result Place FontFault
phantom_place bytes gid k = if nat_eq k 1
    then (stored_advance bytes gid >>= λ advance. Ok (record { x = pos advance; y = pos 0 }))
    else Ok (record { x = pos 0; y = pos 0 })

unfoldable pub component_place : List ℕ → ℕ → ℕ → Result Place FontFault
component_place bytes at i = do
  glyf ← required bytes GLYF 5
  x ← read_i16 bytes glyf (at + 14 + 8 * i)
  y ← read_i16 bytes glyf (at + 16 + 8 * i)
  Ok (record { x = x; y = y })

unfoldable pub stored_place : List ℕ → ℕ → Shape → ℕ → List ℤ → List ℤ → Result Place FontFault
stored_place bytes gid Empty index xs ys = phantom_place bytes gid index
stored_place bytes gid (Simple at contours points) index xs ys = if nat_lt index points
    then Ok (record { x = known xs index; y = known ys index })
    else phantom_place bytes gid (index - points)
stored_place bytes gid (Composite at components) index xs ys = if nat_lt index components
    then component_place bytes at index
    else phantom_place bytes gid (index - components)

-- ---- the point

abbrev pub target_of : Shape → ℕ → Contour → Target
target_of shape index contour = record {
  index = index;
  first = contour.first;
  last = contour.last;
  points = own_points shape + 4;
}

abbrev pub moved_point : Place → Offset → Point
moved_point place offset = record {
  x = (place.x *ℤ pos 65536) +ℤ offset.x;
  y = (place.y *ℤ pos 65536) +ℤ offset.y;
}

unfoldable pub point_with : List ℕ → ℕ → ℕ → Shape → ℕ → List F2Dot14 → List ℤ → List ℤ
    → Result Point FontFault
point_with bytes gid glyphs shape index place xs ys = do
  contour ← contour_for bytes shape index
  stored ← stored_place bytes gid shape index xs ys
  offset ← point_offset bytes gid glyphs (target_of shape index contour) place xs ys
  Ok (moved_point stored offset)

unfoldable pub point_of : List ℕ → ℕ → ℕ → Shape → ℕ → List F2Dot14 → Result Point FontFault
point_of bytes gid glyphs shape index place = do
  outline ← outline_for bytes shape index
  point_with bytes gid glyphs shape index place outline.0 outline.1

abbrev pub point_in : List ℕ → ℕ → ℕ → Shape → ℕ → List F2Dot14 → Result Point FontFault
point_in bytes gid glyphs shape index place = if nat_lt index (own_points shape + 4)
    then point_of bytes gid glyphs shape index place
    else Err (fault NoPoint index)

unfoldable pub point_at : List ℕ → ℕ → ℕ → List F2Dot14 → Result Point FontFault
point_at bytes gid index place = do
  axes ← axes_for bytes (length place)
  glyphs ← glyph_among bytes gid
  shape ← shape_of bytes gid
  point_in bytes gid glyphs shape index place

-- ---- what a room holds after it was filled: as many coordinates as are told, unless there was a
-- fault

abbrev pub Fills : Result ℕ FontFault → List ℤ → List ℤ → Result (List ℤ × List ℤ) FontFault
    → Type 0
Fills (Ok count) xs ys definition = (definition ≡ Ok (take count xs, take count ys))
    × (count ≤ length xs) × (count ≤ length ys)
Fills (Err e) xs ys definition = definition ≡ Err e
