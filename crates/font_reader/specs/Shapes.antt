-- What a glyph is made of (OpenType 1.9, "loca" and "glyf"): nothing, where its two offsets are
-- equal; points in contours; or components.
use Rattle.std.specs.Prelude.{ℕ, pos, ◌+◌, ◌*◌, ◌^◌, ◌<◌, ◌≤◌, List, Option, Some, None, Result, Ok}
use Rattle.std.specs.Prelude.{Err}
use Rattle.std.specs.Prelude.{nat_eq, if◌then◌else◌, int_lt, negsuc, unsigned_abs}
use Rattle.std.specs.Ordering.{int_eq}
use Rattle.font_reader.specs.declared.directory.TheConstants.{GLYF, HEAD, LOCA}
use Rattle.font_reader.specs.declared.faults.FontFault.{FontFault}
use Rattle.font_reader.specs.declared.faults.FaultKind.TheVariants.{BadFormat}
use Rattle.font_reader.specs.declared.fields.Table.{Table}
use Rattle.font_reader.specs.declared.shapes.Shape.{Shape}
use Rattle.font_reader.specs.declared.shapes.Shape.TheVariants.{Empty, Simple, Composite}
use Rattle.font_reader.specs.Fields.{◌>>=◌, fault, read_i16, read_u16, read_u32}
use Rattle.font_reader.specs.Fold.{folded}
use Rattle.font_reader.specs.Search.{first_found}
use Rattle.font_reader.specs.Versions.{expect_u16, expect_u32, glyph_among, required}

-- ---- where a glyph's data begin in glyf, if it has any: head 1.0, with long offsets

abbrev pub data_between : ℕ → ℕ → Option ℕ
data_between from to = if nat_eq from to then None else Some from

unfoldable pub glyph_data : List ℕ → ℕ → Result (Option ℕ) FontFault
glyph_data bytes gid = do
  head ← required bytes HEAD 0
  version ← expect_u32 bytes head 0 65536
  long ← expect_u16 bytes head 50 1
  loca ← required bytes LOCA 4
  from ← read_u32 bytes loca (4 * gid)
  to ← read_u32 bytes loca (4 * gid + 4)
  Ok (data_between from to)

-- ---- a simple glyph: one more than its last end point is how many points it has

unfoldable pub points_to : List ℕ → Table → ℕ → ℕ → ℕ → Result ℕ FontFault
points_to bytes glyf at i before = do
  end ← read_u16 bytes glyf (at + 10 + 2 * i)
  Ok (end + 1)

unfoldable pub simple_points : List ℕ → Table → ℕ → ℕ → Result ℕ FontFault
simple_points bytes glyf at contours = folded (points_to bytes glyf at) 0 contours 0

-- ---- a composite glyph: its components, of 8 bytes each, up to the first one that no other
-- follows. Their flags are those of offsets in words, and of more components.

unfoldable pub last_component : List ℕ → Table → ℕ → ℕ → Result (Option ℕ) FontFault
last_component bytes glyf at i = do
  flags ← read_u16 bytes glyf (at + 10 + 8 * i)
  (if nat_eq flags 35 then Ok None else (if nat_eq flags 3 then Ok (Some (i + 1))
      else Err (fault BadFormat (glyf.offset + (at + 10 + 8 * i)))))

-- there are fewer than the table has bytes
abbrev pub count_or : Option ℕ → ℕ
count_or (Some count) = count
count_or None = 0

unfoldable pub component_count : List ℕ → Table → ℕ → Result ℕ FontFault
component_count bytes glyf at = do
  found ← first_found (last_component bytes glyf at) 0 glyf.length
  Ok (count_or found)

-- ---- a glyph, whose data begin at a place of glyf

unfoldable pub simple_shape : List ℕ → Table → ℕ → ℕ → Result Shape FontFault
simple_shape bytes glyf at contours = do
  points ← simple_points bytes glyf at contours
  Ok (Simple at contours points)

unfoldable pub composite_shape : List ℕ → Table → ℕ → Result Shape FontFault
composite_shape bytes glyf at = do
  components ← component_count bytes glyf at
  Ok (Composite at components)

unfoldable pub shape_at : List ℕ → Table → ℕ → Result Shape FontFault
shape_at bytes glyf at = do
  contours ← read_i16 bytes glyf at
  (if int_lt contours (pos 0) then (if int_eq contours (negsuc 0)
      then composite_shape bytes glyf at
      else Err (fault BadFormat (glyf.offset + at)))
      else simple_shape bytes glyf at (unsigned_abs contours))

unfoldable pub shape_in : List ℕ → Option ℕ → Result Shape FontFault
shape_in bytes None = Ok Empty
shape_in bytes (Some at) = do
  glyf ← required bytes GLYF 5
  shape_at bytes glyf at

unfoldable pub shape_of : List ℕ → ℕ → Result Shape FontFault
shape_of bytes gid = glyph_data bytes gid >>= shape_in bytes

-- ---- how many points it has, or components

unfoldable pub own_points : Shape → ℕ
own_points Empty = 0
own_points (Simple at contours points) = points
own_points (Composite at components) = components

-- with the four phantom points
unfoldable pub room_for : List ℕ → ℕ → Result ℕ FontFault
room_for bytes gid = do
  count ← glyph_among bytes gid
  shape ← shape_of bytes gid
  Ok (own_points shape + 4)

-- its numbers are small enough to be added up
abbrev pub IsShape : Shape → Type 0
IsShape Empty = Unit {0}
IsShape (Simple at contours points) = (at < 2 ^ 32) × (contours < 65536) × (points ≤ 65536)
IsShape (Composite at components) = (at < 2 ^ 32) × (components ≤ 4294967296)
