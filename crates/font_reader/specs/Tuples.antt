-- What a glyph's tuples say of one of its points at a place of the design space, in 16.16 (OpenType
-- 1.9, "gvar" and "Font variations common table formats", "Tuple variation store").
use Rattle.std.specs.Prelude.{ℕ, ℤ, pos, ◌+◌, ◌-◌, ◌*◌, ◌/◌, ◌%◌, ◌^◌, ◌<◌, ◌+ℤ◌, Bool}
use Rattle.std.specs.Prelude.{List, length, slice_index_or, Option, Some, None, Result, Ok}
use Rattle.std.specs.Prelude.{Err, nat_eq, nat_lt, nat_le, int_lt, if◌then◌else◌}
use Rattle.fixed_math.specs.declared.F2Dot14.{F2Dot14}
use Rattle.fixed_math.specs.declared.Fixed.{Fixed}
use Rattle.fixed_math.specs.FixedPoint.{product}
use Rattle.variation_model.specs.Scalar.{axis_scalar}
use Rattle.font_reader.specs.declared.directory.TheConstants.{GVAR}
use Rattle.font_reader.specs.declared.faults.FontFault.{FontFault}
use Rattle.font_reader.specs.declared.faults.FaultKind.TheVariants.{BadFormat}
use Rattle.font_reader.specs.declared.fields.Table.{Table}
use Rattle.font_reader.specs.declared.packed.NamedPoint.{NamedPoint}
use Rattle.font_reader.specs.declared.packed.Pair.{Pair}
use Rattle.font_reader.specs.declared.packed.Target.{Target}
use Rattle.font_reader.specs.declared.packed.Deltas.{Deltas}
use Rattle.font_reader.specs.declared.tuples.Variations.{Variations}
use Rattle.font_reader.specs.declared.tuples.TupleHeader.{TupleHeader}
use Rattle.font_reader.specs.declared.tuples.Points.{Points}
use Rattle.font_reader.specs.declared.tuples.Offset.{Offset}
use Rattle.font_reader.specs.declared.tuples.TupleRun.{TupleRun}
use Rattle.font_reader.specs.Directory.{table_of}
use Rattle.font_reader.specs.Fields.{◌>>=◌, fault, read_byte, read_i16, read_u16, read_u32}
use Rattle.font_reader.specs.Fold.{folded}
use Rattle.font_reader.specs.Inferred.{inferred}
use Rattle.font_reader.specs.Packed.{chosen, deltas_of, named_points}
use Rattle.font_reader.specs.Stores.{coordinate, one}
use Rattle.font_reader.specs.Versions.{expect_u16, expect_u32}

-- ---- gvar, version 1.0, with long offsets

abbrev pub between : ℕ → ℕ → ℕ → ℕ → ℕ → Option Variations
between shared_count shared_at array from to = if nat_eq from to then None else Some (record {
  shared_count = shared_count;
  shared_at = shared_at;
  at = array + from;
})

-- where the data of a glyph are, if it has any
unfoldable pub variations_of : List ℕ → Table → ℕ → ℕ → ℕ → Result (Option Variations) FontFault
variations_of bytes gvar gid axes glyphs = do
  version ← expect_u32 bytes gvar 0 65536
  axis_count ← expect_u16 bytes gvar 4 axes
  shared_count ← read_u16 bytes gvar 6
  shared_at ← read_u32 bytes gvar 8
  glyph_count ← expect_u16 bytes gvar 12 glyphs
  flags ← expect_u16 bytes gvar 14 1
  array ← read_u32 bytes gvar 16
  from ← read_u32 bytes gvar (20 + 4 * gid)
  to ← read_u32 bytes gvar (24 + 4 * gid)
  Ok (between shared_count shared_at array from to)

-- ---- TupleVariationHeader: the peak is its own, or a shared one by the low 12 bits. Of the others
-- one is reserved.

unfoldable pub tuple_index : List ℕ → Table → ℕ → Result ℕ FontFault
tuple_index bytes gvar at = do
  index ← read_u16 bytes gvar at
  (if nat_eq ((index / 4096) % 2) 0 then Ok index else Err (fault BadFormat (gvar.offset + at)))

abbrev pub own_peak : ℕ → Bool
own_peak index = nat_le 32768 index

unfoldable pub peak_place : Table → Variations → ℕ → ℕ → ℕ → Result ℕ FontFault
peak_place gvar variations axes at index = if own_peak index then Ok (at + 4) else
    (if nat_lt (index % 4096) variations.shared_count
    then Ok (variations.shared_at + 2 * axes * (index % 4096))
    else Err (fault BadFormat (gvar.offset + (at + 2))))

abbrev pub own_size : ℕ → ℕ → ℕ
own_size axes index = if own_peak index then 2 * axes else 0

abbrev pub is_between : ℕ → Bool
is_between index = nat_eq ((index / 16384) % 2) 1

abbrev pub sides_size : ℕ → ℕ → ℕ
sides_size axes index = if is_between index then 4 * axes else 0

abbrev pub is_private : ℕ → Bool
is_private index = nat_eq ((index / 8192) % 2) 1

unfoldable pub tuple_header : List ℕ → Table → Variations → ℕ → ℕ → Result TupleHeader FontFault
tuple_header bytes gvar variations axes at = do
  size ← read_u16 bytes gvar at
  index ← tuple_index bytes gvar (at + 2)
  peak ← peak_place gvar variations axes at index
  Ok (record {
    size = size;
    peak = peak;
    sides = at + 4 + own_size axes index;
    next = at + 4 + own_size axes index + sides_size axes index;
    intermediate = is_between index;
    private_points = is_private index;
  })

-- ---- its scalar: start and end are its own, or else around the peak from zero

abbrev pub number : ℤ → F2Dot14
number raw = record { 0 = raw }

abbrev pub around : ℤ → F2Dot14 × F2Dot14 × F2Dot14
around peak = if int_lt peak (pos 0) then (number peak, number peak, number (pos 0))
    else (number (pos 0), number peak, number peak)

unfoldable pub tuple_side : List ℕ → Table → ℕ → TupleHeader → ℕ
    → Result (F2Dot14 × F2Dot14 × F2Dot14) FontFault
tuple_side bytes gvar axes header i = do
  peak ← read_i16 bytes gvar (header.peak + 2 * i)
  (if header.intermediate then
      (read_i16 bytes gvar (header.sides + 2 * i) >>= λ start.
      (read_i16 bytes gvar (header.sides + 2 * axes + 2 * i) >>= λ end.
      Ok (number start, number peak, number end))) else Ok (around peak))

unfoldable pub with_tuple_axis : List ℕ → Table → TupleHeader → List F2Dot14 → ℕ → Fixed
    → Result Fixed FontFault
with_tuple_axis bytes gvar header place i before = do
  side ← tuple_side bytes gvar (length place) header i
  Ok (record { 0 = product before.0 (axis_scalar side (coordinate place i)) })

unfoldable pub tuple_scalar : List ℕ → Table → TupleHeader → List F2Dot14
    → Result Fixed FontFault
tuple_scalar bytes gvar header place =
    folded (with_tuple_axis bytes gvar header place) 0 (length place) one

-- ---- the points that it names: all of them, or those of a list

abbrev pub itself : ℕ → NamedPoint
itself index = record { ordinal = index; point = index }

abbrev pub all_points : Target → ℕ → Points
all_points target at = record {
  count = target.points;
  at = at;
  pair = Some (record { before = itself target.index; after = itself target.index });
}

unfoldable pub listed_points : List ℕ → Table → Target → ℕ → ℕ → Result Points FontFault
listed_points bytes gvar target at count = do
  run ← named_points bytes gvar target at count
  Ok (record { count = count; at = run.at; pair = chosen run.near })

-- the count is one byte, or two where the first one is 128 or more
unfoldable pub points_at : List ℕ → Table → Target → ℕ → Result Points FontFault
points_at bytes gvar target at = do
  first ← read_byte bytes gvar at
  (if nat_eq first 0 then Ok (all_points target (at + 1)) else
      (if nat_lt first 128 then listed_points bytes gvar target (at + 1) first else
      (read_byte bytes gvar (at + 1) >>= λ second.
      listed_points bytes gvar target (at + 2) ((first - 128) * 256 + second))))

-- the shared ones stand before the data of the tuples
unfoldable pub shared_points : List ℕ → Table → Target → ℕ → ℕ → Result Points FontFault
shared_points bytes gvar target count at = if nat_le 32768 count
    then points_at bytes gvar target at else Ok (all_points target at)

unfoldable pub tuple_points : List ℕ → Table → Target → Points → TupleHeader → ℕ
    → Result Points FontFault
tuple_points bytes gvar target shared header body = if header.private_points
    then points_at bytes gvar target body
    else Ok (record { count = shared.count; at = body; pair = shared.pair })

-- ---- what it adds

abbrev pub known : List ℤ → ℕ → ℤ
known values i = slice_index_or values i (pos 0)

unfoldable pub offset_by : Fixed → Pair → Deltas → ℕ → List ℤ → List ℤ → Offset
offset_by scalar pair deltas index xs ys = record {
  x = product (inferred (known xs pair.before.point) deltas.before_x
      (known xs pair.after.point) deltas.after_x (known xs index)) scalar.0;
  y = product (inferred (known ys pair.before.point) deltas.before_y
      (known ys pair.after.point) deltas.after_y (known ys index)) scalar.0;
}

abbrev pub no_offset : Offset
no_offset = record { x = pos 0; y = pos 0 }

unfoldable pub tuple_offset : List ℕ → Table → Fixed → Points → ℕ → List ℤ → List ℤ
    → Result Offset FontFault
tuple_offset bytes gvar scalar points index xs ys = elim points.pair [
  | Some pair ↦ (deltas_of bytes gvar pair points.at points.count >>= λ deltas.
      Ok (offset_by scalar pair deltas index xs ys))
  | None ↦ Ok no_offset
]

unfoldable pub with_tuple : List ℕ → Table → Variations → Target → Points → List F2Dot14
    → List ℤ → List ℤ → ℕ → TupleRun → Result TupleRun FontFault
with_tuple bytes gvar variations target shared place xs ys i run = do
  header ← tuple_header bytes gvar variations (length place) run.header
  scalar ← tuple_scalar bytes gvar header place
  points ← tuple_points bytes gvar target shared header run.body
  offset ← tuple_offset bytes gvar scalar points target.index xs ys
  Ok (record {
    header = header.next;
    body = run.body + header.size;
    x = run.x +ℤ offset.x;
    y = run.y +ℤ offset.y;
  })

abbrev pub offset_of : TupleRun → Offset
offset_of run = record { x = run.x; y = run.y }

-- tupleVariationCount: how many tuples there are in the low 12 bits, and whether they share points
-- in the highest one. The others are reserved.
unfoldable pub tuple_count : List ℕ → Table → ℕ → Result ℕ FontFault
tuple_count bytes gvar at = do
  count ← read_u16 bytes gvar at
  (if nat_eq ((count / 4096) % 8) 0 then Ok count else Err (fault BadFormat (gvar.offset + at)))

-- GlyphVariationData: all tuples
unfoldable pub glyph_offset : List ℕ → Table → Variations → Target → List F2Dot14 → List ℤ
    → List ℤ → Result Offset FontFault
glyph_offset bytes gvar variations target place xs ys = do
  count ← tuple_count bytes gvar variations.at
  offset ← read_u16 bytes gvar (variations.at + 2)
  shared ← shared_points bytes gvar target count (variations.at + offset)
  run ← folded (with_tuple bytes gvar variations target shared place xs ys) 0 (count % 4096)
      (record { header = variations.at + 4; body = shared.at; x = pos 0; y = pos 0 })
  Ok (offset_of run)

unfoldable pub offset_in : List ℕ → Table → ℕ → ℕ → Target → List F2Dot14 → List ℤ → List ℤ
    → Result Offset FontFault
offset_in bytes gvar gid glyphs target place xs ys =
    variations_of bytes gvar gid (length place) glyphs >>= λ found. elim found [
      | Some variations ↦ glyph_offset bytes gvar variations target place xs ys
      | None ↦ Ok no_offset
    ]

unfoldable pub point_offset : List ℕ → ℕ → ℕ → Target → List F2Dot14 → List ℤ → List ℤ
    → Result Offset FontFault
point_offset bytes gid glyphs target place xs ys = elim (table_of bytes GVAR) [
  | Some gvar ↦ offset_in bytes gvar gid glyphs target place xs ys
  | None ↦ Ok no_offset
]

-- ---- what is small enough to be added up

abbrev pub AreNear : Variations → Type 0
AreNear variations = (variations.shared_count < 65536) × (variations.shared_at < 2 ^ 32)
    × (variations.at < 2 ^ 33)
