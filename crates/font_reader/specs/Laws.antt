-- Laws of what is read.
use Rattle.std.specs.Prelude.{◌≡◌, ◌≢◌, ◌⊎◌, ℕ, ℤ, ◌+◌, ◌<◌, true, List, length, Some, None}
use Rattle.std.specs.Prelude.{Result, Ok, Err, nat_lt, if◌then◌else◌}
use Rattle.fixed_math.specs.declared.F2Dot14.{F2Dot14}
use Rattle.font_reader.specs.declared.directory.TheConstants.{GVAR}
use Rattle.font_reader.specs.declared.faults.FontFault.{FontFault}
use Rattle.font_reader.specs.declared.faults.FaultKind.TheVariants.{NoPoint}
use Rattle.font_reader.specs.declared.fields.Table.{Table}
use Rattle.font_reader.specs.declared.packed.Target.{Target}
use Rattle.font_reader.specs.declared.points.Point.{Point}
use Rattle.font_reader.specs.declared.shapes.Shape.{Shape}
use Rattle.font_reader.specs.declared.tuples.TupleHeader.{TupleHeader}
use Rattle.font_reader.specs.Directory.{entry_table, entry_tag, is_within, table_of, whole_entries}
use Rattle.font_reader.specs.Fields.{◌>>=◌, fault}
use Rattle.font_reader.specs.Points.{contour_for, moved_point, outline_for, point_at, stored_place}
use Rattle.font_reader.specs.Shapes.{own_points, shape_of}
use Rattle.font_reader.specs.Stores.{coordinate, one}
use Rattle.font_reader.specs.Tuples.{no_offset, point_offset, tuple_scalar, tuple_side}
use Rattle.font_reader.specs.Tuples.{variations_of}
use Rattle.font_reader.specs.Versions.{axes_for, glyph_among, glyph_count}

-- a table within the file is read where the first entry of its tag says
pub record IsFirstOfTag (bytes : List ℕ) (tag k : ℕ) : Type 0 where
  pub whole : k < whole_entries bytes
  pub has_tag : entry_tag bytes k ≡ tag
  pub lies_within : is_within bytes (entry_table bytes k) ≡ true
  pub first : (j : ℕ) → j < k → entry_tag bytes j ≢ tag

abbrev pub TablesAreFound : Type 0
TablesAreFound = (bytes : List ℕ) (tag k : ℕ) → IsFirstOfTag bytes tag k
    → table_of bytes tag ≡ Some (entry_table bytes k)

-- a point of a glyph without tuples isn't moved at any place
abbrev pub StaysWithoutTable : Type 0
StaysWithoutTable = (bytes : List ℕ) (gid glyphs : ℕ) (target : Target) (place : List F2Dot14)
    (xs ys : List ℤ) → table_of bytes GVAR ≡ None
    → point_offset bytes gid glyphs target place xs ys ≡ Ok no_offset

abbrev pub StaysWithoutTuples : Type 0
StaysWithoutTuples = (bytes : List ℕ) (gvar : Table) (gid glyphs : ℕ) (target : Target)
    (place : List F2Dot14) (xs ys : List ℤ) → table_of bytes GVAR ≡ Some gvar
    → variations_of bytes gvar gid (length place) glyphs ≡ Ok None
    → point_offset bytes gid glyphs target place xs ys ≡ Ok no_offset

-- the font has no gvar, or the glyph has no data there
abbrev pub HasNoTuples : List ℕ → ℕ → ℕ → Type 0
HasNoTuples bytes gid axes = (table_of bytes GVAR ≡ None)
    ⊎ ((gvar : Table) × (table_of bytes GVAR ≡ Some gvar)
    × ((glyphs : ℕ) → glyph_count bytes ≡ Ok glyphs
    → variations_of bytes gvar gid axes glyphs ≡ Ok None))

-- a point of the outline, a component or a phantom point, as it is stored, in 16.16
abbrev pub stored_in : List ℕ → ℕ → Shape → ℕ → Result Point FontFault
stored_in bytes gid shape index = do
  outline ← outline_for bytes shape index
  contour ← contour_for bytes shape index
  stored ← stored_place bytes gid shape index outline.0 outline.1
  Ok (moved_point stored no_offset)

-- the same of a font with so many axes
abbrev pub stored_point : List ℕ → ℕ → ℕ → ℕ → Result Point FontFault
stored_point bytes gid index axes = do
  count ← axes_for bytes axes
  glyphs ← glyph_among bytes gid
  shape ← shape_of bytes gid
  (if nat_lt index (own_points shape + 4) then stored_in bytes gid shape index
      else Err (fault NoPoint index))

-- a glyph without tuples has its stored points at every place
abbrev pub PointsStay : Type 0
PointsStay = (bytes : List ℕ) (gid index : ℕ) (place : List F2Dot14)
    → HasNoTuples bytes gid (length place)
    → point_at bytes gid index place ≡ stored_point bytes gid index (length place)

-- the place is at the tuple's peak on an axis
pub record IsAtPeak (bytes : List ℕ) (gvar : Table) (header : TupleHeader)
    (place : List F2Dot14) (i : ℕ) : Type 0 where
  pub from : F2Dot14
  pub to : F2Dot14
  pub side : tuple_side bytes gvar (length place) header i ≡ Ok (from, coordinate place i, to)

-- at a tuple's peak its deltas count whole
abbrev pub PeaksAreWhole : Type 0
PeaksAreWhole = (bytes : List ℕ) (gvar : Table) (header : TupleHeader) (place : List F2Dot14)
    → ((i : ℕ) → i < length place → IsAtPeak bytes gvar header place i)
    → tuple_scalar bytes gvar header place ≡ Ok one
