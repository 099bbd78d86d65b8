-- What a table's first fields say, and the parts of a font that other tables count on.
use Rattle.std.specs.Prelude.{ℕ, ◌+◌, List, Some, None, Result, Ok, Err, nat_eq, nat_lt}
use Rattle.std.specs.Prelude.{if◌then◌else◌}
use Rattle.font_reader.specs.declared.directory.TheConstants.{MAXP, FVAR}
use Rattle.font_reader.specs.declared.faults.FontFault.{FontFault}
use Rattle.font_reader.specs.declared.faults.FaultKind.TheVariants.{BadFormat, NoTable, NoPoint}
use Rattle.font_reader.specs.declared.faults.FaultKind.TheVariants.{CoordCount}
use Rattle.font_reader.specs.declared.fields.Table.{Table}
use Rattle.font_reader.specs.Directory.{table_of}
use Rattle.font_reader.specs.Fields.{◌>>=◌, fault, read_u16, read_u32}

-- a number that has to be the one that is read, at a place of a table; else it is at fault
abbrev pub expected : ℕ → ℕ → Table → ℕ → Result ℕ FontFault
expected wanted value table at = if nat_eq value wanted then Ok value
    else Err (fault BadFormat (table.offset + at))

unfoldable pub expect_u16 : List ℕ → Table → ℕ → ℕ → Result ℕ FontFault
expect_u16 bytes table at wanted = do
  value ← read_u16 bytes table at
  expected wanted value table at

unfoldable pub expect_u32 : List ℕ → Table → ℕ → ℕ → Result ℕ FontFault
expect_u32 bytes table at wanted = do
  value ← read_u32 bytes table at
  expected wanted value table at

-- a table with the number that is told where it is missing
unfoldable pub required : List ℕ → ℕ → ℕ → Result Table FontFault
required bytes tag number = elim (table_of bytes tag) [
  | Some table ↦ Ok table
  | None ↦ Err (fault NoTable number)
]

-- ---- the number of glyphs ("maxp", version 1.0)

unfoldable pub glyph_count : List ℕ → Result ℕ FontFault
glyph_count bytes = do
  maxp ← required bytes MAXP 1
  version ← expect_u32 bytes maxp 0 65536
  read_u16 bytes maxp 4

-- the same, where there is this glyph
unfoldable pub glyph_among : List ℕ → ℕ → Result ℕ FontFault
glyph_among bytes gid = do
  count ← glyph_count bytes
  (if nat_lt gid count then Ok count else Err (fault NoPoint gid))

-- ---- the number of axes ("fvar", version 1.0): none without the table

unfoldable pub axes_in : List ℕ → Table → Result ℕ FontFault
axes_in bytes fvar = do
  version ← expect_u32 bytes fvar 0 65536
  read_u16 bytes fvar 8

unfoldable pub axis_count : List ℕ → Result ℕ FontFault
axis_count bytes = elim (table_of bytes FVAR) [ Some fvar ↦ axes_in bytes fvar | None ↦ Ok 0 ]

-- the same, where there are so many coordinates
unfoldable pub axes_for : List ℕ → ℕ → Result ℕ FontFault
axes_for bytes coordinates = do
  axes ← axis_count bytes
  (if nat_eq coordinates axes then Ok axes else Err (fault CoordCount axes))
