-- The advance of a glyph at a place of the design space, in 16.16 (OpenType 1.9, "hmtx" and
-- "HVAR").
use Rattle.std.specs.Prelude.{ℕ, ℤ, pos, ◌+◌, ◌-◌, ◌*◌, ◌+ℤ◌, List, length, min, Some, None}
use Rattle.std.specs.Prelude.{Result, Ok, Err, nat_eq, if◌then◌else◌}
use Rattle.fixed_math.specs.declared.F2Dot14.{F2Dot14}
use Rattle.font_reader.specs.declared.directory.TheConstants.{HHEA, HMTX, HVAR}
use Rattle.font_reader.specs.declared.faults.FontFault.{FontFault}
use Rattle.font_reader.specs.declared.faults.FaultKind.TheVariants.{BadFormat}
use Rattle.font_reader.specs.declared.fields.Table.{Table}
use Rattle.font_reader.specs.Directory.{table_of}
use Rattle.font_reader.specs.Fields.{◌>>=◌, fault, read_u16, read_u32}
use Rattle.font_reader.specs.Stores.{store_value}
use Rattle.font_reader.specs.Versions.{axes_for, expect_u32, glyph_among, required}

-- numberOfHMetrics, of which there is one at least
unfoldable pub metric_count : List ℕ → Result ℕ FontFault
metric_count bytes = do
  hhea ← required bytes HHEA 2
  version ← expect_u32 bytes hhea 0 65536
  count ← read_u16 bytes hhea 34
  (if nat_eq count 0 then Err (fault BadFormat (hhea.offset + 34)) else Ok count)

-- a glyph without a metric of its own has the last one's advance
unfoldable pub stored_advance : List ℕ → ℕ → Result ℕ FontFault
stored_advance bytes gid = do
  count ← metric_count bytes
  hmtx ← required bytes HMTX 3
  read_u16 bytes hmtx (4 * min gid (count - 1))

-- version 1.0, without a mapping of advances: the glyph's number is that of its row
unfoldable pub advance_delta_in : List ℕ → Table → ℕ → List F2Dot14 → Result ℤ FontFault
advance_delta_in bytes hvar gid place = do
  version ← expect_u32 bytes hvar 0 65536
  store ← read_u32 bytes hvar 4
  mapping ← expect_u32 bytes hvar 8 0
  (if nat_eq store 0 then Ok (pos 0) else store_value bytes hvar store 0 gid place)

unfoldable pub advance_delta : List ℕ → ℕ → List F2Dot14 → Result ℤ FontFault
advance_delta bytes gid place = elim (table_of bytes HVAR) [
  | Some hvar ↦ advance_delta_in bytes hvar gid place
  | None ↦ Ok (pos 0)
]

unfoldable pub advance_at : List ℕ → ℕ → List F2Dot14 → Result ℤ FontFault
advance_at bytes gid place = do
  axes ← axes_for bytes (length place)
  count ← glyph_among bytes gid
  advance ← stored_advance bytes gid
  delta ← advance_delta bytes gid place
  Ok (pos (advance * 65536) +ℤ delta)
