-- The glyph of a code (OpenType 1.9, "cmap"): by format 12 of (3,10) where that is there, and else
-- by format 4 of (3,1). A code that no segment or group has is that of glyph 0, and so is each code
-- where there is no such subtable, and a code above 65535 without format 12.
use Rattle.std.specs.Prelude.{ℕ, ◌+◌, ◌-◌, ◌*◌, ◌/◌, ◌%◌, ◌&&◌, List, Option, Some, None, Result}
use Rattle.std.specs.Prelude.{Ok, nat_eq, nat_lt, nat_le, if◌then◌else◌}
use Rattle.font_reader.specs.declared.directory.TheConstants.{CMAP}
use Rattle.font_reader.specs.declared.faults.FontFault.{FontFault}
use Rattle.font_reader.specs.declared.fields.Table.{Table}
use Rattle.font_reader.specs.Directory.{table_of}
use Rattle.font_reader.specs.Fields.{◌>>=◌, read_u16, read_u32}
use Rattle.font_reader.specs.Search.{first_found}
use Rattle.font_reader.specs.Versions.{expect_u16}

-- what is found, or else another value
abbrev pub found_or : ℕ → Option ℕ → ℕ
found_or other (Some x) = x
found_or other None = other

-- ---- the subtables

-- EncodingRecord: where the subtable is, if it is that of this encoding of platform 3
unfoldable pub subtable_in : List ℕ → Table → ℕ → ℕ → Result (Option ℕ) FontFault
subtable_in bytes cmap encoding i = do
  platform ← read_u16 bytes cmap (4 + 8 * i)
  encoding_id ← read_u16 bytes cmap (6 + 8 * i)
  offset ← read_u32 bytes cmap (8 + 8 * i)
  (if nat_eq platform 3 && nat_eq encoding_id encoding then Ok (Some offset) else Ok None)

unfoldable pub subtable_of : List ℕ → Table → ℕ → ℕ → Result (Option ℕ) FontFault
subtable_of bytes cmap count encoding = first_found (subtable_in bytes cmap encoding) 0 count

-- ---- format 12

-- SequentialMapGroup: the code's glyph, if the code lies in the group
unfoldable pub glyph_in_group : List ℕ → Table → ℕ → ℕ → ℕ → Result (Option ℕ) FontFault
glyph_in_group bytes cmap groups code i = do
  first ← read_u32 bytes cmap (groups + 12 * i)
  last ← read_u32 bytes cmap (groups + 12 * i + 4)
  glyph ← read_u32 bytes cmap (groups + 12 * i + 8)
  (if nat_le first code && nat_le code last then Ok (Some ((glyph + (code - first)) % 65536))
      else Ok None)

-- the first group that has the code decides
unfoldable pub glyph_in_groups : List ℕ → Table → ℕ → ℕ → Result ℕ FontFault
glyph_in_groups bytes cmap subtable code = do
  format ← expect_u16 bytes cmap subtable 12
  count ← read_u32 bytes cmap (subtable + 12)
  found ← first_found (glyph_in_group bytes cmap (subtable + 16) code) 0 count
  Ok (found_or 0 found)

-- ---- format 4, with its arrays of so many numbers each

-- the code's glyph in a segment that ends at the code or after it
unfoldable pub glyph_by_segment : List ℕ → Table → ℕ → ℕ → ℕ → ℕ → Result ℕ FontFault
glyph_by_segment bytes cmap subtable count code i = do
  start ← read_u16 bytes cmap (subtable + 16 + 2 * count + 2 * i)
  delta ← read_u16 bytes cmap (subtable + 16 + 4 * count + 2 * i)
  range ← expect_u16 bytes cmap (subtable + 16 + 6 * count + 2 * i) 0
  (if nat_lt code start then Ok 0 else Ok ((code + delta) % 65536))

unfoldable pub glyph_in_segment : List ℕ → Table → ℕ → ℕ → ℕ → ℕ → Result (Option ℕ) FontFault
glyph_in_segment bytes cmap subtable count code i = do
  end ← read_u16 bytes cmap (subtable + 14 + 2 * i)
  (if nat_lt end code then Ok None else (glyph_by_segment bytes cmap subtable count code i >>=
      λ glyph. Ok (Some glyph)))

-- the first segment that ends at the code or after it decides
unfoldable pub glyph_in_segments : List ℕ → Table → ℕ → ℕ → Result ℕ FontFault
glyph_in_segments bytes cmap subtable code = do
  format ← expect_u16 bytes cmap subtable 4
  twice ← read_u16 bytes cmap (subtable + 6)
  found ← first_found (glyph_in_segment bytes cmap subtable (twice / 2) code) 0 (twice / 2)
  Ok (found_or 0 found)

-- ---- the glyph

unfoldable pub glyph_by_basic : List ℕ → Table → ℕ → ℕ → Result ℕ FontFault
glyph_by_basic bytes cmap count code = if nat_lt 65535 code then Ok 0 else
    (subtable_of bytes cmap count 1 >>= λ found. elim found [
      | Some subtable ↦ glyph_in_segments bytes cmap subtable code
      | None ↦ Ok 0
    ])

unfoldable pub glyph_by : List ℕ → Table → ℕ → Result ℕ FontFault
glyph_by bytes cmap code = do
  version ← expect_u16 bytes cmap 0 0
  count ← read_u16 bytes cmap 2
  found ← subtable_of bytes cmap count 10
  elim found [
    | Some subtable ↦ glyph_in_groups bytes cmap subtable code
    | None ↦ glyph_by_basic bytes cmap count code
  ]

unfoldable pub code_of : List ℕ → ℕ → Result ℕ FontFault
code_of bytes code = elim (table_of bytes CMAP) [
  | Some cmap ↦ glyph_by bytes cmap code
  | None ↦ Ok 0
]
