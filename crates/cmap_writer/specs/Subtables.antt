-- The subtables of "cmap" as bytes, field by field (OpenType 1.9, "cmap", "Format 4: Segment
-- mapping to delta values" and "Format 12: Segmented coverage").
use Rattle.std.specs.Prelude.{ℕ, zero, suc, ◌+◌, ◌-◌, ◌*◌, ◌%◌, ◌^◌, nat_le, if◌then◌else◌, List}
use Rattle.std.specs.Prelude.{[], ◌∷◌, ◌++◌, length, map}
use Rattle.std.specs.List.{flat_map}
use Rattle.table_bytes.specs.DataTypes.{uint16, uint32}
use Rattle.cmap_writer.specs.declared.runs.Run.{Run}
use Rattle.cmap_writer.specs.declared.segments.Segment.{Segment}

-- the language of a subtable that is for none in particular
abbrev pub no_language : ℕ
no_language = 0

-- ---- format 4

-- The segment of a run. A code of it has as its glyph number the code and idDelta together, modulo
-- 65536, as idRangeOffset is 0. idDelta is told as the number from 0 to 65535 that it is modulo
-- 65536.
abbrev pub segment_of : Run → Segment
segment_of run = record {
  end_code = run.first + run.more;
  start_code = run.first;
  id_delta = (run.glyph + (65536 - run.first)) % 65536;
  id_range_offset = 0;
}

-- each table ends with a segment of the code 65535 alone, which leads to the missing glyph
abbrev pub last_segment : Segment
last_segment = record { end_code = 65535; start_code = 65535; id_delta = 1; id_range_offset = 0 }

abbrev pub segments_of : List Run → List Segment
segments_of runs = map segment_of runs ++ last_segment ∷ []

-- the greatest of the numbers up to a bound whose power of two is at most n
abbrev pub greatest_power : ℕ → ℕ → ℕ
greatest_power zero n = 0
greatest_power (suc k) n = if nat_le (2 ^ suc k) n then suc k else greatest_power k n

-- the binary logarithm of a count of at most 65,535, rounded down
unfoldable pub entry_selector : ℕ → ℕ
entry_selector count = greatest_power 15 count

abbrev pub search_range : ℕ → ℕ
search_range count = 2 * 2 ^ entry_selector count

-- how many bytes a subtable of so many segments takes
abbrev pub format_4_length : ℕ → ℕ
format_4_length count = 16 + 8 * count

-- the fields before the arrays, for a count of segments
unfoldable pub search_fields : ℕ → List ℕ
search_fields count =
    let range_shift : ℕ = 2 * count - search_range count in
    uint16 (search_range count) ++ uint16 (entry_selector count) ++ uint16 range_shift

unfoldable pub format_4_head : ℕ → List ℕ
format_4_head count =
    let format : ℕ = 4 in
    let seg_count_x2 : ℕ = 2 * count in
    uint16 format ++ uint16 (format_4_length count) ++ uint16 no_language ++ uint16 seg_count_x2
    ++ search_fields count

-- the arrays after the last codes, field by field
unfoldable pub later_arrays : List Segment → List ℕ
later_arrays segments =
    flat_map uint16 (map (λ segment. segment.start_code) segments)
    ++ flat_map uint16 (map (λ segment. segment.id_delta) segments)
    ++ flat_map uint16 (map (λ segment. segment.id_range_offset) segments)

unfoldable pub format_4 : List Segment → List ℕ
format_4 segments =
    let reserved_pad : ℕ = 0 in
    format_4_head (length segments)
    ++ flat_map uint16 (map (λ segment. segment.end_code) segments)
    ++ uint16 reserved_pad
    ++ later_arrays segments

-- ---- format 12

-- a SequentialMapGroup: startCharCode, endCharCode and startGlyphID
abbrev pub group_bytes : Run → List ℕ
group_bytes run = uint32 run.first ++ uint32 (run.first + run.more) ++ uint32 run.glyph

-- the fields before the groups, for a count of groups
unfoldable pub format_12_head : ℕ → List ℕ
format_12_head count =
    let format : ℕ = 12 in
    let reserved : ℕ = 0 in
    let len : ℕ = 16 + 12 * count in
    uint16 format ++ uint16 reserved ++ uint32 len ++ uint32 no_language ++ uint32 count

unfoldable pub format_12 : List Run → List ℕ
format_12 runs = format_12_head (length runs) ++ flat_map group_bytes runs
