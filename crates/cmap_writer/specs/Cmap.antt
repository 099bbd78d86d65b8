-- The table "cmap" (OpenType 1.9): its header, its encoding records and their subtables one after
-- another. Which encodings a font has is fontc's own: the codes up to 65534 always in format 4, and
-- all codes in format 12 where one is above 65535.
use Rattle.std.specs.Prelude.{◌≡◌, ℕ, ◌+◌, ◌*◌, ◌<◌, ◌≤◌, Bool, nat_lt, if◌then◌else◌, List, []}
use Rattle.std.specs.Prelude.{◌∷◌, ◌++◌, length, Option, Some, None, Result, Ok, Err, Vec}
use Rattle.std.specs.List.{flat_map, list_any, All, AllPairs}
use Rattle.std.specs.declared.alloc.Global.{Global}
use Rattle.refusal_codes.specs.declared.limits.TheConstants.{CHARACTER_MAP_BYTES}
use Rattle.table_bytes.specs.DataTypes.{uint16, uint32}
use Rattle.cmap_writer.specs.Runs.{Codes, longest_runs, short_codes}
use Rattle.cmap_writer.specs.Subtables.{segments_of, format_4, format_12}
use Rattle.cmap_writer.specs.declared.runs.Run.{Run}
use Rattle.cmap_writer.specs.declared.segments.Segment.{Segment}
use Rattle.cmap_writer.specs.declared.errors.CmapError.{CmapError}
use Rattle.cmap_writer.specs.declared.errors.CmapError.TheVariants as cmap_errors

-- the codes rise, and each is one of Unicode
pub record AreCodes (codes : Codes) : Type 0 where
  pub rise : AllPairs (λ a b. a.0 < b.0) codes
  pub within : All (λ code. code.0 ≤ 1114111) codes

-- the segments of the codes up to 65534
abbrev pub segments : Codes → List Segment
segments codes = segments_of (longest_runs (short_codes codes))

-- an encoding, and its subtable
pub record Encoding : Type 0 where
  pub platform_id : ℕ
  pub encoding_id : ℕ
  pub subtable : List ℕ

-- Windows, Unicode up to 65535
abbrev pub short_encoding : List Segment → Encoding
short_encoding segments = record { platform_id = 3; encoding_id = 1; subtable = format_4 segments }

-- Windows, all of Unicode
abbrev pub whole_encoding : List Run → Encoding
whole_encoding groups = record { platform_id = 3; encoding_id = 10; subtable = format_12 groups }

abbrev pub has_long_code : Codes → Bool
has_long_code codes = list_any (λ code. nat_lt 65535 code.0) codes

abbrev pub encodings : Codes → List Encoding
encodings codes =
    short_encoding (segments codes) ∷ (if has_long_code codes then whole_encoding
    (longest_runs codes) ∷ [] else [])

-- the encoding records of subtables that stand one after another from an offset on
abbrev pub encoding_records : ℕ → List Encoding → List ℕ
encoding_records offset [] = []
encoding_records offset (encoding ∷ encodings) =
    uint16 encoding.platform_id ++ uint16 encoding.encoding_id ++ uint32 offset
    ++ encoding_records (offset + length encoding.subtable) encodings

unfoldable pub table_of : List Encoding → List ℕ
table_of encodings =
    let version : ℕ = 0 in
    let num_tables : ℕ = length encodings in
    uint16 version ++ uint16 num_tables ++ encoding_records (4 + 8 * num_tables) encodings
    ++ flat_map (λ encoding. encoding.subtable) encodings

-- the same bytes before two subtables, of which the first has so many bytes
abbrev pub two_records : ℕ → List ℕ
two_records len =
    uint16 0 ++ uint16 2 ++ (uint16 3 ++ uint16 1 ++ uint32 20)
    ++ (uint16 3 ++ uint16 10 ++ uint32 (20 + len))

abbrev pub cmap_table : Codes → List ℕ
cmap_table codes = table_of (encodings codes)

-- the length of the subtable of format 4, where that is more than its two bytes of length can say
abbrev pub too_large : Codes → Option ℕ
too_large codes =
    let len : ℕ = length (format_4 (segments codes)) in
    if nat_lt CHARACTER_MAP_BYTES len then Some len else None

-- the length is too large, unless memory ran out
abbrev pub RefusesCmap : CmapError → Option ℕ → Type 0
RefusesCmap (cmap_errors.TooLarge n) too_large = too_large ≡ Some n
RefusesCmap cmap_errors.NoMemory too_large = Unit {0}

-- the table is built exactly where that length isn't too large, unless memory ran out
abbrev pub BuildsCmap : Result (Vec ℕ Global) CmapError → Codes → Type 0
BuildsCmap (Ok table) codes = (too_large codes ≡ None) × (table.items ≡ cmap_table codes)
BuildsCmap (Err e) codes = RefusesCmap e (too_large codes)
