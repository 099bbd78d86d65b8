-- The directory of a font (OpenType 1.9, "OpenType Font File", "Table Directory"): after 12 bytes
-- an entry of 16 bytes for each table. And what of it is at fault.
use Rattle.std.specs.Prelude.{◌≡◌, ℕ, ◌+◌, ◌-◌, ◌*◌, ◌/◌, Bool, ◌&&◌, List, length, min, nat_le}
use Rattle.std.specs.Prelude.{nat_eq, nat_lt, if◌then◌else◌, Option, Some, None, Result, Ok, Err}
use Rattle.std.specs.Prelude.{position, is_none, [], ◌∷◌}
use Rattle.font_reader.specs.declared.directory.FontView.{FontView}
use Rattle.font_reader.specs.declared.directory.TheConstants.{HEAD, MAXP, HHEA, HMTX, LOCA, GLYF}
use Rattle.font_reader.specs.declared.faults.FontFault.{FontFault}
use Rattle.font_reader.specs.declared.faults.FaultKind.TheVariants.{NotSfnt, NoTable, OutOfTable}
use Rattle.font_reader.specs.declared.fields.Table.{Table}
use Rattle.font_reader.specs.Fields.{fault, u16_at, u32_at}
use Rattle.font_reader.specs.Search.{first_some}

-- numTables
abbrev pub table_count : List ℕ → ℕ
table_count bytes = u16_at bytes 4

-- how many entries lie within the file
unfoldable pub whole_entries : List ℕ → ℕ
whole_entries bytes = if nat_le 12 (length bytes)
    then min (table_count bytes) ((length bytes - 12) / 16) else 0

-- TableRecord: where it stands, its tag, and where its table lies
abbrev pub entry_place : ℕ → ℕ
entry_place i = 12 + 16 * i

unfoldable pub entry_tag : List ℕ → ℕ → ℕ
entry_tag bytes i = u32_at bytes (entry_place i)

unfoldable pub entry_table : List ℕ → ℕ → Table
entry_table bytes i = record {
  offset = u32_at bytes (entry_place i + 8);
  length = u32_at bytes (entry_place i + 12);
}

abbrev pub is_within : List ℕ → Table → Bool
is_within bytes table = nat_le (table.offset + table.length) (length bytes)

-- ---- the table of a tag: that of the first entry which has the tag, and whose table lies within
-- the file

unfoldable pub table_in_entry : List ℕ → ℕ → ℕ → Option Table
table_in_entry bytes tag i = if nat_eq (entry_tag bytes i) tag
    && is_within bytes (entry_table bytes i) then Some (entry_table bytes i) else None

unfoldable pub table_of : List ℕ → ℕ → Option Table
table_of bytes tag = first_some (table_in_entry bytes tag) 0 (whole_entries bytes)

-- ---- the faults, in their order

-- the first 12 bytes, with the version of fonts with TrueType outlines
unfoldable pub is_sfnt : List ℕ → Bool
is_sfnt bytes = nat_le 12 (length bytes) && nat_eq (u32_at bytes 0) 65536

-- an entry whose table isn't within the file
unfoldable pub cut_table : List ℕ → ℕ → Option FontFault
cut_table bytes i = if is_within bytes (entry_table bytes i) then None
    else Some (fault OutOfTable (entry_place i))

-- the tables that each font has
abbrev pub needed : List ℕ
needed = HEAD ∷ MAXP ∷ HHEA ∷ HMTX ∷ LOCA ∷ GLYF ∷ []

abbrev pub missing_table : List ℕ → Option FontFault
missing_table bytes = elim (position (λ tag. is_none (table_of bytes tag)) needed) [
  | Some k ↦ Some (fault NoTable k)
  | None ↦ None
]

abbrev pub table_fault : List ℕ → ℕ → Option FontFault
table_fault bytes count = elim (first_some (cut_table bytes) 0 count) [
  | Some cut ↦ Some cut
  | None ↦ missing_table bytes
]

-- The first fault. An entry that isn't within the file is at fault before any table is.
unfoldable pub font_fault : List ℕ → Option FontFault
font_fault bytes = if is_sfnt bytes then (
    if nat_lt (whole_entries bytes) (table_count bytes)
    then Some (fault OutOfTable (entry_place (whole_entries bytes)))
    else table_fault bytes (whole_entries bytes)) else Some (fault NotSfnt 0)

-- what a file is read as: itself, where it has no fault, and else its first one
abbrev pub ReadsAs : List ℕ → Result FontView FontFault → Type 0
ReadsAs bytes (Ok view) = (font_fault bytes ≡ None) × (view.bytes.now ≡ bytes)
ReadsAs bytes (Err e) = font_fault bytes ≡ Some e
