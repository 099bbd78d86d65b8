-- Fields of a font's tables (OpenType 1.9, "Data types"): numbers whose highest byte comes first.
-- `bytes` are those of the whole file, and a place in it counts from 0.
use Rattle.std.specs.Prelude.{ℕ, ℤ, ◌+◌, ◌*◌, ◌≤◌, List, length, Result, Ok, Err, slice_index_or}
use Rattle.std.specs.Prelude.{nat_le, if◌then◌else◌}
use Rattle.std.specs.Int.{w8, w16, cast_signed}
use Rattle.font_reader.specs.declared.faults.FontFault.{FontFault}
use Rattle.font_reader.specs.declared.faults.FaultKind.{FaultKind}
use Rattle.font_reader.specs.declared.faults.FaultKind.TheVariants.{OutOfTable}
use Rattle.font_reader.specs.declared.fields.Table.{Table}

-- a value or a fault, handed on to what comes after it
infixl 10 ◌>>=◌
abbrev pub ◌>>=◌ : {A B : Type 0} → Result A FontFault → (A → Result B FontFault)
    → Result B FontFault
(Ok x) >>= f = f x
(Err e) >>= f = Err e

abbrev pub fault : FaultKind → ℕ → FontFault
fault kind place = record { place = place; kind = kind }

-- ---- at a place of the file

abbrev pub byte_at : List ℕ → ℕ → ℕ
byte_at bytes place = slice_index_or bytes place 0

unfoldable pub u16_at : List ℕ → ℕ → ℕ
u16_at bytes place = byte_at bytes place * 256 + byte_at bytes (place + 1)

unfoldable pub u32_at : List ℕ → ℕ → ℕ
u32_at bytes place = u16_at bytes place * 65536 + u16_at bytes (place + 2)

abbrev pub i16_at : List ℕ → ℕ → ℤ
i16_at bytes place = cast_signed w16 (u16_at bytes place)

-- ---- at a place of a table

-- the table lies within the file
abbrev pub IsWithin : List ℕ → Table → Type 0
IsWithin bytes table = table.offset + table.length ≤ length bytes

-- a field of so many bytes, which lies within its table
abbrev pub read : {X : Type 0} → ℕ → (List ℕ → ℕ → X) → List ℕ → Table → ℕ → Result X FontFault
read width value bytes table at =
    if nat_le (at + width) table.length then Ok (value bytes (table.offset + at))
    else Err (fault OutOfTable (table.offset + at))

unfoldable pub read_byte : List ℕ → Table → ℕ → Result ℕ FontFault
read_byte bytes table at = read 1 byte_at bytes table at

-- a byte with a sign
unfoldable pub read_i8 : List ℕ → Table → ℕ → Result ℤ FontFault
read_i8 bytes table at = read 1 (λ all place. cast_signed w8 (byte_at all place)) bytes table at

unfoldable pub read_u16 : List ℕ → Table → ℕ → Result ℕ FontFault
read_u16 bytes table at = read 2 u16_at bytes table at

unfoldable pub read_i16 : List ℕ → Table → ℕ → Result ℤ FontFault
read_i16 bytes table at = read 2 i16_at bytes table at

unfoldable pub read_u32 : List ℕ → Table → ℕ → Result ℕ FontFault
read_u32 bytes table at = read 4 u32_at bytes table at
