-- The name of a glyph (OpenType 1.9, "post", version 2.0): a number for each glyph, and then the
-- names that have the numbers from 258 on, each a byte with its length and so many bytes.
use Rattle.std.specs.Prelude.{◌≡◌, ◌≤◌, ℕ, ◌+◌, ◌-◌, ◌*◌, List, Option, Some, None, Result, Ok, Err}
use Rattle.std.specs.Prelude.{nat_eq, nat_lt, nat_le, if◌then◌else◌, slice_range, codes, length}
use denote.Ref.{Bor}
use Rattle.font_reader.specs.declared.directory.TheConstants.{POST}
use Rattle.font_reader.specs.declared.faults.FontFault.{FontFault}
use Rattle.font_reader.specs.declared.faults.FaultKind.TheVariants.{BadFormat, NoPoint, OutOfTable}
use Rattle.font_reader.specs.declared.fields.Table.{Table}
use Rattle.font_reader.specs.declared.names.Span.{Span}
use Rattle.font_reader.specs.Fields.{◌>>=◌, fault, read_byte, read_u16}
use Rattle.font_reader.specs.Fold.{folded}
use Rattle.font_reader.specs.Versions.{expect_u32, glyph_among, required}

-- the place after a name
unfoldable pub after_name : List ℕ → Table → ℕ → ℕ → Result ℕ FontFault
after_name bytes post i at = do
  size ← read_byte bytes post at
  Ok (at + 1 + size)

-- where a name's bytes lie in the file
unfoldable pub name_span : List ℕ → Table → ℕ → Result Span FontFault
name_span bytes post at = do
  size ← read_byte bytes post at
  (if nat_le (at + 1 + size) post.length
      then Ok (record { start = post.offset + at + 1; end = post.offset + at + 1 + size })
      else Err (fault OutOfTable (post.offset + at + 1)))

-- the name after so many others
unfoldable pub name_after : List ℕ → Table → ℕ → ℕ → Result Span FontFault
name_after bytes post first others = do
  at ← folded (after_name bytes post) 0 others first
  name_span bytes post at

-- where the name of a number is, the names beginning at `first`: the number 0 is that of .notdef
abbrev pub numbered : List ℕ → Table → ℕ → ℕ → ℕ → Result (Option Span) FontFault
numbered bytes post first at number =
    if nat_eq number 0 then Ok None else (if nat_lt number 258
    then Err (fault BadFormat (post.offset + at))
    else (name_after bytes post first (number - 258) >>= λ span. Ok (Some span)))

unfoldable pub name_in : List ℕ → Table → ℕ → Result (Option Span) FontFault
name_in bytes post gid = do
  version ← expect_u32 bytes post 0 131072
  count ← read_u16 bytes post 32
  (if nat_le count gid then Err (fault NoPoint gid) else
      (read_u16 bytes post (34 + 2 * gid) >>= numbered bytes post (34 + 2 * count) (34 + 2 * gid)))

unfoldable pub name_place : List ℕ → ℕ → Result (Option Span) FontFault
name_place bytes gid = do
  count ← glyph_among bytes gid
  post ← required bytes POST 6
  name_in bytes post gid

abbrev pub name_at : List ℕ → Option Span → List ℕ
name_at bytes None = codes ".notdef"
name_at bytes (Some span) = slice_range bytes span.start span.end

abbrev pub name_of : List ℕ → ℕ → Result (List ℕ) FontFault
name_of bytes gid = name_place bytes gid >>= λ place. Ok (name_at bytes place)

-- the bytes lie within the file
abbrev pub LiesIn : List ℕ → Option Span → Type 0
LiesIn bytes None = Unit {0}
LiesIn bytes (Some span) = (span.start ≤ span.end) × (span.end ≤ length bytes)

-- a call's answer is what the definition gives
abbrev pub IsNamed : Result (Bor (List ℕ)) FontFault → Result (List ℕ) FontFault → Type 0
IsNamed (Ok name) definition = definition ≡ Ok name.now
IsNamed (Err e) definition = definition ≡ Err e
