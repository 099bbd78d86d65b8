-- A font file: its directory, and its tables one after another (OpenType 1.9, "Organization of an
-- OpenType Font" and "head"). It is stated over the whole file: the file with 0 as its
-- checksumAdjustment, whose checksum gives the checksumAdjustment that stands in its place.
use Rattle.std.specs.Prelude.{◌≡◌, ℕ, zero, suc, ◌+◌, ◌-◌, ◌*◌, ◌%◌, ◌^◌, Bool, nat_eq, nat_le, not}
use Rattle.std.specs.Prelude.{◌||◌, if◌then◌else◌, IsTrue, List, [], ◌∷◌, ◌++◌, length, take, drop}
use Rattle.std.specs.Prelude.{codes}
use Rattle.std.specs.List.{flat_map, list_any, list_all}
use Rattle.std.specs.Cmp.Lexicographic.{pointwise, slice_cmp}
use Rattle.std.specs.Ordering.{nat_cmp}
use Rattle.std.specs.declared.cmp.Ordering.{Ordering}
use Rattle.table_bytes.specs.DataTypes.{uint16, uint32, padding, padded}
use Rattle.font_assembly.specs.Checksum.{checksum}

-- a table: its tag's four bytes, and its bytes
pub record Table : Type 0 where
  pub tag : List ℕ
  pub bytes : List ℕ

-- ---- the directory's head

-- the greatest of the numbers up to a bound whose power of two is at most n
abbrev pub greatest_power : ℕ → ℕ → ℕ
greatest_power zero n = 0
greatest_power (suc k) n = if nat_le (2 ^ suc k) n then suc k else greatest_power k n

-- the binary logarithm of a count of at most 65,535, rounded down
unfoldable pub entry_selector : ℕ → ℕ
entry_selector n = greatest_power 15 n

abbrev pub search_range : ℕ → ℕ
search_range n = 16 * 2 ^ entry_selector n

-- version 1.0, the count of tables, searchRange, entrySelector, rangeShift
unfoldable pub directory_head : ℕ → List ℕ
directory_head n =
    uint32 0x00010000 ++ uint16 n ++ uint16 (search_range n)
    ++ uint16 (entry_selector n) ++ uint16 (16 * n - search_range n)

-- ---- the tables

abbrev pub is_head : Table → Bool
is_head t = pointwise nat_eq t.tag (codes "head")

-- a table's bytes; those of 'head' with 0 as checksumAdjustment, its bytes 8 to 11
abbrev pub unadjusted : Table → List ℕ
unadjusted t =
    if is_head t then take 8 t.bytes ++ (0 ∷ 0 ∷ 0 ∷ 0 ∷ []) ++ drop 12 t.bytes else t.bytes

-- how many bytes a table takes in the file
abbrev pub room_of : Table → ℕ
room_of t = length t.bytes + padding (length t.bytes)

abbrev pub room_of_all : List Table → ℕ
room_of_all [] = 0
room_of_all (t ∷ ts) = room_of t + room_of_all ts

-- a table's record in the directory: tag, checksum, offset, length
unfoldable pub directory_entry : Table → ℕ → List ℕ
directory_entry t offset =
    t.tag ++ uint32 (checksum (unadjusted t)) ++ uint32 offset ++ uint32 (length t.bytes)

-- the records of tables that stand one after another from an offset on
abbrev pub directory_entries : List Table → ℕ → List ℕ
directory_entries [] offset = []
directory_entries (t ∷ ts) offset = directory_entry t offset
    ++ directory_entries ts (offset + room_of t)

-- the padded tables, one after another
abbrev pub bodies : List Table → List ℕ
bodies ts = flat_map (λ t. padded (unadjusted t)) ts

-- ---- the file

-- where the first table begins
abbrev pub first_offset : List Table → ℕ
first_offset ts = 12 + 16 * length ts

-- where 'head' begins, of tables that stand from an offset on
abbrev pub head_offset : List Table → ℕ → ℕ
head_offset [] offset = offset
head_offset (t ∷ ts) offset = if is_head t then offset else head_offset ts (offset + room_of t)

-- the file with 0 as its checksumAdjustment
unfoldable pub unadjusted_file : List Table → List ℕ
unadjusted_file ts = directory_head (length ts) ++ directory_entries ts (first_offset ts)
    ++ bodies ts

-- what is missing from the file's checksum to 0xB1B0AFBA
abbrev pub adjustment : List ℕ → ℕ
adjustment file = (0xB1B0AFBA + (2 ^ 32 - checksum file)) % 2 ^ 32

-- bytes in which the four bytes at an offset are these of a number
abbrev pub with_word : List ℕ → ℕ → ℕ → List ℕ
with_word bytes offset n = take offset bytes ++ uint32 n ++ drop (offset + 4) bytes

-- the file: the file with 0, and the adjustment written into its place in 'head'
unfoldable pub file : List Table → List ℕ
file ts =
    with_word (unadjusted_file ts) (head_offset ts (first_offset ts) + 8)
    (adjustment (unadjusted_file ts))

abbrev pub file_len : List Table → ℕ
file_len ts = first_offset ts + room_of_all ts

-- ---- which tables make a file

abbrev pub TagsRise : List Table → Type 0
TagsRise [] = Unit {0}
TagsRise (t ∷ []) = Unit {0}
TagsRise (t ∷ u ∷ ts) = (slice_cmp nat_cmp t.tag u.tag ≡ Ordering.Less) × TagsRise (u ∷ ts)

-- a table has 54 bytes if it is 'head'
abbrev pub fits_head : Table → Bool
fits_head t = not (is_head t) || nat_eq (length t.bytes) 54

-- 'head' is among the tables, and has 54 bytes
abbrev pub HasHead : List Table → Type 0
HasHead ts = IsTrue (list_any is_head ts) × IsTrue (list_all fits_head ts)
