-- What a reader finds in a font file by its directory (OpenType 1.9, "Organization of an OpenType
-- Font", "Table Directory").
use Rattle.std.specs.Prelude.{◌≡◌, ℕ, ◌+◌, ◌*◌, ◌%◌, List, length, take, drop}
use Rattle.std.specs.List.{All}
use Rattle.std.specs.Int.{w32, from_be_bytes}
use Rattle.font_assembly.specs.Checksum.{checksum}
use Rattle.font_assembly.specs.File.{Table, unadjusted, HasHead}

-- tables with tags of four bytes, 'head' of 54 bytes among them
pub record AreTables (tables : List Table) : Type 0 where
  pub tags : All (λ table. length table.tag ≡ 4) tables
  pub head : HasHead tables

-- so many bytes from a place on
abbrev pub bytes_at : List ℕ → ℕ → ℕ → List ℕ
bytes_at file place count = take count (drop place file)

-- the number in the four bytes from a place on
abbrev pub uint32_at : List ℕ → ℕ → ℕ
uint32_at file place = from_be_bytes w32 (bytes_at file place 4)

-- the parts of the directory's k-th record, counted from 0
abbrev pub tag_at : List ℕ → ℕ → List ℕ
tag_at file k = bytes_at file (12 + 16 * k) 4

abbrev pub checksum_at : List ℕ → ℕ → ℕ
checksum_at file k = uint32_at file (16 + 16 * k)

abbrev pub offset_at : List ℕ → ℕ → ℕ
offset_at file k = uint32_at file (20 + 16 * k)

abbrev pub length_at : List ℕ → ℕ → ℕ
length_at file k = uint32_at file (24 + 16 * k)

-- the table to which the k-th record leads: so many bytes as its length says, from its offset on
abbrev pub table_at : List ℕ → ℕ → Table
table_at file k = record {
  tag = tag_at file k;
  bytes
      = bytes_at file (offset_at file k) (length_at file k);
}

-- The k-th record leads to a table, at a multiple of four, and has its checksum. Of 'head' all but
-- the checksumAdjustment is the same there.
pub record LeadsTo (file : List ℕ) (k : ℕ) (table : Table) : Type 0 where
  pub tag : tag_at file k ≡ table.tag
  pub sum : checksum_at file k ≡ checksum (unadjusted table)
  pub aligned : offset_at file k % 4 ≡ 0
  pub len : length_at file k ≡ length table.bytes
  pub bytes : unadjusted (table_at file k) ≡ unadjusted table
