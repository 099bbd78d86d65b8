-- The value of a row of an item variation store at a place of the design space (OpenType 1.9, "Font
-- variations common table formats", "Item variation stores"), in 16.16: the sum, over the regions
-- of the row, of the region's scalar times its delta.
use Rattle.std.specs.Prelude.{ℕ, ℤ, pos, ◌+◌, ◌*◌, ◌^◌, ◌<◌, ◌+ℤ◌, ◌*ℤ◌, List, length, Result, Ok}
use Rattle.std.specs.Prelude.{Err}
use Rattle.std.specs.Prelude.{nat_lt, nat_le, ◌||◌, if◌then◌else◌, slice_index_or}
use Rattle.fixed_math.specs.declared.F2Dot14.{F2Dot14}
use Rattle.fixed_math.specs.declared.Fixed.{Fixed}
use Rattle.fixed_math.specs.FixedPoint.{product}
use Rattle.font_ir.specs.Places.{zero_number}
use Rattle.variation_model.specs.Scalar.{axis_scalar}
use Rattle.font_reader.specs.declared.faults.FontFault.{FontFault}
use Rattle.font_reader.specs.declared.faults.FaultKind.TheVariants.{BadFormat}
use Rattle.font_reader.specs.declared.fields.Table.{Table}
use Rattle.font_reader.specs.declared.stores.Row.{Row}
use Rattle.font_reader.specs.Fields.{◌>>=◌, fault, read_i16, read_i8, read_u16, read_u32}
use Rattle.font_reader.specs.Fold.{folded}
use Rattle.font_reader.specs.Versions.{expect_u16}

-- ---- the scalar of a region, whose coordinates are at a place of the table

-- RegionAxisCoordinates: the start, the peak and the end on an axis
unfoldable pub region_side : List ℕ → Table → ℕ → Result (F2Dot14 × F2Dot14 × F2Dot14) FontFault
region_side bytes table at = do
  start ← read_i16 bytes table at
  peak ← read_i16 bytes table (at + 2)
  end ← read_i16 bytes table (at + 4)
  Ok (record { 0 = start }, record { 0 = peak }, record { 0 = end })

abbrev pub coordinate : List F2Dot14 → ℕ → F2Dot14
coordinate place i = slice_index_or place i zero_number

-- with one more axis
unfoldable pub with_axis : List ℕ → Table → ℕ → List F2Dot14 → ℕ → Fixed → Result Fixed FontFault
with_axis bytes table region place i before = do
  side ← region_side bytes table (region + 6 * i)
  Ok (record { 0 = product before.0 (axis_scalar side (coordinate place i)) })

abbrev pub one : Fixed
one = record { 0 = pos 65536 }

unfoldable pub region_scalar : List ℕ → Table → ℕ → List F2Dot14 → Result Fixed FontFault
region_scalar bytes table region place =
    folded (with_axis bytes table region place) 0 (length place) one

-- ---- a row

-- its places are small enough to be added up
abbrev pub IsNear : Row → Type 0
IsNear row = (row.regions < 2 ^ 40) × (row.indexes < 2 ^ 40) × (row.deltas < 2 ^ 40)
    × (row.words < 65536)

-- its delta for a region: the first ones are words, and the others bytes
unfoldable pub row_delta : List ℕ → Table → Row → ℕ → Result ℤ FontFault
row_delta bytes table row i = if nat_lt i row.words
    then read_i16 bytes table (row.deltas + 2 * i)
    else read_i8 bytes table (row.deltas + row.words + i)

-- the number of its region, which has to be one of the list
unfoldable pub row_region : List ℕ → Table → Row → ℕ → Result ℕ FontFault
row_region bytes table row i = do
  region ← read_u16 bytes table (row.indexes + 2 * i)
  (if nat_lt region row.known then Ok region
      else Err (fault BadFormat (table.offset + (row.indexes + 2 * i))))

-- the sum with one more region
unfoldable pub with_region : List ℕ → Table → Row → List F2Dot14 → ℕ → ℤ → Result ℤ FontFault
with_region bytes table row place i sum = do
  region ← row_region bytes table row i
  scalar ← region_scalar bytes table (row.regions + 6 * length place * region) place
  delta ← row_delta bytes table row i
  Ok (sum +ℤ (scalar.0 *ℤ delta))

-- VariationRegionList at `list`, with as many axes as the place has coordinates
unfoldable pub known_regions : List ℕ → Table → ℕ → ℕ → Result ℕ FontFault
known_regions bytes table list axes = do
  same ← expect_u16 bytes table list axes
  read_u16 bytes table (list + 2)

-- ItemVariationData at `data_at`: the row of this number, with so many words and regions
unfoldable pub row_sum : List ℕ → Table → ℕ → ℕ → ℕ → ℕ → ℕ → List F2Dot14 → Result ℤ FontFault
row_sum bytes table list data_at inner words regions place = do
  known ← known_regions bytes table list (length place)
  folded (with_region bytes table (record {
    regions = list + 4;
    indexes = data_at + 6;
    deltas = data_at + 6 + 2 * regions + (words + regions) * inner;
    words = words;
    known = known;
  }) place) 0 regions (pos 0)

-- a row that isn't there is 0
unfoldable pub row_value : List ℕ → Table → ℕ → ℕ → ℕ → List F2Dot14 → Result ℤ FontFault
row_value bytes table list data_at inner place = do
  items ← read_u16 bytes table data_at
  words ← read_u16 bytes table (data_at + 2)
  regions ← read_u16 bytes table (data_at + 4)
  (if nat_lt regions words || nat_le 32768 words
      then Err (fault BadFormat (table.offset + (data_at + 2)))
      else (if nat_le items inner then Ok (pos 0)
      else row_sum bytes table list data_at inner words regions place))

-- ItemVariationStore at `store`: the row `inner` of the data `outer`
unfoldable pub store_value : List ℕ → Table → ℕ → ℕ → ℕ → List F2Dot14 → Result ℤ FontFault
store_value bytes table store outer inner place = do
  format ← expect_u16 bytes table store 1
  list ← read_u32 bytes table (store + 2)
  count ← read_u16 bytes table (store + 6)
  (if nat_le count outer then Ok (pos 0) else
      (read_u32 bytes table (store + 8 + 4 * outer) >>= λ data_at.
      row_value bytes table (store + list) (store + data_at) inner place))
