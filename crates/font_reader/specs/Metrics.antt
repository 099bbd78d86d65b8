-- A metric of the whole font at a place of the design space, in 16.16 (OpenType 1.9, "OS/2" and
-- "MVAR"): the field of the first table, and the value of the row that the second one has for its
-- tag, if it has one.
use Rattle.std.specs.Prelude.{ℕ, ℤ, pos, ◌+◌, ◌*◌, ◌+ℤ◌, ◌*ℤ◌, List, length, Option, Some, None}
use Rattle.std.specs.Prelude.{Result, Ok, nat_eq, if◌then◌else◌}
use Rattle.fixed_math.specs.declared.F2Dot14.{F2Dot14}
use Rattle.font_reader.specs.declared.directory.TheConstants.{MVAR, OS2}
use Rattle.font_reader.specs.declared.faults.FontFault.{FontFault}
use Rattle.font_reader.specs.declared.fields.Table.{Table}
use Rattle.font_reader.specs.declared.metrics.Metric.{Metric}
use Rattle.font_reader.specs.declared.metrics.Metric.TheVariants.{CapHeight, Ascender, Descender}
use Rattle.font_reader.specs.declared.metrics.Metric.TheVariants.{XHeight}
use Rattle.font_reader.specs.Directory.{table_of}
use Rattle.font_reader.specs.Fields.{◌>>=◌, read_i16, read_u16, read_u32}
use Rattle.font_reader.specs.Search.{first_found}
use Rattle.font_reader.specs.Stores.{store_value}
use Rattle.font_reader.specs.Versions.{axes_for, expect_u16, expect_u32, required}

-- where OS/2 has it: sCapHeight, sTypoAscender, sTypoDescender, sxHeight
unfoldable pub metric_field : Metric → ℕ
metric_field CapHeight = 88
metric_field Ascender = 68
metric_field Descender = 70
metric_field XHeight = 86

-- the tag of its row: cpht, hasc, hdsc, xhgt
unfoldable pub metric_tag : Metric → ℕ
metric_tag CapHeight = 1668311156
metric_tag Ascender = 1751216995
metric_tag Descender = 1751413603
metric_tag XHeight = 2020108148

-- version 4
unfoldable pub stored_metric : List ℕ → Metric → Result ℤ FontFault
stored_metric bytes metric = do
  table ← required bytes OS2 7
  version ← expect_u16 bytes table 0 4
  read_i16 bytes table (metric_field metric)

-- ValueRecord: the value of its row, if it is that of the tag
unfoldable pub value_in_record : List ℕ → Table → ℕ → ℕ → List F2Dot14 → ℕ
    → Result (Option ℤ) FontFault
value_in_record bytes mvar store tag place i = do
  value_tag ← read_u32 bytes mvar (12 + 8 * i)
  outer ← read_u16 bytes mvar (16 + 8 * i)
  inner ← read_u16 bytes mvar (18 + 8 * i)
  (if nat_eq value_tag tag
      then (store_value bytes mvar store outer inner place >>= λ value. Ok (Some value))
      else Ok None)

abbrev pub found_delta : Option ℤ → ℤ
found_delta (Some value) = value
found_delta None = pos 0

-- version 1.0, with records of 8 bytes; the first record of the tag counts
unfoldable pub metric_delta_in : List ℕ → Table → ℕ → List F2Dot14 → Result ℤ FontFault
metric_delta_in bytes mvar tag place = do
  version ← expect_u32 bytes mvar 0 65536
  size ← expect_u16 bytes mvar 6 8
  count ← read_u16 bytes mvar 8
  store ← read_u16 bytes mvar 10
  (if nat_eq store 0 then Ok (pos 0) else
      (first_found (value_in_record bytes mvar store tag place) 0 count >>= λ found.
      Ok (found_delta found)))

unfoldable pub metric_delta : List ℕ → ℕ → List F2Dot14 → Result ℤ FontFault
metric_delta bytes tag place = elim (table_of bytes MVAR) [
  | Some mvar ↦ metric_delta_in bytes mvar tag place
  | None ↦ Ok (pos 0)
]

unfoldable pub metric_at : List ℕ → Metric → List F2Dot14 → Result ℤ FontFault
metric_at bytes metric place = do
  axes ← axes_for bytes (length place)
  stored ← stored_metric bytes metric
  delta ← metric_delta bytes (metric_tag metric) place
  Ok ((stored *ℤ pos 65536) +ℤ delta)
