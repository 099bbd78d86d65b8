-- The table "HVAR" as bytes, field by field (OpenType 1.9, "HVAR"): how each glyph's advance width
-- changes. A glyph's row has the glyph's number, so that no map leads to it; side bearings are not
-- told.
use Rattle.std.specs.Prelude.{◌≡◌, ℕ, ◌≤◌, List, ◌++◌, length}
use Rattle.std.specs.List.{All}
use Rattle.refusal_codes.specs.declared.limits.TheConstants.{REGIONS}
use Rattle.table_bytes.specs.DataTypes.{uint32}
use Rattle.font_ir.specs.declared.header.Header.{Header}
use Rattle.region_store.specs.Stores.{Store}
use Rattle.region_store.specs.Written.{store_bytes}
use Rattle.metrics_tables.specs.declared.measures.Measures.{Measures}
use Rattle.metrics_tables.specs.Tables.{version_1}

-- the glyphs' rows over the masters' regions behind the first and the others in which some advance
-- width changes
abbrev pub advance_store : Header → Measures → Store
advance_store header measures = record {
  axes = length header.axes;
  regions = measures.regions;
  rows = measures.rows;
}

unfoldable pub hvar_table : Header → Measures → List ℕ
hvar_table header measures =
    -- behind these fields
    let item_variation_store_offset : ℕ = 20 in
    let advance_width_mapping_offset : ℕ = 0 in
    let lsb_mapping_offset : ℕ = 0 in
    let rsb_mapping_offset : ℕ = 0 in
    version_1 ++ uint32 item_variation_store_offset ++ uint32 advance_width_mapping_offset
    ++ uint32 lsb_mapping_offset ++ uint32 rsb_mapping_offset
    ++ store_bytes (advance_store header measures)

-- what measuring answers for a header: a row for each glyph, with a change for each region, and not
-- too many regions, each with a side on each of the header's axes
pub record AreMeasuresFor (header : Header) (measures : Measures) : Type 0 where
  pub few_regions : length measures.regions ≤ REGIONS
  pub sides : All (λ region. length region.sides ≡ length header.axes) measures.regions
  pub one_row : length measures.rows ≡ length measures.advances
  pub deltas : All (λ row. length row ≡ length measures.regions) measures.rows
