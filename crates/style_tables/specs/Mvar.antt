-- The table "MVAR" as bytes, field by field (OpenType 1.9, "MVAR"): a record for each metric that
-- varies, and behind them the store of their rows, in which each record has a row of its own.
use Rattle.std.specs.Prelude.{◌≡◌, ℕ, ◌+◌, ◌*◌, List, [], ◌∷◌, ◌++◌, length, map, drop, nat_eq}
use Rattle.std.specs.Prelude.{if◌then◌else◌, Option, None, Some, Result, Ok, Err, Vec}
use Rattle.std.specs.declared.alloc.Global.{Global}
use Rattle.std.specs.Option.{option_map}
use Rattle.table_bytes.specs.DataTypes.{uint16}
use Rattle.font_ir.specs.declared.header.Header.{Header}
use Rattle.font_ir.specs.declared.variation.Region.{Region}
use Rattle.region_store.specs.Stores.{Store}
use Rattle.region_store.specs.Written.{store_bytes}
use Rattle.variation_model.specs.Supports.{supports_of}
use Rattle.variation_model.specs.declared.errors.DeltaError.{DeltaError}
use Rattle.style_tables.specs.declared.metrics.Metric.{Metric}
use Rattle.style_tables.specs.Metrics.{RefusesMetrics, all_metrics, first_large_of, rows_of, tag_of}
use Rattle.style_tables.specs.Metrics.{varied_metrics}

-- a ValueRecord: a metric's row in the only subtable of the store
unfoldable pub value_record : ℕ → Metric → List ℕ
value_record row metric =
    let delta_set_outer_index : ℕ = 0 in
    let delta_set_inner_index : ℕ = row in
    tag_of metric ++ uint16 delta_set_outer_index ++ uint16 delta_set_inner_index

-- those of the metrics whose rows begin with the i-th
abbrev pub value_records : ℕ → List Metric → List ℕ
value_records i [] = []
value_records i (metric ∷ metrics) = value_record i metric ++ value_records (i + 1) metrics

unfoldable pub mvar_head : ℕ → List ℕ
mvar_head value_record_count =
    let major_version : ℕ = 1 in
    let minor_version : ℕ = 0 in
    let reserved : ℕ = 0 in
    let value_record_size : ℕ = 8 in
    -- behind the records
    let item_variation_store_offset : ℕ = 12 + 8 * value_record_count in
    uint16 major_version ++ uint16 minor_version ++ uint16 reserved ++ uint16 value_record_size
    ++ uint16 value_record_count ++ uint16 item_variation_store_offset

-- the regions of the masters' model: the supports behind the first one, which is everywhere
abbrev pub regions_of : Header → List Region
regions_of header = drop 1 (supports_of (map (λ master. master.location) header.masters))

abbrev pub store_of : Header → List Metric → Store
store_of header metrics = record {
  axes = length header.axes;
  regions = regions_of header;
  rows = rows_of header metrics;
}

unfoldable pub mvar_bytes : List Metric → Store → List ℕ
mvar_bytes metrics store =
    mvar_head (length metrics) ++ value_records 0 metrics ++ store_bytes store

-- a font in which no metric varies has no such table
abbrev pub mvar_table : Header → Option (List ℕ)
mvar_table header =
    let metrics : List Metric = varied_metrics header in
    if nat_eq (length metrics) 0 then None else Some
    (mvar_bytes metrics (store_of header metrics))

-- the table is answered, if the font has one, where no delta is refused
abbrev pub GivesMvar : Result (Option (Vec ℕ Global)) DeltaError → Header → Type 0
GivesMvar (Ok table) header = (option_map (λ bytes. bytes.items) table ≡ mvar_table header)
    × (first_large_of header all_metrics ≡ None)
GivesMvar (Err e) header = RefusesMetrics e (first_large_of header all_metrics)
