-- The tables `head`, `hhea`, `maxp` and `hmtx` as bytes, field by field (OpenType 1.9, the chapters
-- of these names).
use Rattle.std.specs.Prelude.{◌≡◌, ℕ, ◌+◌, ◌*◌, ◌/◌, ◌≤◌, ℤ, pos, ◌-ℤ◌, List, [], ◌∷◌, ◌++◌, length}
use Rattle.std.specs.Prelude.{map, slice_index_or, slice_get, Option, None, Some}
use Rattle.std.specs.Int.{w16, saturate_signed}
use Rattle.std.specs.Option.{option_map_or}
use Rattle.refusal_codes.specs.declared.limits.TheConstants.{GLYPHS}
use Rattle.table_bytes.specs.DataTypes.{uint16, uint32, int16, long_date_time}
use Rattle.font_ir.specs.declared.header.Header.{Header}
use Rattle.font_ir.specs.declared.header.Master.{Master}
use Rattle.font_ir.specs.Extremes.{least, greatest}
use Rattle.metrics_tables.specs.declared.measures.Measures.{Measures}
use Rattle.metrics_tables.specs.Comparisons.{greatest_count}

-- version 1.0, as two halves or as a number in 16.16
abbrev pub version_1 : List ℕ
version_1 = uint32 0x00010000

-- ---- what the measures say of all glyphs

-- the bounds of the glyphs that have a point
abbrev pub boxes_of : List (Option (List ℤ)) → List (List ℤ)
boxes_of [] = []
boxes_of (None ∷ others) = boxes_of others
boxes_of (Some box ∷ others) = box ∷ boxes_of others

abbrev pub side : ℕ → List (List ℤ) → List ℤ
side k boxes = map (λ box. slice_index_or box k (pos 0)) boxes

-- the advance less xMax of the glyphs with points
abbrev pub right_bearings : List ℕ → List (Option (List ℤ)) → List ℤ
right_bearings (advance ∷ advances) (Some box ∷ bounds) =
    (pos advance -ℤ slice_index_or box 2 (pos 0)) ∷ right_bearings advances bounds
right_bearings (advance ∷ advances) (None ∷ bounds) = right_bearings advances bounds
right_bearings _ _ = []

-- ---- the tables

-- the version in 16.16; the thousandths of the minor version are rounded down
abbrev pub font_revision : Header → ℕ
font_revision header = 65536 * header.major + 65536 * header.minor / 1000

unfoldable pub head_table : Header → Measures → List ℕ
head_table header measures =
    let checksum_adjustment : ℕ = 0 in
    let magic_number : ℕ = 0x5F0F3CF5 in
    -- the baseline is at y = 0, and the left side bearing at x = 0
    let flags : ℕ = 3 in
    let created : ℤ = pos 0 in
    let modified : ℤ = pos 0 in
    let mac_style : ℕ = 0 in
    let lowest_rec_ppem : ℕ = 6 in
    let font_direction_hint : ℤ = pos 2 in
    -- long offsets
    let index_to_loc_format : ℤ = pos 1 in
    let glyph_data_format : ℤ = pos 0 in
    version_1 ++ uint32 (font_revision header) ++ uint32 checksum_adjustment ++ uint32 magic_number
    ++ uint16 flags ++ uint16 header.upem ++ long_date_time created ++ long_date_time modified
    ++ int16 (least (side 0 (boxes_of measures.bounds)))
    ++ int16 (least (side 1 (boxes_of measures.bounds)))
    ++ int16 (greatest (side 2 (boxes_of measures.bounds)))
    ++ int16 (greatest (side 3 (boxes_of measures.bounds)))
    ++ uint16 mac_style ++ uint16 lowest_rec_ppem ++ int16 font_direction_hint
    ++ int16 index_to_loc_format ++ int16 glyph_data_format

-- what the default master says
abbrev pub of_origin : (Master → ℤ) → Header → ℤ
of_origin field header = option_map_or field (slice_get header.masters header.origin) (pos 0)

-- the nearest number that an int16 holds
abbrev pub cut : ℤ → ℤ
cut z = saturate_signed w16 z

unfoldable pub hhea_table : Header → Measures → List ℕ
hhea_table header measures =
    let ascender : ℤ = of_origin (λ m. m.ascender) header in
    let descender : ℤ = of_origin (λ m. m.descender) header in
    let line_gap : ℤ = pos 0 in
    let advance_width_max : ℕ = greatest_count measures.advances in
    let min_left_side_bearing : ℤ = least (side 0 (boxes_of measures.bounds)) in
    let min_right_side_bearing : ℤ = least (right_bearings measures.advances measures.bounds) in
    let x_max_extent : ℤ = greatest (side 2 (boxes_of measures.bounds)) in
    let caret_slope_rise : ℤ = pos 1 in
    let caret_slope_run : ℤ = pos 0 in
    let caret_offset : ℤ = pos 0 in
    let reserved : ℤ = pos 0 in
    let metric_data_format : ℤ = pos 0 in
    let number_of_h_metrics : ℕ = length measures.advances in
    version_1 ++ int16 ascender ++ int16 descender ++ int16 line_gap ++ uint16 advance_width_max
    ++ int16 (cut min_left_side_bearing) ++ int16 (cut min_right_side_bearing)
    ++ int16 (cut x_max_extent)
    ++ int16 caret_slope_rise ++ int16 caret_slope_run ++ int16 caret_offset
    ++ int16 reserved ++ int16 reserved ++ int16 reserved ++ int16 reserved
    ++ int16 metric_data_format ++ uint16 number_of_h_metrics

unfoldable pub maxp_table : Measures → List ℕ
maxp_table measures =
    let num_glyphs : ℕ = length measures.advances in
    let max_zones : ℕ = 2 in
    let max_twilight_points : ℕ = 0 in
    let max_storage : ℕ = 0 in
    let max_function_defs : ℕ = 0 in
    let max_instruction_defs : ℕ = 0 in
    let max_stack_elements : ℕ = 0 in
    let max_size_of_instructions : ℕ = 0 in
    version_1 ++ uint16 num_glyphs ++ uint16 measures.maxima.points
    ++ uint16 measures.maxima.contours
    ++ uint16 measures.maxima.composite_points ++ uint16 measures.maxima.composite_contours
    ++ uint16 max_zones ++ uint16 max_twilight_points ++ uint16 max_storage
    ++ uint16 max_function_defs
    ++ uint16 max_instruction_defs ++ uint16 max_stack_elements ++ uint16 max_size_of_instructions
    ++ uint16 measures.maxima.components ++ uint16 measures.maxima.depth

-- the left side bearing of a glyph: xMin; 0 without points
abbrev pub left_bearing : Option (List ℤ) → ℤ
left_bearing None = pos 0
left_bearing (Some box) = slice_index_or box 0 (pos 0)

-- an advance and a left side bearing for each glyph
abbrev pub metric_records : List ℕ → List (Option (List ℤ)) → List ℕ
metric_records (advance ∷ advances) (box ∷ bounds) = uint16 advance ++ int16 (left_bearing box)
    ++ metric_records advances bounds
metric_records _ _ = []

abbrev pub hmtx_table : Measures → List ℕ
hmtx_table measures = metric_records measures.advances measures.bounds

-- ---- conditions

-- what measuring answers: at most 65,535 advances, and bounds for each
pub record AreMeasures (measures : Measures) : Type 0 where
  pub few : length measures.advances ≤ GLYPHS
  pub as_many_bounds : length measures.bounds ≡ length measures.advances
