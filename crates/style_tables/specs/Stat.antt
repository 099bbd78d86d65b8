-- The table "STAT" as bytes, field by field (OpenType 1.9, "STAT"). The axes are numbered in their
-- order; that all axis values have format 1 is fontc's own.
use Rattle.std.specs.Prelude.{ℕ, ◌+◌, ◌*◌, List, [], ◌∷◌, ◌++◌, length}
use Rattle.std.specs.List.{flat_map}
use Rattle.table_bytes.specs.DataTypes.{uint16, uint32}
use Rattle.font_ir.specs.declared.header.Axis.{Axis}
use Rattle.font_ir.specs.declared.header.Header.{Header}
use Rattle.name_tables.specs.Fvar.{fixed}
use Rattle.name_tables.specs.NameIds.{axis_name_id}
use Rattle.style_tables.specs.declared.axis_values.AxisValue.{AxisValue}
use Rattle.style_tables.specs.AxisValues.{style_name_id, values_of}

-- an AxisRecord
unfoldable pub axis_record : ℕ → Axis → List ℕ
axis_record i axis =
    let axis_ordering : ℕ = i in
    axis.tag.0 ++ uint16 (axis_name_id i) ++ uint16 axis_ordering

-- those of the axes from the i-th on
abbrev pub axis_records : ℕ → List Axis → List ℕ
axis_records i [] = []
axis_records i (axis ∷ axes) = axis_record i axis ++ axis_records (i + 1) axes

-- an AxisValueFormat1
unfoldable pub axis_value : AxisValue → List ℕ
axis_value value =
    let format : ℕ = 1 in
    uint16 format ++ uint16 value.axis ++ uint16 value.flags ++ uint16 value.name
    ++ fixed value.user.0

-- where the i-th axis value stands behind so many offsets: each value has 12 bytes. The offset
-- counts from the first of the offsets.
abbrev pub value_offset : ℕ → ℕ → ℕ
value_offset count i = 2 * count + 12 * i

-- those of the axis values from the i-th on
abbrev pub value_offsets : ℕ → ℕ → List AxisValue → List ℕ
value_offsets count i [] = []
value_offsets count i (value ∷ values) = uint16 (value_offset count i)
    ++ value_offsets count (i + 1) values

-- the axis values behind their offsets
unfoldable pub value_array : List AxisValue → List ℕ
value_array values = value_offsets (length values) 0 values ++ flat_map axis_value values

-- where the axes stand, behind the fields before them
unfoldable pub axis_fields : ℕ → List ℕ
axis_fields design_axis_count =
    let design_axis_size : ℕ = 8 in
    let design_axes_offset : ℕ = 20 in
    uint16 design_axis_size ++ uint16 design_axis_count ++ uint32 design_axes_offset

-- where the offsets of the values stand, behind the axes
unfoldable pub value_fields : ℕ → ℕ → List ℕ
value_fields design_axis_count axis_value_count =
    let offset_to_axis_value_offsets : ℕ = 20 + 8 * design_axis_count in
    uint16 axis_value_count ++ uint32 offset_to_axis_value_offsets

unfoldable pub stat_head : ℕ → ℕ → List ℕ
stat_head design_axis_count axis_value_count =
    let major_version : ℕ = 1 in
    let minor_version : ℕ = 1 in
    let elided_fallback_name_id : ℕ = style_name_id in
    uint16 major_version ++ uint16 minor_version ++ axis_fields design_axis_count
    ++ value_fields design_axis_count axis_value_count ++ uint16 elided_fallback_name_id

unfoldable pub stat_table : Header → List ℕ
stat_table header =
    let values : List AxisValue = values_of header in
    stat_head (length header.axes) (length values) ++ axis_records 0 header.axes
    ++ value_array values
