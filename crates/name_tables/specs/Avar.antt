-- The table "avar" as bytes, field by field (OpenType 1.9, "avar").
use Rattle.std.specs.Prelude.{ℕ, ◌+◌, List, [], ◌∷◌, ◌++◌, length, Result, Ok, Err}
use Rattle.std.specs.List.{flat_map}
use Rattle.fixed_math.specs.declared.F2Dot14.{F2Dot14}
use Rattle.table_bytes.specs.DataTypes.{uint16, int16}
use Rattle.font_ir.specs.AxisMaps.{Pair}
use Rattle.font_ir.specs.declared.header.Axis.{Axis}
use Rattle.font_ir.specs.declared.header.Master.{Master}
use Rattle.font_ir.specs.declared.header.Header.{Header}
use Rattle.axis_space.specs.AxisPairs.{avar_pairs}

-- an AxisValueMap: the raw numbers in 2.14 of fromCoordinate and toCoordinate
unfoldable pub axis_value_map : Pair → List ℕ
axis_value_map pair = int16 pair.0.0 ++ int16 pair.1.0

-- the pairs of an axis in rising order
abbrev pub rising : Result (List Pair) F2Dot14 → List Pair
rising (Ok pairs) = pairs
rising (Err x) = []

abbrev pub pairs_on : List Master → ℕ → ℕ → List Pair
pairs_on masters origin axis = rising (avar_pairs masters origin axis)

-- a SegmentMaps record
unfoldable pub segment_map : List Pair → List ℕ
segment_map pairs = uint16 (length pairs) ++ flat_map axis_value_map pairs

-- those of the axes from the i-th on
abbrev pub segment_maps : Header → ℕ → List Axis → List ℕ
segment_maps header i [] = []
segment_maps header i (axis ∷ axes) =
    segment_map (pairs_on header.masters header.origin i) ++ segment_maps header (i + 1) axes

unfoldable pub avar_head : ℕ → List ℕ
avar_head axis_count =
    let major_version : ℕ = 1 in
    let minor_version : ℕ = 0 in
    let reserved : ℕ = 0 in
    uint16 major_version ++ uint16 minor_version ++ uint16 reserved ++ uint16 axis_count

unfoldable pub avar_table : Header → List ℕ
avar_table header = avar_head (length header.axes) ++ segment_maps header 0 header.axes
