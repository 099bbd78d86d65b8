-- The table "fvar" as bytes, field by field (OpenType 1.9, "fvar").
use Rattle.std.specs.Prelude.{ℕ, ◌+◌, ◌*◌, ℤ, List, [], ◌∷◌, ◌++◌, length}
use Rattle.std.specs.Int.{w32, cast_unsigned}
use Rattle.fixed_math.specs.declared.Fixed.{Fixed}
use Rattle.table_bytes.specs.DataTypes.{uint16, uint32}
use Rattle.font_ir.specs.Coordinates.{coordinates_on, default_on}
use Rattle.font_ir.specs.Extremes.{least, greatest}
use Rattle.font_ir.specs.declared.header.Axis.{Axis}
use Rattle.font_ir.specs.declared.header.CoordinateScale.TheVariants.{User}
use Rattle.font_ir.specs.declared.header.Instance.{Instance}
use Rattle.font_ir.specs.declared.header.Master.{Master}
use Rattle.font_ir.specs.declared.header.Header.{Header}
use Rattle.axis_space.specs.Points.{points_of, user_at}
use Rattle.name_tables.specs.NameIds.{axis_name_id, instance_name_id}

-- a number in 16.16, by its raw number (OpenType 1.9, "Data types", Fixed)
abbrev pub fixed : ℤ → List ℕ
fixed raw = uint32 (cast_unsigned w32 raw)

-- where an axis begins, where its default is and where it ends
unfoldable pub scale_fields : ℤ → ℤ → ℤ → List ℕ
scale_fields min_value default_value max_value =
    fixed min_value ++ fixed default_value ++ fixed max_value

-- those of an axis, by the masters' user coordinates
abbrev pub axis_scale : List Master → ℕ → ℕ → List ℕ
axis_scale masters origin axis =
    let users : List ℤ = coordinates_on User axis masters in
    scale_fields (least users) (default_on User origin axis masters) (greatest users)

-- a VariationAxisRecord
unfoldable pub axis_record : Header → ℕ → Axis → List ℕ
axis_record header i axis =
    let flags : ℕ = 0 in
    axis.tag.0 ++ axis_scale header.masters header.origin i ++ uint16 flags
    ++ uint16 (axis_name_id i)

-- those of the axes from the i-th on
abbrev pub axis_records : Header → ℕ → List Axis → List ℕ
axis_records header i [] = []
axis_records header i (axis ∷ axes) = axis_record header i axis ++ axis_records header (i + 1) axes

-- the user coordinates of a place, given by its design coordinates from the i-th axis on
abbrev pub user_coordinates : List Master → ℕ → List Fixed → List ℕ
user_coordinates masters i [] = []
user_coordinates masters i (design ∷ designs) =
    fixed (user_at (points_of masters i) design.0) ++ user_coordinates masters (i + 1) designs

-- an InstanceRecord
unfoldable pub instance_record : Header → ℕ → Instance → List ℕ
instance_record header i instance =
    let flags : ℕ = 0 in
    uint16 (instance_name_id header i) ++ uint16 flags
    ++ user_coordinates header.masters 0 instance.design

-- those of the instances from the i-th on
abbrev pub instance_records : Header → ℕ → List Instance → List ℕ
instance_records header i [] = []
instance_records header i (instance ∷ instances) = instance_record header i instance
    ++ instance_records header (i + 1) instances

-- how the records are laid out
unfoldable pub array_sizes : ℕ → ℕ → List ℕ
array_sizes axis_count instance_count =
    let axis_size : ℕ = 20 in
    let instance_size : ℕ = 4 + 4 * axis_count in
    uint16 axis_count ++ uint16 axis_size ++ uint16 instance_count ++ uint16 instance_size

unfoldable pub fvar_head : ℕ → ℕ → List ℕ
fvar_head axis_count instance_count =
    let major_version : ℕ = 1 in
    let minor_version : ℕ = 0 in
    let axes_array_offset : ℕ = 16 in
    let reserved : ℕ = 2 in
    uint16 major_version ++ uint16 minor_version ++ uint16 axes_array_offset ++ uint16 reserved
    ++ array_sizes axis_count instance_count

unfoldable pub fvar_table : Header → List ℕ
fvar_table header =
    fvar_head (length header.axes) (length header.instances)
    ++ axis_records header 0 header.axes ++ instance_records header 0 header.instances
