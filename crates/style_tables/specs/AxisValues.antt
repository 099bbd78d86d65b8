-- The axis values of a family: places on its axes, and what they are called (OpenType 1.9, "STAT",
-- "Axis value tables"). Which places these are is fontc's own: the default of each axis, which has
-- the name of the style and is left out where a name is put together, and in a family of one axis
-- the places of its instances.
use Rattle.std.specs.Prelude.{ℕ, ◌+◌, Bool, not, nat_eq, if◌then◌else◌, List, [], ◌∷◌, ◌++◌, length}
use Rattle.std.specs.Prelude.{map, take, slice_index_or, ℤ, pos}
use Rattle.std.specs.List.{list_any}
use Rattle.std.specs.Ordering.{int_eq}
use Rattle.font_ir.specs.Coordinates.{coordinate_at, default_on}
use Rattle.font_ir.specs.declared.header.Axis.{Axis}
use Rattle.font_ir.specs.declared.header.CoordinateScale.TheVariants.{User}
use Rattle.font_ir.specs.declared.header.Header.{Header}
use Rattle.font_ir.specs.declared.header.Instance.{Instance}
use Rattle.axis_space.specs.Points.{points_of, user_at}
use Rattle.name_tables.specs.NameIds.{instance_name_id}
use Rattle.style_tables.specs.declared.axis_values.AxisValue.{AxisValue}

-- the default master's user coordinate on an axis, as a raw number in 16.16
abbrev pub default_user : Header → ℕ → ℤ
default_user header axis = default_on User header.origin axis header.masters

-- ---- the axes' defaults

-- ELIDABLE_AXIS_VALUE_NAME, and the name ID of the style
abbrev pub elidable : ℕ
elidable = 2

abbrev pub style_name_id : ℕ
style_name_id = 2

abbrev pub default_value : Header → ℕ → AxisValue
default_value header axis = record {
  axis = axis;
  flags = elidable;
  name = style_name_id;
  user = record { 0 = default_user header axis };
}

-- those of the axes from the i-th on
abbrev pub default_values_from : Header → ℕ → List Axis → List AxisValue
default_values_from header i [] = []
default_values_from header i (axis ∷ axes) = default_value header i
    ∷ default_values_from header (i + 1) axes

abbrev pub default_values : Header → List AxisValue
default_values header = default_values_from header 0 header.axes

-- ---- the instances of a family of one axis

-- where an instance lies on the axis, in user coordinates
abbrev pub user_of_instance : Header → Instance → ℤ
user_of_instance header instance =
    user_at (points_of header.masters 0) (coordinate_at instance.design 0).0

-- the user coordinates of the default and of the instances
abbrev pub users_of : Header → List ℤ
users_of header = default_user header 0 ∷ map (user_of_instance header) header.instances

abbrev pub user_in : List ℤ → ℕ → ℤ
user_in users k = slice_index_or users k (pos 0)

-- a coordinate is none of those before it
abbrev pub is_new : List ℤ → ℕ → Bool
is_new users k = not (list_any (λ earlier. int_eq earlier (user_in users k)) (take k users))

abbrev pub instance_value : Header → List ℤ → ℕ → AxisValue
instance_value header users i = record {
  axis = 0;
  flags = 0;
  name = instance_name_id header i;
  user = record { 0 = user_in users (i + 1) };
}

-- those of the instances from the i-th on whose coordinate is no earlier one's, the default's among
-- them
abbrev pub instance_values_from : Header → List ℤ → ℕ → List Instance → List AxisValue
instance_values_from header users i [] = []
instance_values_from header users i (instance ∷ instances) =
    (if is_new users (i + 1) then instance_value header users i ∷ [] else [])
    ++ instance_values_from header users (i + 1) instances

abbrev pub instance_values : Header → List AxisValue
instance_values header = instance_values_from header (users_of header) 0 header.instances

-- ---- all of them

abbrev pub values_of : Header → List AxisValue
values_of header = default_values header
    ++ (if nat_eq (length header.axes) 1 then instance_values header else [])
