-- How many axis values there are: one for each axis, and at most one for each instance.
use Rattle.std.proofs.Common.{◌≡◌, ℕ, ◌+◌, ◌≤◌, Bool, true, false, List, [], ◌∷◌, length}
use Rattle.std.proofs.Common.{refl, ap, arith, length-append, nat_eq}
use Rattle.std.specs.Prelude.{ℤ, if◌then◌else◌}
use Rattle.font_ir.specs.Headers.{IsHeader}
use Rattle.font_ir.specs.declared.header.Axis.{Axis}
use Rattle.font_ir.specs.declared.header.Header.{Header}
use Rattle.font_ir.specs.declared.header.Instance.{Instance}
use Rattle.style_tables.specs.AxisValues.{default_values, default_values_from, instance_value}
use Rattle.style_tables.specs.AxisValues.{instance_values, instance_values_from, is_new, users_of}
use Rattle.style_tables.specs.AxisValues.{values_of}
use Rattle.style_tables.specs.declared.axis_values.AxisValue.{AxisValue}

defaults_length : (header : Header) (i : ℕ) (axes : List Axis)
    → length (default_values_from header i axes) ≡ length axes
defaults_length header i [] = refl
defaults_length header i (axis ∷ axes) = omega (arith, defaults_length header (i + 1) axes)

at_most_one : (new : Bool) (value : AxisValue)
    → length (if new then value ∷ [] else []) ≤ 1
at_most_one true value = omega arith
at_most_one false value = omega arith

instances_length : (header : Header) (users : List ℤ) (i : ℕ) (instances : List Instance)
    → length (instance_values_from header users i instances) ≤ length instances
instances_length header users i [] = omega arith
instances_length header users i (instance ∷ instances) = omega (
  arith,
  instances_length header users (i + 1) instances,
  at_most_one (is_new users (i + 1)) (instance_value header users i),
  length-append
      (if is_new users (i + 1) then instance_value header users i ∷ [] else [])
      (instance_values_from header users (i + 1) instances),
)

either_length : (one : Bool) (values : List AxisValue) (n : ℕ) → length values ≤ n
    → length (if one then values else []) ≤ n
either_length true values n h = h
either_length false values n h = omega arith

pub few_values : (header : Header) → IsHeader header → length (values_of header) ≤ 72
few_values header h =
    let one : Bool = nat_eq (length header.axes) 1 in
    omega (
      arith,
      h.few_axes,
      h.few_instances,
      defaults_length header 0 header.axes,
      either_length one (instance_values header) 64
          (omega (
            arith,
            h.few_instances,
            instances_length header (users_of header) 0 header.instances,
          )),
      length-append (default_values header) (if one then instance_values header else []),
    )

-- the same of a list that is theirs
pub few_such : (header : Header) (values : List AxisValue) → IsHeader header
    → values ≡ values_of header → length values ≤ 72
few_such header values h is = omega (arith, few_values header h, ap length is)
