-- The coordinates of the masters on an axis, and where they lie on the normalised scale (OpenType
-- 1.9, "Coordinate scales and normalization").
use Rattle.std.specs.Prelude.{ℕ, ◌<◌, List, map, length, slice_index_or, ℤ, pos}
use Rattle.fixed_math.specs.declared.F2Dot14.{F2Dot14}
use Rattle.fixed_math.specs.declared.Fixed.{Fixed}
use Rattle.font_ir.specs.declared.header.Master.{Master}
use Rattle.font_ir.specs.Normal.{normalised}
use Rattle.font_ir.specs.Extremes.{least, greatest}
use Rattle.font_ir.specs.declared.header.CoordinateScale.{CoordinateScale}
use Rattle.font_ir.specs.declared.header.CoordinateScale.TheVariants.{Design, User}

-- a master has a design and a user coordinate on the axis
pub record HasAxis (axis : ℕ) (master : Master) : Type 0 where
  pub design : axis < length master.design
  pub user : axis < length master.user

abbrev pub coordinate_at : List Fixed → ℕ → Fixed
coordinate_at coordinates i = slice_index_or coordinates i (record { 0 = pos 0 })

-- a master's coordinates on a scale, and the one of an axis
abbrev pub coordinates_of : CoordinateScale → Master → List Fixed
coordinates_of Design master = master.design
coordinates_of User master = master.user

abbrev pub coordinate_on : CoordinateScale → ℕ → Master → Fixed
coordinate_on scale axis master = coordinate_at (coordinates_of scale master) axis

-- the coordinate of the default master, which is the one at origin
abbrev pub default_on : CoordinateScale → ℕ → ℕ → List Master → ℤ
default_on scale origin axis masters = (coordinate_at (map (coordinate_on scale axis) masters)
    origin).0

-- the masters' coordinates
abbrev pub coordinates_on : CoordinateScale → ℕ → List Master → List ℤ
coordinates_on scale axis masters = map (λ master. (coordinate_on scale axis master).0) masters

-- a master's normalised coordinate: where it lies between the least and the greatest one of the
-- masters
abbrev pub normal_on : CoordinateScale → ℕ → ℕ → List Master → Master → F2Dot14
normal_on scale origin axis masters master =
    let all = coordinates_on scale axis masters in
    record {
      0 = normalised (coordinate_on scale axis master).0 (least all)
          (default_on scale origin axis masters) (greatest all);
    }
