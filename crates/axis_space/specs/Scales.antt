-- Places by the scales of the axes, as the code forms them. For the code and its proofs.
use Rattle.std.specs.Prelude.{ℕ, ◌<◌, ◌≤◌, List, map, length, slice_index_or, ◌≤ℤ◌, pos}
use Rattle.std.specs.List.{range_with_len}
use Rattle.fixed_math.specs.declared.F2Dot14.{F2Dot14}
use Rattle.fixed_math.specs.declared.Fixed.{Fixed}
use Rattle.font_ir.specs.declared.header.Master.{Master}
use Rattle.font_ir.specs.declared.header.CoordinateScale.TheVariants.{Design}
use Rattle.font_ir.specs.Normal.{normalised}
use Rattle.font_ir.specs.Extremes.{least, greatest}
use Rattle.font_ir.specs.Coordinates.{coordinate_at, coordinates_on, default_on}
use Rattle.axis_space.specs.declared.coordinates.Scale.{Scale}

-- the scale of an axis's design coordinates
abbrev pub scale_on : List Master → ℕ → ℕ → Scale
scale_on masters origin axis = record {
  least = record { 0 = least (coordinates_on Design axis masters) };
  default = record { 0 = default_on Design origin axis masters };
  greatest = record { 0 = greatest (coordinates_on Design axis masters) };
}

-- those of so many axes
abbrev pub scales_on : List Master → ℕ → ℕ → List Scale
scales_on masters origin axes = map (scale_on masters origin) (range_with_len 0 axes)

abbrev pub scale_at : List Scale → ℕ → Scale
scale_at scales axis = slice_index_or scales axis (record {
  least = record { 0 = pos 0 };
  default = record { 0 = pos 0 };
  greatest = record { 0 = pos 0 };
})

-- a coordinate lies on a scale
pub record IsOnScale (scale : Scale) (v : Fixed) : Type 0 where
  pub from_least : scale.least.0 ≤ℤ v.0
  pub to_greatest : v.0 ≤ℤ scale.greatest.0
  pub least_default : scale.least.0 ≤ℤ scale.default.0
  pub default_greatest : scale.default.0 ≤ℤ scale.greatest.0

-- there is a coordinate for each scale, and it lies on it
pub record AreOnScales (scales : List Scale) (design : List Fixed) : Type 0 where
  pub enough : length scales ≤ length design
  pub each : (axis : ℕ) → axis < length scales
      → IsOnScale (scale_at scales axis) (coordinate_at design axis)

-- the place of design coordinates
abbrev pub normal_by : Scale → Fixed → F2Dot14
normal_by scale v =
    record { 0 = normalised v.0 scale.least.0 scale.default.0 scale.greatest.0 }

abbrev pub place_by : List Scale → List Fixed → List F2Dot14
place_by scales design =
    map (λ axis. normal_by (scale_at scales axis) (coordinate_at design axis))
    (range_with_len 0 (length scales))

abbrev pub located : List Scale → Master → Master
located scales master = record master { location = place_by scales master.design }
