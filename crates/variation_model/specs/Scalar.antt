-- The scalar of a region at a place, in 16.16: by how much the region's deltas count there
-- (OpenType 1.9, "Font variations common table formats", "Algorithm for interpolation of instance
-- values"). The rounding and its order are fontc's own.
use Rattle.std.specs.Prelude.{◌||◌, if◌then◌else◌, List, [], ◌∷◌, ℤ, pos, ◌-ℤ◌, int_lt, int_le}
use Rattle.std.specs.Ordering.{int_eq}
use Rattle.fixed_math.specs.declared.F2Dot14.{F2Dot14}
use Rattle.fixed_math.specs.FixedPoint.{product, ratio_of}

-- on one axis: one at the peak and where the axis doesn't count, falling to zero at start and end
abbrev pub axis_scalar : F2Dot14 × F2Dot14 × F2Dot14 → F2Dot14 → ℤ
axis_scalar side v =
    if int_eq side.1.0 (pos 0) || int_eq v.0 side.1.0 then pos 65536
    else (if int_le v.0 side.0.0 || int_le side.2.0 v.0 then pos 0
    else (if int_lt v.0 side.1.0 then ratio_of (v.0 -ℤ side.0.0) (side.1.0 -ℤ side.0.0)
    else ratio_of (side.2.0 -ℤ v.0) (side.2.0 -ℤ side.1.0)))

-- the product over the axes in their order, from what the earlier ones give
abbrev pub scalar_from : ℤ → List (F2Dot14 × F2Dot14 × F2Dot14) → List F2Dot14 → ℤ
scalar_from before [] vs = before
scalar_from before (side ∷ sides) [] = before
scalar_from before (side ∷ sides) (v ∷ vs)
    = scalar_from (product before (axis_scalar side v)) sides vs

abbrev pub scalar_of : List (F2Dot14 × F2Dot14 × F2Dot14) → List F2Dot14 → ℤ
scalar_of sides place = scalar_from (pos 65536) sides place
