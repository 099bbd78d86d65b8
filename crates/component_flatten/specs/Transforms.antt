-- How a component draws the points of its base: each is scaled, then turned counterclockwise by
-- quarter turns, and then moved (Glyphs file format, version 3, "Components"). Coordinates are raw
-- numbers in 16.16, and a product is the nearest of them, a tie going up: that is fontc's own.
use Rattle.std.specs.Prelude.{ℕ, zero, suc, ◌<◌, Bool, ◌+ℤ◌, neg_ℤ}
use Rattle.fixed_math.specs.declared.Fixed.{Fixed}
use Rattle.fixed_math.specs.FixedPoint.{product}
use Rattle.font_ir.specs.FlatGlyphs.{IsSmallFixed}
use Rattle.font_ir.specs.ReadGlyphs.{IsScale}
use Rattle.font_ir.specs.declared.glyph.DrawnPoint.{DrawnPoint}
use Rattle.component_flatten.specs.declared.transform.Spot.{Spot}
use Rattle.component_flatten.specs.declared.transform.Transform.{Transform}

abbrev pub scaled : Fixed × Fixed → Spot → Spot
scaled scale spot = record { x = product spot.x scale.0.0; y = product spot.y scale.1.0 }

-- a quarter turn counterclockwise about the origin
abbrev pub quarter_turned : Spot → Spot
quarter_turned spot = record { x = neg_ℤ spot.y; y = spot.x }

abbrev pub turned : ℕ → Spot → Spot
turned zero spot = spot
turned (suc quarters) spot = quarter_turned (turned quarters spot)

abbrev pub moved : Fixed × Fixed → Spot → Spot
moved at spot = record { x = spot.x +ℤ at.0.0; y = spot.y +ℤ at.1.0 }

-- the order in which it is done
abbrev pub transformed : Transform → Spot → Spot
transformed transform spot =
    moved transform.at (turned transform.quarters (scaled transform.scale spot))

abbrev pub spot_of : DrawnPoint → Spot
spot_of point = record { x = point.x.0; y = point.y.0 }

-- the point at a spot; it may be beyond what a number in 16.16 holds
abbrev pub point_at : Bool → Spot → DrawnPoint
point_at on spot = record { x = record { 0 = spot.x }; y = record { 0 = spot.y }; on = on }

abbrev pub transformed_point : Transform → DrawnPoint → DrawnPoint
transformed_point transform point = point_at point.on (transformed transform (spot_of point))

-- its numbers are in their ranges
abbrev pub IsTransform : Transform → Type 0
IsTransform transform =
    IsSmallFixed transform.at.0 × IsSmallFixed transform.at.1 × IsScale transform.scale.0
    × IsScale transform.scale.1 × (transform.quarters < 4)
