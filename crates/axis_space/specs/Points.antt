-- User coordinates from design coordinates, which is fontc's own: each master is a point, and of
-- masters at one design coordinate the first counts; between two neighbours the reading is linear,
-- rounded to the nearest in 16.16, a tie going up; past the ends it is that of the end.
use Rattle.std.specs.Prelude.{◌≡◌, ℕ, List, [], ◌∷◌, map, ℤ, pos, ◌+ℤ◌, ◌-ℤ◌, ◌*ℤ◌, ◌≤ℤ◌, ◌<ℤ◌, ◌⊎◌}
use Rattle.std.specs.Prelude.{int_lt, int_le, if◌then◌else◌, Option, Some, None, All}
use Rattle.std.specs.List.{find}
use Rattle.std.specs.Ordering.{int_eq}
use Rattle.font_ir.specs.declared.header.Master.{Master}
use Rattle.font_ir.specs.Coordinates.{coordinate_on}
use Rattle.font_ir.specs.declared.header.CoordinateScale.TheVariants.{Design, User}
use Rattle.font_ir.specs.Normal.{nearest}
use Rattle.axis_space.specs.declared.points.Point.{Point}

-- the points of an axis
abbrev pub point_on : ℕ → Master → Point
point_on axis master = record {
  design = coordinate_on Design axis master;
  user
      = coordinate_on User axis master;
}

abbrev pub points_of : List Master → ℕ → List Point
points_of masters axis = map (point_on axis) masters

-- a point is the first of its design coordinate
abbrev pub IsFirst : List Point → Point → Type 0
IsFirst points p = find (λ q. int_eq q.design.0 p.design.0) points ≡ Some p

-- a point is the neighbour below a design coordinate, or at it: of the points that are not above it
-- the greatest
pub record IsBelow (points : List Point) (design : ℤ) (p : Point) : Type 0 where
  pub first : IsFirst points p
  pub at_most : p.design.0 ≤ℤ design
  pub nearest : All (λ q. q.design.0 ≤ℤ design → q.design.0 ≤ℤ p.design.0) points

-- and the neighbour above it, or at it
pub record IsAbove (points : List Point) (design : ℤ) (p : Point) : Type 0 where
  pub first : IsFirst points p
  pub at_least : design ≤ℤ p.design.0
  pub nearest : All (λ q. design ≤ℤ q.design.0 → p.design.0 ≤ℤ q.design.0) points

-- where a design coordinate lies among the points: between two neighbours, or before all of them,
-- or after
abbrev pub Places : List Point → ℤ → Type 0
Places points design =
    ((p : Point) × (q : Point) × IsBelow points design p × IsAbove points design q)
    ⊎ (((q : Point) × All (λ r. design <ℤ r.design.0) points × IsAbove points design q)
    ⊎ ((p : Point) × All (λ r. r.design.0 <ℤ design) points × IsBelow points design p))

-- The same as functions: of two points the nearer one, of two with one design coordinate the first.
abbrev pub not_above : ℤ → Point → Option Point
not_above design p = if int_le p.design.0 design then Some p else None

abbrev pub higher : Option Point → Option Point → Option Point
higher None q = q
higher (Some p) None = Some p
higher (Some p) (Some q) = if int_lt p.design.0 q.design.0 then Some q else Some p

abbrev pub below : ℤ → List Point → Option Point
below design [] = None
below design (p ∷ ps) = higher (not_above design p) (below design ps)

abbrev pub not_below : ℤ → Point → Option Point
not_below design p = if int_le design p.design.0 then Some p else None

abbrev pub lower : Option Point → Option Point → Option Point
lower None q = q
lower (Some p) None = Some p
lower (Some p) (Some q) = if int_lt q.design.0 p.design.0 then Some q else Some p

abbrev pub above : ℤ → List Point → Option Point
above design [] = None
above design (p ∷ ps) = lower (not_below design p) (above design ps)

-- the reading on the line through two points, of which the second is not below the first
abbrev pub between : Point → Point → ℤ → ℤ
between p q design =
    if int_lt p.design.0 q.design.0 then p.user.0 +ℤ nearest
    ((q.user.0 -ℤ p.user.0) *ℤ (design -ℤ p.design.0)) (q.design.0 -ℤ p.design.0)
    else p.user.0

-- the reading at a design coordinate from its neighbours: past the ends that of the end
abbrev pub reading : Option Point → Option Point → ℤ → ℤ
reading (Some p) (Some q) design = between p q design
reading (Some p) None design = p.user.0
reading None (Some q) design = q.user.0
reading None None design = pos 0

-- the user coordinate at a design coordinate
unfoldable pub user_at : List Point → ℤ → ℤ
user_at points design = reading (below design points) (above design points) design

-- what a number is where it is read from the points: on the line between the neighbours, and past
-- the ends that of the end. So it is a point's own number at each point, and never outside the
-- points' numbers
pub record IsReading (points : List Point) (design user : ℤ) : Type 0 where
  pub placed : Places points design
  pub inside : (p q : Point) → IsBelow points design p → IsAbove points design q
      → user ≡ between p q design
  pub before : (q : Point) → All (λ r. design <ℤ r.design.0) points → IsAbove points design q
      → user ≡ q.user.0
  pub after : (p : Point) → All (λ r. r.design.0 <ℤ design) points → IsBelow points design p
      → user ≡ p.user.0
  pub at_point : (p : Point) → IsFirst points p → p.design.0 ≡ design → user ≡ p.user.0
  pub within : (low high : ℤ) → All (λ r. (low ≤ℤ r.user.0) × (r.user.0 ≤ℤ high)) points
      → (low ≤ℤ user) × (user ≤ℤ high)
