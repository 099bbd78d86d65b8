-- Which sides of a region an earlier place cuts. A place that is inside a region has a ratio on
-- each axis where it isn't the peak: how far it is from the peak, over how far the region reaches
-- there. On the axes whose ratio no other exceeds, the side toward the place ends at its number
-- from then on; all other sides stay. That is fontc's own.
use Rattle.std.specs.Prelude.{◌≡◌, ◌⊎◌, ℕ, ◌+◌, ◌<◌, List, length, slice_index_or, ℤ, pos, ◌-ℤ◌}
use Rattle.std.specs.Prelude.{◌*ℤ◌, ◌≤ℤ◌, ◌<ℤ◌, EachIndex}
use Rattle.fixed_math.specs.declared.F2Dot14.{F2Dot14}
use Rattle.variation_model.specs.Places.{zero_number, place_at}

-- start, peak and end on an axis
abbrev pub Side : Type 0
Side = F2Dot14 × F2Dot14 × F2Dot14

-- an axis's side in a region, and its coordinate in a place
abbrev pub side_on : ℕ → List Side → Side
side_on axis sides = slice_index_or sides axis (zero_number, zero_number, zero_number)

abbrev pub coordinate_on : ℕ → List F2Dot14 → F2Dot14
coordinate_on axis place = slice_index_or place axis zero_number

-- on one axis: a number is zero exactly where the peak is, and is the peak or strictly between
-- start and end
pub record IsWithin (side : Side) (v : F2Dot14) : Type 0 where
  pub inactive : side.1.0 ≡ pos 0 → v.0 ≡ pos 0
  pub active : v.0 ≡ pos 0 → side.1.0 ≡ pos 0
  pub between : (v.0 ≡ side.1.0) ⊎ ((side.0.0 <ℤ v.0) × (v.0 <ℤ side.2.0))

-- a place is inside a region: it is so on every axis
abbrev pub IsInside : List Side → List F2Dot14 → Type 0
IsInside sides place = EachIndex sides (λ axis. IsWithin (side_on axis sides)
    (coordinate_on axis place))

-- the ratio on an axis, as numerator and denominator: how far a number is from the peak, over how
-- far the region reaches there. At the peak there is none.
abbrev pub HasRatio : Side → F2Dot14 → ℤ × ℤ → Type 0
HasRatio side v ratio =
    ((v.0 <ℤ side.1.0) × (ratio ≡ (side.1.0 -ℤ v.0, side.1.0 -ℤ side.0.0)))
    ⊎ ((side.1.0 <ℤ v.0) × (ratio ≡ (v.0 -ℤ side.1.0, side.2.0 -ℤ side.1.0)))

-- a ratio doesn't exceed another
abbrev pub IsAtMost : ℤ × ℤ → ℤ × ℤ → Type 0
IsAtMost x y = (x.0 *ℤ y.1) ≤ℤ (y.0 *ℤ x.1)

-- on an axis a place has this ratio, and on no axis one that exceeds it
pub record HasLargestRatio (sides : List Side) (place : List F2Dot14) (axis : ℕ) (ratio : ℤ × ℤ)
    : Type 0 where
  pub own : HasRatio (side_on axis sides) (coordinate_on axis place) ratio
  pub none_exceeds : (other : ℕ) (r : ℤ × ℤ) → other < length sides
      → HasRatio (side_on other sides) (coordinate_on other place) r → IsAtMost r ratio

-- a side is cut at a number: it starts there if the number is below the peak, and ends there if it
-- is above
pub record IsCutAt (side : Side) (v : F2Dot14) (cut : Side) : Type 0 where
  pub below : v.0 <ℤ side.1.0 → cut ≡ (v, side.1, side.2)
  pub above : side.1.0 <ℤ v.0 → cut ≡ (side.0, side.1, v)

-- what an earlier place leaves of a region
pub record IsNarrowed (sides : List Side) (place : List F2Dot14) (narrowed : List Side)
    : Type 0 where
  pub as_many : length narrowed ≡ length sides
  pub outside : (IsInside sides place → ⊥) → narrowed ≡ sides
  pub cut : IsInside sides place → (axis : ℕ) (ratio : ℤ × ℤ) → axis < length sides
      → HasLargestRatio sides place axis ratio
      → IsCutAt (side_on axis sides) (coordinate_on axis place) (side_on axis narrowed)
  pub kept : IsInside sides place → (axis : ℕ) → axis < length sides
      → ((ratio : ℤ × ℤ) → HasLargestRatio sides place axis ratio → ⊥)
      → side_on axis narrowed ≡ side_on axis sides

-- a number is the greatest, or the least, that places have on an axis
pub record IsGreatestOn (axis : ℕ) (places : List (List F2Dot14)) (z : ℤ) : Type 0 where
  pub none_above : EachIndex places (λ i. (coordinate_on axis (place_at places i)).0 ≤ℤ z)
  pub reached : (i : ℕ) × (i < length places) × ((coordinate_on axis (place_at places i)).0 ≡ z)

pub record IsLeastOn (axis : ℕ) (places : List (List F2Dot14)) (z : ℤ) : Type 0 where
  pub none_below : EachIndex places (λ i. z ≤ℤ (coordinate_on axis (place_at places i)).0)
  pub reached : (i : ℕ) × (i < length places) × ((coordinate_on axis (place_at places i)).0 ≡ z)

-- an axis's side before earlier places are looked at: from zero to the number of all places that is
-- farthest on the peak's side
pub record IsWidestOn (axis : ℕ) (places : List (List F2Dot14)) (peak : F2Dot14) (side : Side)
    : Type 0 where
  pub has_peak : side.1.0 ≡ peak.0
  pub above : pos 0 <ℤ peak.0 → (side.0.0 ≡ pos 0) × IsGreatestOn axis places side.2.0
  pub below : peak.0 <ℤ pos 0 → IsLeastOn axis places side.0.0 × (side.2.0 ≡ pos 0)
  pub inactive : peak.0 ≡ pos 0 → (side.0.0 ≡ pos 0) × (side.2.0 ≡ pos 0)

-- the region of a place before earlier places are looked at
pub record IsWidest (places : List (List F2Dot14)) (place : List F2Dot14) (sides : List Side)
    : Type 0 where
  pub as_many : length sides ≡ length place
  pub each : EachIndex place (λ axis. IsWidestOn axis places (coordinate_on axis place)
      (side_on axis sides))

-- the support of a place is what the earlier places, each in its turn, leave of the widest region
pub record IsSupport (places earlier : List (List F2Dot14)) (place : List F2Dot14)
    (sides : List Side) : Type 0 where
  pub after : ℕ → List Side
  pub first : IsWidest places place (after 0)
  pub each : (k : ℕ) → k < length earlier
      → IsNarrowed (after k) (place_at earlier k) (after (k + 1))
  pub last : after (length earlier) ≡ sides
