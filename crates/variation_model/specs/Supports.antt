-- The support of each place: the region where the delta that is stored for it has an effect
-- (OpenType 1.9, "Font variations common table formats", "Variation regions"). How far a region
-- reaches is fontc's own.
use Rattle.std.specs.Prelude.{ℕ, ◌+◌, ◌*◌, Bool, true, not, ◌&&◌, ◌||◌, if◌then◌else◌, List, []}
use Rattle.std.specs.Prelude.{◌∷◌, ◌++◌, slice_index_or, ℤ, pos, ◌-ℤ◌, int_lt, nat_lt, unsigned_abs}
use Rattle.std.specs.List.{fold}
use Rattle.std.specs.Int.{int_max, int_min}
use Rattle.std.specs.Ordering.{int_eq}
use Rattle.fixed_math.specs.declared.F2Dot14.{F2Dot14}
use Rattle.font_ir.specs.declared.variation.Region.{Region}
use Rattle.variation_model.specs.Places.{zero_number, ordered}

-- an axis's number in a place
abbrev pub number_on : ℕ → List F2Dot14 → ℤ
number_on axis place = (slice_index_or place axis zero_number).0

-- the least and the greatest number of an axis over all places, of which one is zero
abbrev pub least : List (List F2Dot14) → ℕ → ℤ
least places axis = fold (λ low place. int_min low (number_on axis place)) (pos 0) places

abbrev pub greatest : List (List F2Dot14) → ℕ → ℤ
greatest places axis = fold (λ high place. int_max high (number_on axis place)) (pos 0) places

-- start, peak and end on an axis before other places are looked at: from zero to the axis's end on
-- the peak's side
abbrev pub widest_side : ℤ → F2Dot14 → ℤ → F2Dot14 × F2Dot14 × F2Dot14
widest_side low peak high =
    if int_lt (pos 0) peak.0 then (zero_number, peak, record { 0 = high })
    else (if int_lt peak.0 (pos 0) then (record { 0 = low }, peak, zero_number) else
    (zero_number, zero_number, zero_number))

abbrev pub widest_from : List (List F2Dot14) → ℕ → List F2Dot14 → List (F2Dot14 × F2Dot14 × F2Dot14)
widest_from places axis [] = []
widest_from places axis (peak ∷ peaks) =
    widest_side (least places axis) peak (greatest places axis)
    ∷ widest_from places (axis + 1) peaks

-- on one axis: whether the number is active exactly where the peak is, and is the peak or strictly
-- between start and end
abbrev pub is_inside : F2Dot14 × F2Dot14 × F2Dot14 → F2Dot14 → Bool
is_inside side v =
    if int_eq side.1.0 (pos 0) then int_eq v.0 (pos 0)
    else not (int_eq v.0 (pos 0)) && (int_eq v.0 side.1.0
    || (int_lt side.0.0 v.0 && int_lt v.0 side.2.0))

-- the same on every axis
abbrev pub all_inside : List (F2Dot14 × F2Dot14 × F2Dot14) → List F2Dot14 → Bool
all_inside [] vs = true
all_inside (side ∷ sides) [] = true
all_inside (side ∷ sides) (v ∷ vs) = is_inside side v && all_inside sides vs

-- a difference that is not negative
abbrev pub distance : F2Dot14 → F2Dot14 → ℕ
distance high low = unsigned_abs (high.0 -ℤ low.0)

-- the ratio on an axis: how far a number is from the peak, over how far the side reaches there, as
-- numerator and denominator
abbrev pub axis_ratio : F2Dot14 × F2Dot14 × F2Dot14 → F2Dot14 → ℕ × ℕ
axis_ratio side v =
    if int_lt v.0 side.1.0 then (distance side.1 v, distance side.1 side.0)
    else (if int_lt side.1.0 v.0 then (distance v side.1, distance side.2 side.1) else (0, 1))

-- ratios are compared by cross multiplication
abbrev pub is_less : ℕ × ℕ → ℕ × ℕ → Bool
is_less x y = nat_lt (x.0 * y.1) (y.0 * x.1)

abbrev pub larger : ℕ × ℕ → ℕ × ℕ → ℕ × ℕ
larger x y = if is_less x y then y else x

-- the largest of a ratio and those on the axes
abbrev pub largest_ratio_from : ℕ × ℕ → List (F2Dot14 × F2Dot14 × F2Dot14) → List F2Dot14 → ℕ × ℕ
largest_ratio_from largest [] vs = largest
largest_ratio_from largest (side ∷ sides) [] = largest
largest_ratio_from largest (side ∷ sides) (v ∷ vs)
    = largest_ratio_from (larger largest (axis_ratio side v)) sides vs

-- the largest ratio on the axes
abbrev pub largest_ratio : List (F2Dot14 × F2Dot14 × F2Dot14) → List F2Dot14 → ℕ × ℕ
largest_ratio sides place = largest_ratio_from (0, 1) sides place

-- a side that is cut at a number: it becomes the start or the end
abbrev pub cut : F2Dot14 × F2Dot14 × F2Dot14 → F2Dot14 → F2Dot14 × F2Dot14 × F2Dot14
cut side v =
    if int_lt v.0 side.1.0 then (v, side.1, side.2)
    else (if int_lt side.1.0 v.0 then (side.0, side.1, v) else side)

-- a side whose ratio is not less than this one is cut
abbrev pub cut_at_least : ℕ × ℕ → F2Dot14 × F2Dot14 × F2Dot14 → F2Dot14
    → F2Dot14 × F2Dot14 × F2Dot14
cut_at_least largest side v = if is_less (axis_ratio side v) largest then side else cut side v

-- each side whose ratio is the largest is cut
abbrev pub cut_largest : ℕ × ℕ → List (F2Dot14 × F2Dot14 × F2Dot14) → List F2Dot14
    → List (F2Dot14 × F2Dot14 × F2Dot14)
cut_largest largest [] vs = []
cut_largest largest (side ∷ sides) [] = side ∷ sides
cut_largest largest (side ∷ sides) (v ∷ vs) = cut_at_least largest side v
    ∷ cut_largest largest sides vs

-- what an earlier place leaves of a region
abbrev pub narrowed : List (F2Dot14 × F2Dot14 × F2Dot14) → List F2Dot14
    → List (F2Dot14 × F2Dot14 × F2Dot14)
narrowed sides place =
    if all_inside sides place then cut_largest (largest_ratio sides place) sides place else sides

-- the support of a place, after the earlier ones
abbrev pub support : List (List F2Dot14) → List (List F2Dot14) → List F2Dot14 → Region
support places earlier place = record { sides = fold narrowed (widest_from places 0 place) earlier }

abbrev pub supports_after : List (List F2Dot14) → List (List F2Dot14) → List (List F2Dot14)
    → List Region
supports_after places earlier [] = []
supports_after places earlier (place ∷ rest) =
    support places earlier place ∷ supports_after places (earlier ++ place ∷ []) rest

-- the supports of all places, in their order
unfoldable pub supports_of : List (List F2Dot14) → List Region
supports_of places = supports_after places [] (ordered places)
