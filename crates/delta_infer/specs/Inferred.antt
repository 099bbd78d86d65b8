-- The delta that a font's reader infers for a point that has none of its own (OpenType 1.9, "gvar",
-- "Inferred deltas for un-referenced point numbers"). It comes from the nearest points with deltas
-- before and after it, going around the contour, and on each axis by itself. In 16.16, where a
-- fraction is rounded down: that is fontc's own.
use Rattle.std.specs.Prelude.{ℤ, pos, ◌+ℤ◌, ◌-ℤ◌, ◌*ℤ◌, int_le, int_lt, Bool, true, false, ◌&&◌}
use Rattle.std.specs.Prelude.{if◌then◌else◌, List, [], ◌∷◌, ◌++◌, Option, Some, None}
use Rattle.std.specs.Ordering.{int_eq}
use Rattle.fixed_math.specs.FixedPoint.{floor_quotient}
use Rattle.delta_infer.specs.declared.moved.MovedPoint.{MovedPoint}
use Rattle.delta_infer.specs.declared.moved.Move.{Move}
use Rattle.delta_infer.specs.Moved.{move_in_x, move_in_y}

-- ---- on one axis, between two points

-- strictly between two coordinates: the mean of the two deltas, each weighed by the distance from
-- the other
abbrev pub mean : Move → Move → ℤ → ℤ
mean low high c =
    floor_quotient (pos 65536 *ℤ ((low.delta *ℤ (high.at -ℤ c)) +ℤ (high.delta *ℤ (c -ℤ low.at))))
    (high.at -ℤ low.at)

-- and elsewhere the delta of the nearer of the two
abbrev pub inferred_rising : Move → Move → ℤ → ℤ
inferred_rising low high c =
    if int_le c low.at then pos 65536 *ℤ low.delta else
    (if int_le high.at c then pos 65536 *ℤ high.delta else mean low high c)

-- of two equal coordinates: their delta where it is one, and else none
abbrev pub inferred_level : Move → Move → ℤ
inferred_level before after = if int_eq before.delta after.delta then pos 65536 *ℤ before.delta else
    pos 0

abbrev pub inferred_between : Move → Move → ℤ → ℤ
inferred_between before after c =
    if int_lt before.at after.at then inferred_rising before after c else (
    if int_lt after.at before.at then inferred_rising after before c else inferred_level before
    after)

-- ---- around a contour

-- a point of a contour, and whether its delta is left out; else it is named
pub record MarkedPoint : Type 0 where
  pub point : MovedPoint
  pub left_out : Bool

abbrev pub named : MovedPoint → MarkedPoint
named point = record { point = point; left_out = false }

abbrev pub or_else : Option MovedPoint → Option MovedPoint → Option MovedPoint
or_else (Some point) other = Some point
or_else None other = other

-- the first and the last named of some points
abbrev pub first_named : List MarkedPoint → Option MovedPoint
first_named [] = None
first_named (marked ∷ others) = if marked.left_out then first_named others else Some marked.point

abbrev pub last_named : List MarkedPoint → Option MovedPoint
last_named [] = None
last_named (marked ∷ others) = or_else (last_named others)
    (if marked.left_out then None else Some marked.point)

-- the value on an axis, of a point at a coordinate, from the nearest named points before and after
-- it. Without a named point it is none; where there is just one, that is before it and after it.
abbrev pub inferred_from : (MovedPoint → Move) → Option MovedPoint → Option MovedPoint → ℤ → ℤ
inferred_from axis None after c = pos 0
inferred_from axis (Some before) None c = pos 0
inferred_from axis (Some before) (Some after) c = inferred_between (axis before) (axis after) c

-- `others` are the other points of the contour, going around it: from the one after the point to
-- the one before it
abbrev pub inferred : (MovedPoint → Move) → List MarkedPoint → ℤ → ℤ
inferred axis others c = inferred_from axis (last_named others) (first_named others) c

-- in both coordinates exactly the point's own delta is inferred
abbrev pub is_exact : List MarkedPoint → MovedPoint → Bool
is_exact others point =
    int_eq (inferred move_in_x others point.x) (pos 65536 *ℤ point.dx)
    && int_eq (inferred move_in_y others point.y) (pos 65536 *ℤ point.dy)

-- it is so for every unnamed point of a contour, of which the earlier points are looked at already
abbrev pub all_exact_after : List MarkedPoint → List MarkedPoint → Bool
all_exact_after earlier [] = true
all_exact_after earlier (marked ∷ later) =
    (if marked.left_out then is_exact (later ++ earlier) marked.point else true)
    && all_exact_after (earlier ++ marked ∷ []) later

abbrev pub all_exact : List MarkedPoint → Bool
all_exact contour = all_exact_after [] contour
