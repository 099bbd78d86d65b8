-- The delta of a point between two points with deltas, on one axis (OpenType 1.9, "gvar", "Inferred
-- deltas for un-referenced point numbers"), in 16.16 and rounded down.
use Rattle.std.specs.Prelude.{ℤ, pos, ◌+ℤ◌, ◌-ℤ◌, ◌*ℤ◌, int_le, int_lt, if◌then◌else◌}
use Rattle.std.specs.Ordering.{int_eq}
use Rattle.fixed_math.specs.FixedPoint.{floor_quotient}

-- strictly between the coordinates a and b with the deltas d and e: the mean, each weighed by the
-- distance from the other
abbrev pub mean : ℤ → ℤ → ℤ → ℤ → ℤ → ℤ
mean a d b e c = floor_quotient (pos 65536 *ℤ ((d *ℤ (b -ℤ c)) +ℤ (e *ℤ (c -ℤ a)))) (b -ℤ a)

-- elsewhere that of the nearer one
unfoldable pub rising : ℤ → ℤ → ℤ → ℤ → ℤ → ℤ
rising a d b e c = if int_le c a then pos 65536 *ℤ d
    else (if int_le b c then pos 65536 *ℤ e else mean a d b e c)

-- at one coordinate: the delta, where it is one
unfoldable pub inferred : ℤ → ℤ → ℤ → ℤ → ℤ → ℤ
inferred a d b e c = if int_lt a b then rising a d b e c else (if int_lt b a then rising b e a d c
    else (if int_eq d e then pos 65536 *ℤ d else pos 0))
