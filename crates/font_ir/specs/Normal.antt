-- Normalised coordinates (OpenType 1.9, "Coordinate scales and normalization"): an axis's least,
-- default and greatest number are -1, 0 and 1. That a number between them is rounded to the nearest
-- in 2.14, a tie going up, is fontc's own.
use Rattle.std.specs.Prelude.{ℤ, pos, ◌+ℤ◌, ◌-ℤ◌, ◌*ℤ◌, int_lt, if◌then◌else◌}
use Rattle.fixed_math.specs.FixedPoint.{floor_quotient}

-- the whole number nearest to n / d, a tie going up, where d is above 0
abbrev pub nearest : ℤ → ℤ → ℤ
nearest n d = floor_quotient (pos 2 *ℤ n +ℤ d) (pos 2 *ℤ d)

-- the raw number in 2.14 of a coordinate between low and high, of which zero is the default
abbrev pub normalised : ℤ → ℤ → ℤ → ℤ → ℤ
normalised v low zero high =
    if int_lt v zero then nearest (pos 16384 *ℤ (v -ℤ zero)) (zero -ℤ low)
    else (if int_lt zero v then nearest (pos 16384 *ℤ (v -ℤ zero)) (high -ℤ zero) else pos 0)
