-- Arithmetic on fixed-point numbers, on their raw numbers: a number in 16.16 stands for its raw
-- number over 65536, and one in 2.14 for its raw number over 16384 (OpenType 1.9, "Data types").
-- The ways of rounding are fontc's own.
use Rattle.std.specs.Prelude.{ℤ, pos, ◌+ℤ◌, ◌*ℤ◌}
use Rattle.std.specs.Int.{int_div_euclid}

-- the greatest whole number that is at most n / d, where d is above 0
abbrev pub floor_quotient : ℤ → ℤ → ℤ
floor_quotient n d = int_div_euclid n d

-- the whole number nearest to raw / 65536; of two that are equally near the greater
abbrev pub half_up : ℤ → ℤ
half_up raw = floor_quotient (raw +ℤ pos 32768) (pos 65536)

-- the product of two numbers in 16.16, to the nearest number in 16.16, a tie going up
abbrev pub product : ℤ → ℤ → ℤ
product a b = half_up (a *ℤ b)

-- n / d in 16.16, rounded down
abbrev pub ratio_of : ℤ → ℤ → ℤ
ratio_of n d = floor_quotient (pos 65536 *ℤ n) d
