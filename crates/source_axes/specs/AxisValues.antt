-- Coordinates on axes, in design or in user coordinates: decimals from -32767 to 32767 (Glyphs file
-- format, version 3; the range is fontc's own), and the numbers in 16.16 that they are read as.
-- That these are rounded half up is fontc's own.
use Rattle.std.specs.Prelude.{ℕ, ◌+◌, ◌*◌, ℤ, pos, neg_ℤ, ◌+ℤ◌, ◌*ℤ◌, Bool, ◌&&◌, ◌||◌, ◌==◌}
use Rattle.std.specs.Prelude.{nat_lt, List, [], map, Option, Some, None}
use Rattle.std.specs.Prelude.{if◌then◌else◌}
use Rattle.fixed_math.specs.declared.Fixed.{Fixed}
use Rattle.fixed_math.specs.FixedPoint.{floor_quotient}
use Rattle.plist_reader.specs.declared.tree.Tree.{Tree}
use Rattle.refusal_codes.specs.declared.rule.Rule.TheVariants.{WrongShape, OutOfRange}
use Rattle.refusal_codes.specs.declared.first.Failure.{Failure}
use Rattle.source_values.specs.declared.decimals.Decimal.{Decimal}
use Rattle.source_values.specs.Decimals.{is_whole}
use Rattle.source_values.specs.Values.{decimal_at, items_under}
use Rattle.source_values.specs.Asking.{fails}

-- a coordinate of an axis is from -32767 to 32767
abbrev pub is_axis_value : Decimal → Bool
is_axis_value d = nat_lt d.whole 32767 || (d.whole == 32767 && is_whole d)

abbrev pub axis_value_failures_by : Tree → ℕ → Option Decimal → List Failure
axis_value_failures_by t n None = fails WrongShape t n
axis_value_failures_by t n (Some d) = if is_axis_value d then [] else fails OutOfRange t n

unfoldable pub axis_value_failures : Tree → ℕ → List Failure
axis_value_failures t n = axis_value_failures_by t n (decimal_at t n)

-- a decimal in billionths, which nine digits of fraction make whole
abbrev pub in_billionths : Decimal → ℤ
in_billionths d =
    if d.negative
    then neg_ℤ (pos (1000000000 * d.whole + d.billionths))
    else pos (1000000000 * d.whole + d.billionths)

-- so many billionths in 16.16: the whole number nearest to 65536 times as many; of two that are
-- equally near the greater
abbrev pub rounded : ℤ → ℤ
rounded n = floor_quotient (pos 65536 *ℤ n +ℤ pos 500000000) (pos 1000000000)

-- the coordinate that a value is, and 0 where it is none
abbrev pub coordinate_by : Option Decimal → ℤ
coordinate_by None = pos 0
coordinate_by (Some d) = if is_axis_value d then rounded (in_billionths d) else pos 0

unfoldable pub axis_coordinate : Tree → ℕ → Fixed
axis_coordinate t n = record { 0 = coordinate_by (decimal_at t n) }

-- the coordinates of the list under a key
unfoldable pub coordinates_under : Tree → ℕ → List ℕ → List Fixed
coordinates_under t pairs key = map (axis_coordinate t) (items_under t pairs key)
