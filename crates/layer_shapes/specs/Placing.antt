-- Where a component is put (Glyphs file format, version 3): how the decimals of its offset, scale
-- and angle read. Numbers in 16.16 are to the nearest, a tie going up; the sense of an angle and
-- the limits are fontc's own.
use Rattle.std.specs.Prelude.{ℕ, ◌+◌, ◌-◌, ◌*◌, ◌/◌, ◌%◌, Bool, ◌&&◌, ◌||◌, ◌==◌, nat_lt, ℤ, pos}
use Rattle.std.specs.Prelude.{neg_ℤ, ◌+ℤ◌, ◌*ℤ◌, if◌then◌else◌}
use Rattle.fixed_math.specs.declared.Fixed.{Fixed}
use Rattle.fixed_math.specs.FixedPoint.{floor_quotient}
use Rattle.source_values.specs.declared.decimals.Decimal.{Decimal}
use Rattle.source_values.specs.Decimals.{is_whole}

-- how many billionths a decimal is, with its sign
abbrev pub size_in_billionths : Decimal → ℕ
size_in_billionths d = 1000000000 * d.whole + d.billionths

abbrev pub in_billionths : Decimal → ℤ
in_billionths d =
    if d.negative then neg_ℤ (pos (size_in_billionths d)) else pos (size_in_billionths d)

-- the number in 16.16 that is nearest to a decimal; of two that are equally near the greater. Its
-- raw number is 65536 times the decimal, rounded
unfoldable pub nearest_raw : Decimal → ℤ
nearest_raw d =
    floor_quotient (in_billionths d *ℤ pos 65536 +ℤ pos 500000000) (pos 1000000000)

abbrev pub nearest : Decimal → Fixed
nearest d = record { 0 = nearest_raw d }

-- whether a decimal is at most so much in size
abbrev pub is_at_most : ℕ → Decimal → Bool
is_at_most bound d = nat_lt d.whole bound || (d.whole == bound && d.billionths == 0)

-- whether a decimal is 0
abbrev pub is_zero_decimal : Decimal → Bool
is_zero_decimal d = d.whole == 0 && d.billionths == 0

-- whether an angle in degrees is a multiple of 90
abbrev pub is_quarter_turn : Decimal → Bool
is_quarter_turn d = is_whole d && (d.whole % 90) == 0

-- the quarter turns that such an angle comes to, counterclockwise, 0 to 3: a turn back by one
-- quarter is three quarters
abbrev pub quarters_in : Decimal → ℕ
quarters_in d =
    if d.negative then (4 - ((d.whole / 90) % 4)) % 4 else (d.whole / 90) % 4

-- an angle without its full turns, which turns as much
abbrev pub without_full_turns : Decimal → Decimal
without_full_turns d = record {
  negative = d.negative;
  whole = d.whole % 360;
  billionths = d.billionths;
}
