-- Decimals, as a source writes them: an optional minus sign, digits, and maybe a point and more
-- digits. A decimal is exact to nine digits of fraction; later digits are dropped. fontc's own
-- reading of the numbers of the Glyphs file format, version 3.
use Rattle.std.specs.Prelude.{ℕ, ◌+◌, ◌-◌, ◌*◌, zero, suc, min, Bool, true, false, ◌&&◌, ◌||◌, not}
use Rattle.std.specs.Prelude.{◌==◌, nat_lt, nat_le, List, take, drop, length, fold, position}
use Rattle.std.specs.Prelude.{slice_index, slice_index_or, Option, Some, None, if◌then◌else◌}
use Rattle.std.specs.List.{list_all}
use Rattle.std.specs.Char.{is_ascii_digit}
use Rattle.source_values.specs.declared.decimals.Decimal.{Decimal}

-- one digit or more, and nothing else
unfoldable pub are_digits : List ℕ → Bool
are_digits text = nat_lt 0 (length text) && list_all is_ascii_digit text

-- the number that digits spell, the greatest first
unfoldable pub digits_value : List ℕ → ℕ
digits_value digits = fold (λ n d. 10 * n + (d - 48)) 0 digits

-- the number that the first digits of a fraction spell, with zeros where it has no more
abbrev pub first_digits : List ℕ → ℕ → ℕ
first_digits digits zero = 0
first_digits digits (suc k) = 10 * first_digits digits k + (slice_index_or digits k 48 - 48)

-- a fraction in billionths
unfoldable pub billionths_of : List ℕ → ℕ
billionths_of digits = first_digits digits 9

-- a decimal with a fraction: digits before the point and behind it
unfoldable pub fraction_of : Bool → List ℕ → List ℕ → Option Decimal
fraction_of negative front back =
    if are_digits front && are_digits back
    then Some (record {
      negative = negative;
      whole = digits_value front;
      billionths
          = billionths_of back;
    })
    else None

-- a decimal without its sign: digits, or digits on both sides of the first point
abbrev pub unsigned_by : Bool → List ℕ → Option ℕ → Option Decimal
unsigned_by negative text None =
    if are_digits text
    then Some (record { negative = negative; whole = digits_value text; billionths = 0 })
    else None
unsigned_by negative text (Some point) = fraction_of negative (take point text)
    (drop (point + 1) text)

unfoldable pub unsigned_of : Bool → List ℕ → Option Decimal
unsigned_of negative text = unsigned_by negative text (position (λ byte. byte == 46) text)

-- the decimal that a text spells: 45 is the minus sign
unfoldable pub decimal_of : List ℕ → Option Decimal
decimal_of text = if slice_index text 0 == 45 then unsigned_of true (drop 1 text) else unsigned_of
    false text

-- a decimal with its parts cut to 1000000000, which is greater than each number that any value of a
-- source may have. Billionths are below it anyway
abbrev pub cut : Decimal → Decimal
cut d = record {
  negative = d.negative;
  whole = min d.whole 1000000000;
  billionths
      = min d.billionths 1000000000;
}

-- whether a decimal is a whole number
abbrev pub is_whole : Decimal → Bool
is_whole d = d.billionths == 0

-- whether a decimal's whole part is from low to high, with its sign
abbrev pub is_natural_in : ℕ → ℕ → Decimal → Bool
is_natural_in low high d = (not d.negative || d.whole == 0)
    && (nat_le low d.whole && nat_le d.whole high)
