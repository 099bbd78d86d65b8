-- The characters of a property list, by their codes: white space, those of bare words, and digits.
-- Fontc's own, narrowed from the format of NeXTSTEP that Glyphs writes.
use Rattle.std.specs.Prelude.{ℕ, ◌+◌, ◌-◌, ◌*◌, option_and_then, Bool, ◌&&◌, ◌||◌, not, ◌==◌}
use Rattle.std.specs.Prelude.{nat_le, Option, Some, None, if◌then◌else◌}

-- space, tab, carriage return and line feed
unfoldable pub is_space : ℕ → Bool
is_space c = c == 32 || c == 9 || c == 13 || c == 10

-- whether a code lies between two others
abbrev pub is_between : ℕ → ℕ → ℕ → Bool
is_between low high c = nat_le low c && nat_le c high

-- { } ( ) = ; , " ' < > \
abbrev pub is_mark : ℕ → Bool
is_mark c = c == 123 || c == 125 || c == 40 || c == 41 || c == 61 || c == 59 || c == 44 || c == 34
    || c == 39 || c == 60 || c == 62 || c == 92

-- what a bare word is made of: each visible character of ASCII but the marks
unfoldable pub is_word : ℕ → Bool
is_word c = is_between 33 126 c && not (is_mark c)

-- the value of an octal digit
unfoldable pub octal_value : ℕ → Option ℕ
octal_value c = if is_between 48 55 c then Some (c - 48) else None

-- the value of a hexadecimal digit, of either case
unfoldable pub hex_value : ℕ → Option ℕ
hex_value c = if is_between 48 57 c then Some (c - 48)
    else (if is_between 65 70 c then Some (c - 55)
    else (if is_between 97 102 c then Some (c - 87) else None))

-- the byte of two hexadecimal digits
unfoldable pub byte_of : ℕ → ℕ → Option ℕ
byte_of high low = option_and_then (λ a. option_and_then (λ b. Some (a * 16 + b)) (hex_value low))
    (hex_value high)
