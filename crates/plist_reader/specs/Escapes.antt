-- Escapes of quoted strings, as the reader takes them, a character at a time. Nobody has to believe
-- it: `IsEscape` of Grammar says which escapes there are. They are \" \\ \n \r \t, three octal
-- digits up to 177, and \U with four hexadecimal digits, where a high surrogate is followed by \U
-- and a low one. Which escapes there are is fontc's own; surrogates are those of UTF-16 (the
-- Unicode Standard, section 3.9).
use Rattle.std.specs.Prelude.{ℕ, ◌+◌, ◌-◌, ◌*◌, ◌&&◌, ◌||◌, ◌==◌, nat_lt, nat_le, Option, Some}
use Rattle.std.specs.Prelude.{None, if◌then◌else◌}
use lib.Utf8.{scalar}
use Rattle.plist_reader.specs.Characters.{octal_value, hex_value}
use Rattle.plist_reader.specs.declared.escape.Escape.{Escape}
use Rattle.plist_reader.specs.declared.escape.Escape.TheVariants.{Begun, Octal, Octals, Unit0}
use Rattle.plist_reader.specs.declared.escape.Escape.TheVariants.{Unit1, Unit2, Unit3, High}
use Rattle.plist_reader.specs.declared.escape.Escape.TheVariants.{HighBackslash, Low, Low1, Low2}
use Rattle.plist_reader.specs.declared.escape.Escape.TheVariants.{Low3}
use Rattle.plist_reader.specs.declared.escape.Escaped.{Escaped}
use Rattle.plist_reader.specs.declared.escape.Escaped.TheVariants.{More, Whole, Wrong}

-- the character with this code, where there is one
unfoldable pub character_of : ℕ → Escaped
character_of code = if scalar code then Whole code else Wrong

-- what follows the backslash
unfoldable pub escape_begun : ℕ → Escaped
escape_begun c = if c == 34 || c == 92 then Whole c
    else (if c == 110 then Whole 10
    else (if c == 114 then Whole 13
    else (if c == 116 then Whole 9
    else (if c == 48 then More (Octal 0)
    else (if c == 49 then More (Octal 1)
    else (if c == 85 then More Unit0 else Wrong))))))

-- the four digits of a unit of UTF-16: a high surrogate awaits its low one
unfoldable pub escape_unit : ℕ → ℕ → ℕ → ℕ → Escaped
escape_unit a b c d = let unit = a * 4096 + b * 256 + c * 16 + d in
    if nat_le 0xD800 unit && nat_lt unit 0xDC00 then More (High (unit - 0xD800)) else character_of
    unit

-- a hexadecimal digit; no unit that stands first is a low surrogate, and each that stands second is
unfoldable pub escape_digit : Escape → ℕ → Escaped
escape_digit Unit0 d = More (Unit1 d)
escape_digit (Unit1 a) d = if a == 13 && nat_le 12 d then Wrong else More (Unit2 a d)
escape_digit (Unit2 a b) d = More (Unit3 a b d)
escape_digit (Unit3 a b c) d = escape_unit a b c d
escape_digit (Low high) d = if d == 13 then More (Low1 high) else Wrong
escape_digit (Low1 high) d = if nat_le 12 d then More (Low2 high (d - 12)) else Wrong
escape_digit (Low2 high b) d = More (Low3 high b d)
escape_digit (Low3 high b c) d = character_of (0x1_0000 + high * 1024 + (b * 256 + c * 16 + d))
escape_digit Begun d = Wrong
escape_digit (Octal a) d = Wrong
escape_digit (Octals a b) d = Wrong
escape_digit (High high) d = Wrong
escape_digit (HighBackslash high) d = Wrong

abbrev pub with_hex : Escape → Option ℕ → Escaped
with_hex escape None = Wrong
with_hex escape (Some d) = escape_digit escape d

abbrev pub with_octal : ℕ → Option ℕ → Escaped
with_octal a None = Wrong
with_octal a (Some b) = More (Octals a b)

abbrev pub with_last_octal : ℕ → ℕ → Option ℕ → Escaped
with_last_octal a b None = Wrong
with_last_octal a b (Some c) = character_of (a * 64 + b * 8 + c)

-- what the next character makes of an escape
unfoldable pub escape_next : Escape → ℕ → Escaped
escape_next Begun c = escape_begun c
escape_next (Octal a) c = with_octal a (octal_value c)
escape_next (Octals a b) c = with_last_octal a b (octal_value c)
escape_next (High high) c = if c == 92 then More (HighBackslash high) else Wrong
escape_next (HighBackslash high) c = if c == 85 then More (Low high) else Wrong
escape_next Unit0 c = with_hex Unit0 (hex_value c)
escape_next (Unit1 a) c = with_hex (Unit1 a) (hex_value c)
escape_next (Unit2 a b) c = with_hex (Unit2 a b) (hex_value c)
escape_next (Unit3 a b d) c = with_hex (Unit3 a b d) (hex_value c)
escape_next (Low high) c = with_hex (Low high) (hex_value c)
escape_next (Low1 high) c = with_hex (Low1 high) (hex_value c)
escape_next (Low2 high b) c = with_hex (Low2 high b) (hex_value c)
escape_next (Low3 high b d) c = with_hex (Low3 high b d) (hex_value c)
