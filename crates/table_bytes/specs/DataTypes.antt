-- The numbers that tables are made of (OpenType 1.9, "Data types"): the highest byte first, a
-- negative number as its two's complement. And the bytes that are written to fill a table up.
use Rattle.std.specs.Prelude.{ℕ, ◌-◌, ◌%◌, ℤ, List, ◌++◌, length, replicate}
use Rattle.std.specs.Int.{w16, w32, w64, to_be_bytes, cast_unsigned}

abbrev pub uint16 : ℕ → List ℕ
uint16 n = to_be_bytes w16 n

abbrev pub uint32 : ℕ → List ℕ
uint32 n = to_be_bytes w32 n

abbrev pub int16 : ℤ → List ℕ
int16 z = uint16 (cast_unsigned w16 z)

-- LONGDATETIME: the seconds since the first of January 1904, in 64 bits with a sign
abbrev pub long_date_time : ℤ → List ℕ
long_date_time z = to_be_bytes w64 (cast_unsigned w64 z)

-- how many bytes are missing to a multiple of four
abbrev pub padding : ℕ → ℕ
padding n = (4 - n % 4) % 4

-- bytes, and zeros up to a multiple of four
abbrev pub padded : List ℕ → List ℕ
padded bytes = bytes ++ replicate (padding (length bytes)) 0
