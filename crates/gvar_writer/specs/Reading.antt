-- What a reader finds in packed deltas and in packed point numbers, by the format's own rules
-- (OpenType 1.9, "Tuple variation store", "Packed point numbers" and "Packed deltas").
use Rattle.std.specs.Prelude.{ℕ, zero, suc, ◌+◌, ◌-◌, ◌*◌, ◌%◌, ◌<◌, ◌≤◌, nat_le, nat_lt, Bool}
use Rattle.std.specs.Prelude.{true, false, if◌then◌else◌, ℤ, pos, List, [], ◌∷◌, ◌++◌}
use Rattle.std.specs.Prelude.{replicate}
use Rattle.std.specs.Int.{w8, w16, cast_signed}

-- ---- deltas

-- The deltas of some bytes, of which the first hold `left` more values of a run of words or of
-- bytes. A control byte from 128 on begins a run of zeros, and one from 64 on a run of words; its
-- lower six bits count the values after the first.
abbrev pub read_deltas : Bool → ℕ → List ℕ → List ℤ
read_deltas words zero [] = []
read_deltas words zero (control ∷ bytes) =
    if nat_le 128 control then replicate (control % 64 + 1) (pos 0) ++ read_deltas false 0 bytes
    else read_deltas (nat_le 64 control) (control % 64 + 1) bytes
read_deltas words (suc left) [] = []
read_deltas false (suc left) (byte ∷ bytes) = cast_signed w8 byte ∷ read_deltas false left bytes
read_deltas true (suc left) (high ∷ []) = []
read_deltas true (suc left) (high ∷ low ∷ bytes) = cast_signed w16 (256 * high + low)
    ∷ read_deltas true left bytes

abbrev pub deltas_in : List ℕ → List ℤ
deltas_in bytes = read_deltas false 0 bytes

-- ---- point numbers

-- the numbers after one, of bytes of which the first hold `left` more differences of a run of words
-- or of bytes. A control byte from 128 on begins a run of words; its lower seven bits count the
-- differences after the first.
abbrev pub read_numbers : ℕ → Bool → ℕ → List ℕ → List ℕ
read_numbers before words zero [] = []
read_numbers before words zero (control ∷ bytes) =
    read_numbers before (nat_le 128 control) (control % 128 + 1) bytes
read_numbers before words (suc left) [] = []
read_numbers before false (suc left) (byte ∷ bytes) = (before + byte)
    ∷ read_numbers (before + byte) false left bytes
read_numbers before true (suc left) (high ∷ []) = []
read_numbers before true (suc left) (high ∷ low ∷ bytes) =
    (before + (256 * high + low)) ∷ read_numbers (before + (256 * high + low)) true left bytes

-- how many numbers are told, and the numbers themselves. A first byte from 128 on is the higher one
-- of two, without its highest bit.
abbrev pub numbers_in : List ℕ → ℕ × List ℕ
numbers_in [] = (0, [])
numbers_in (first ∷ []) = (first, [])
numbers_in (first ∷ second ∷ bytes) =
    if nat_lt first 128 then (first, read_numbers 0 false 0 (second ∷ bytes))
    else (256 * (first - 128) + second, read_numbers 0 false 0 bytes)

-- numbers that don't fall, from one on, and are below 65536
abbrev pub AreRising : ℕ → List ℕ → Type 0
AreRising before [] = Unit {0}
AreRising before (number ∷ numbers) = (before ≤ number) × (number < 65536)
    × AreRising number numbers
