-- Packed point numbers (OpenType 1.9, "Tuple variation store", "Packed point numbers").
use Rattle.std.specs.Prelude.{ℕ, ◌+◌, ◌-◌, ◌%◌, ◌==◌, nat_le, nat_lt, if◌then◌else◌, List, [], ◌∷◌}
use Rattle.std.specs.Prelude.{◌++◌, length}
use Rattle.table_bytes.specs.DataTypes.{uint16}
use Rattle.gvar_writer.specs.Runs.{packed}

-- each number is told as its difference from the one before it
abbrev pub differences : ℕ → List ℕ → List ℕ
differences before [] = []
differences before (number ∷ numbers) = (number - before) ∷ differences number numbers

-- POINTS_ARE_WORDS, or not for differences of one byte
abbrev pub point_flags : ℕ → ℕ
point_flags difference = if nat_le difference 255 then 0 else 128

-- a difference of a run with these flags, in two bytes or the lower one of them
abbrev pub point_bytes : ℕ → ℕ → List ℕ
point_bytes flags difference = if flags == 128 then uint16 difference else ((difference % 256) ∷ [])

-- how many numbers there are: in one byte, or in two of which the first has its highest bit set
abbrev pub count_bytes : ℕ → List ℕ
count_bytes count = if nat_lt count 128 then (count ∷ []) else uint16 (32768 + count)

-- a run has at most 128 numbers
unfoldable pub packed_differences : List ℕ → List ℕ
packed_differences numbers = packed point_flags 128 point_bytes numbers

-- the first number is told as it is
abbrev pub packed_points : List ℕ → List ℕ
packed_points numbers = count_bytes (length numbers) ++ packed_differences (differences 0 numbers)
