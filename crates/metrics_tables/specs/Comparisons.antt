-- Numbers compared one by one: the lesser and the greater of two of which the first may not be
-- there, and the greatest of counts.
use Rattle.std.specs.Prelude.{ℕ, max, ℤ, List, [], ◌∷◌, Option, None, Some}
use Rattle.std.specs.Int.{int_min, int_max}

-- the lesser and the greater of a number, where there is one, and another
abbrev pub lesser_of : Option ℤ → ℤ → ℤ
lesser_of None y = y
lesser_of (Some x) y = int_min x y

abbrev pub greater_of : Option ℤ → ℤ → ℤ
greater_of None y = y
greater_of (Some x) y = int_max x y

-- the greatest of counts; 0 of none
abbrev pub greatest_count : List ℕ → ℕ
greatest_count [] = 0
greatest_count (n ∷ others) = max n (greatest_count others)
