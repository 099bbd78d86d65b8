-- The least and the greatest of some numbers: members of them, and none of them is below the one or
-- above the other.
use Rattle.std.specs.Prelude.{ℤ, pos, ◌≤ℤ◌, List, [], ◌∷◌}
use Rattle.std.specs.List.{All, Contains, fold}
use Rattle.std.specs.Int.{int_min, int_max}

pub record IsLeast (numbers : List ℤ) (n : ℤ) : Type 0 where
  pub there : Contains numbers n
  pub none_below : All (λ other. n ≤ℤ other) numbers

pub record IsGreatest (numbers : List ℤ) (n : ℤ) : Type 0 where
  pub there : Contains numbers n
  pub none_above : All (λ other. other ≤ℤ n) numbers

-- functions that compute them; 0 of no numbers
abbrev pub least : List ℤ → ℤ
least [] = pos 0
least (n ∷ others) = fold int_min n others

abbrev pub greatest : List ℤ → ℤ
greatest [] = pos 0
greatest (n ∷ others) = fold int_max n others
