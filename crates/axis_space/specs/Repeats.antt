-- Which place of a list is the first that an earlier one equals. fontc's own: no two masters of a
-- font lie at one place, and no two layers of a glyph.
use Rattle.std.specs.Prelude.{◌≡◌, ◌≢◌, ℕ, ◌<◌, Bool, List, take, length, Option, Some, None}
use Rattle.std.specs.List.{AllPairs, list_any, position, range_with_len}
use Rattle.std.specs.Ordering.{int_eq}
use Rattle.std.specs.Cmp.Lexicographic.{pointwise}
use Rattle.fixed_math.specs.declared.F2Dot14.{F2Dot14}
use Rattle.font_ir.specs.Places.{place_at}

-- the place at i is the first that an earlier one equals: those before it are all different
pub record IsFirstRepeat (places : List (List F2Dot14)) (i : ℕ) : Type 0 where
  pub within : i < length places
  pub again : (j : ℕ) × (j < i) × (place_at places j ≡ place_at places i)
  pub before : AllPairs (λ a b. a ≢ b) (take i places)

-- what is told of places: that all are different, or the first that an earlier one equals
abbrev pub TellsRepeat : List (List F2Dot14) → Option ℕ → Type 0
TellsRepeat places None = AllPairs (λ a b. a ≢ b) places
TellsRepeat places (Some i) = IsFirstRepeat places i

-- The same as a function: of the positions the first at which stands a place that is among those
-- before it.
abbrev pub same_place : List F2Dot14 → List F2Dot14 → Bool
same_place = pointwise (λ a b. int_eq a.0 b.0)

abbrev pub is_again : List (List F2Dot14) → ℕ → Bool
is_again places i = list_any (same_place (place_at places i)) (take i places)

unfoldable pub first_repeat : List (List F2Dot14) → Option ℕ
first_repeat places = position (is_again places) (range_with_len 0 (length places))
