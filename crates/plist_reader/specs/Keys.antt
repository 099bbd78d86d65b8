-- Keys of a dictionary: two are the same where their bytes are, after escapes are undone. Fontc's
-- own.
use Rattle.std.specs.Prelude.{ℕ, Bool, List, nat_eq}
use Rattle.std.specs.Cmp.Lexicographic.{pointwise}
use Rattle.std.specs.List.{list_any}

-- whether a text is one of these
abbrev pub is_among : List ℕ → List (List ℕ) → Bool
is_among text keys = list_any (pointwise nat_eq text) keys
