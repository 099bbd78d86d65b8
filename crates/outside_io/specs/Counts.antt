-- Counts of failed calls. fontc's own. A count stands still at its last value, the greatest of 64
-- bits: there it can't show any more that a call failed, so it counts as risen.
use Rattle.std.specs.Prelude.{◌≡◌, ◌⊎◌, ℕ, ◌+◌, ◌<◌, ◌≤◌, min, List}

-- the last value of a count
abbrev pub last_count : ℕ
last_count = 18446744073709551615

-- a count after one more failed call
abbrev pub raised : ℕ → ℕ
raised count = min (count + 1) last_count

-- a count has risen, or couldn't rise any more
abbrev pub HasRisen : ℕ → ℕ → Type 0
HasRisen old new = (old < new) ⊎ (old ≡ last_count)

-- of the counts of all paths, none is lower than before
abbrev pub NoneFalls : (List ℕ → ℕ) → (List ℕ → ℕ) → Type 0
NoneFalls old new = (path : List ℕ) → old path ≤ new path

-- of the counts of all paths, none has changed
abbrev pub NoneRises : (List ℕ → ℕ) → (List ℕ → ℕ) → Type 0
NoneRises old new = (path : List ℕ) → new path ≡ old path
