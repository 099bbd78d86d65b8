-- What workers write down in their turns at a turnstile. fontc's own.
-- A worker writes the numbers 0, 1, 2 and so on, each with its own number beside it.
use Rattle.std.specs.Prelude.{◌≡◌, ℕ, zero, suc, ◌<◌, false, List, [], ◌∷◌, ◌++◌, length}
use Rattle.std.specs.Prelude.{slice_index_or}
use Rattle.turnstile.specs.Passes.{TurnstileView, PassView}

-- so many numbers of a worker, in order
abbrev pub numbers_of : ℕ → ℕ → List (ℕ × ℕ)
numbers_of worker zero = []
numbers_of worker (suc n) = numbers_of worker n ++ (worker, n) ∷ []

-- a list that has the first numbers of a worker, in order, and nothing else
abbrev pub IsInOrder : ℕ → List (ℕ × ℕ) → Type 0
IsInOrder worker list = (n : ℕ) × (list ≡ numbers_of worker n)

-- a pass of the turnstile that has no turn out and has written nothing down
abbrev pub IsFresh : TurnstileView → PassView ℕ ℕ → Type 0
IsFresh turnstile p = (p.table ≡ turnstile.table) × (p.is_out ≡ false) × (p.mine ≡ [])

-- a pass of the turnstile that has no turn out and has written its numbers down in order
abbrev pub IsDone : TurnstileView → PassView ℕ ℕ → Type 0
IsDone turnstile p = (p.table ≡ turnstile.table) × (p.is_out ≡ false) × IsInOrder p.worker p.mine

-- the passes in each place have the same number
abbrev pub SameWorkers : List (PassView ℕ ℕ) → List (PassView ℕ ℕ) → Type 0
SameWorkers old new = (k : ℕ) (d : PassView ℕ ℕ) → k < length old
    → (slice_index_or new k d).worker ≡ (slice_index_or old k d).worker
