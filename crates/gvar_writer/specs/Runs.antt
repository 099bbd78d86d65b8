-- Values that are packed in runs: a control byte says how a run's values are written and how many
-- they are, less one, and then they follow (OpenType 1.9, "Tuple variation store", "Packed point
-- numbers" and "Packed deltas"). That each run is as long as can be is fontc's own.
use Rattle.std.specs.Prelude.{◌≡◌, ◌≢◌, ℕ, ◌+◌, ◌<◌, ◌≤◌, Bool, true, ◌==◌, ◌&&◌, nat_lt}
use Rattle.std.specs.Prelude.{if◌then◌else◌, List, [], ◌∷◌, ◌++◌, length}
use Rattle.std.specs.List.{AllByRecursion, flat_map}

-- ---- what the longest runs are

-- values that are all written alike, and of which there are not too many
pub record IsRun {A : Type 0} (flags : A → ℕ) (most : ℕ) (first : A) (more : List A)
    : Type 0 where
  pub alike : AllByRecursion (λ x. flags x ≡ flags first) more
  pub short : length (first ∷ more) ≤ most

abbrev pub AreRuns : {A : Type 0} → (A → ℕ) → ℕ → List (List A) → Type 0
AreRuns flags most [] = Unit {0}
AreRuns flags most ([] ∷ runs) = ⊥
AreRuns flags most ((first ∷ more) ∷ runs) = IsRun flags most first more
    × AreRuns flags most runs

-- the first value of the next run couldn't stand in this one: it is written in another way, or the
-- run is full
abbrev pub IsEnded : {A : Type 0} → (A → ℕ) → ℕ → List A → List (List A) → Type 0
IsEnded flags most (first ∷ more) ((next ∷ others) ∷ runs) =
    length (first ∷ more) < most → flags first ≢ flags next
IsEnded flags most run runs = Unit {0}

abbrev pub AreEnded : {A : Type 0} → (A → ℕ) → ℕ → List (List A) → Type 0
AreEnded flags most [] = Unit {0}
AreEnded flags most (run ∷ runs) = IsEnded flags most run runs × AreEnded flags most runs

-- the runs stand for exactly these values, in order, and each is as long as can be
pub record AreLongestRuns {A : Type 0} (flags : A → ℕ) (most : ℕ) (values : List A)
    (runs : List (List A)) : Type 0 where
  pub whole : flat_map (λ run. run) runs ≡ values
  pub are_runs : AreRuns flags most runs
  pub ended : AreEnded flags most runs

-- ---- the same as a function: each value goes into the run before it, where it can stand there

abbrev pub goes_on : {A : Type 0} → (A → ℕ) → ℕ → List A → A → Bool
goes_on flags most [] x = true
goes_on flags most (first ∷ more) x = (flags first == flags x)
    && nat_lt (length (first ∷ more)) most

-- the runs of a run that has begun and of the values after it
abbrev pub runs_after : {A : Type 0} → (A → ℕ) → ℕ → List A → List A → List (List A)
runs_after flags most run [] = run ∷ []
runs_after flags most run (x ∷ xs) =
    if goes_on flags most run x then runs_after flags most (run ++ x ∷ []) xs else
    (run ∷ runs_after flags most (x ∷ []) xs)

abbrev pub longest_runs : {A : Type 0} → (A → ℕ) → ℕ → List A → List (List A)
longest_runs flags most [] = []
longest_runs flags most (x ∷ xs) = runs_after flags most (x ∷ []) xs

-- ---- as bytes

-- the control byte has the flags and how many values follow the first
abbrev pub run_bytes : {A : Type 0} → (A → ℕ) → (ℕ → A → List ℕ) → List A → List ℕ
run_bytes flags bytes [] = []
run_bytes flags bytes (first ∷ more) =
    (flags first + length more) ∷ flat_map (bytes (flags first)) (first ∷ more)

abbrev pub packed : {A : Type 0} → (A → ℕ) → ℕ → (ℕ → A → List ℕ) → List A → List ℕ
packed flags most bytes values = flat_map (run_bytes flags bytes) (longest_runs flags most values)
