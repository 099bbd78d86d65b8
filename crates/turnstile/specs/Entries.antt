-- Lists of entries, each with the number of the worker that made it. fontc's own.
use Rattle.std.specs.Prelude.{◌≡◌, ℕ, nat_eq, List, [], ◌∷◌, ◌++◌, filter, ◌⊎◌}

module _ {E : Type 0} where
  -- the entries of one worker, in order
  abbrev pub entries_of : ℕ → List (ℕ × E) → List (ℕ × E)
  entries_of worker list = filter (λ (e : ℕ × E). nat_eq e.0 worker) list

  -- the list begins with these entries
  abbrev pub BeginsWith : List (ℕ × E) → List (ℕ × E) → Type 0
  BeginsWith list seen = (rest : List (ℕ × E)) × (list ≡ seen ++ rest)

  -- the list has what was seen, and then at most one entry more, of this worker
  abbrev pub AddsAtMostOne : ℕ → List (ℕ × E) → List (ℕ × E) → Type 0
  AddsAtMostOne worker seen list = (list ≡ seen)
      ⊎ ((entry : E) × (list ≡ seen ++ (worker, entry) ∷ []))
