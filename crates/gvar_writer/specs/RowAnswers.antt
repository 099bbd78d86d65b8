-- What the parts that form deltas answer. For the code alone.
use Rattle.std.specs.Prelude.{◌≡◌, ℕ, ℤ, List, length, map, Option, Some, None, Result, Ok, Err}
use Rattle.std.specs.Prelude.{Vec}
use Rattle.std.specs.List.{All}
use Rattle.std.specs.declared.alloc.Global.{Global}
use Rattle.variation_model.specs.Deltas.{first_large}
use Rattle.variation_model.specs.declared.errors.DeltaError.{DeltaError}
use Rattle.variation_model.specs.declared.errors.DeltaError.TheVariants as delta_errors
use Rattle.gvar_writer.specs.GlyphPoints.{first_refused}

-- the first delta that can't be stored, unless memory ran out
abbrev pub RefusesDelta : DeltaError → Option (ℕ × ℤ) → Type 0
RefusesDelta (delta_errors.TooLarge at value) large = large ≡ Some (at, value)
RefusesDelta delta_errors.NoMemory large = Unit {0}

-- a row of so many deltas where all can be stored, and else the first that can't
abbrev pub GivesRow : Result (Vec ℤ Global) DeltaError → List ℤ → ℕ → Type 0
GivesRow (Ok answer) row count = (answer.items ≡ row) × (first_large 0 row ≡ None)
    × (length answer.items ≡ count)
GivesRow (Err e) row count = RefusesDelta e (first_large 0 row)

-- the same of rows
abbrev pub GivesRows : Result (Vec (Vec ℤ Global) Global) DeltaError → List (List ℤ) → ℕ → Type 0
GivesRows (Ok answer) rows count =
    (map (λ row. row.items) answer.items ≡ rows) × (first_refused rows ≡ None)
    × All (λ row. length row.items ≡ count) answer.items
GivesRows (Err e) rows count = RefusesDelta e (first_refused rows)
