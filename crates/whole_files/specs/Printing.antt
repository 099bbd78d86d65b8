-- What a console takes while lines are printed on it, as far as it tells it. fontc's own.
use Rattle.std.specs.Prelude.{◌≡◌, ◌⊎◌, ℕ, List, take, Option}
use Rattle.outside_io.specs.Console.{TookNow, with_more}
use Rattle.outside_io.specs.Counts.{HasRisen}

-- all bytes that a console took, where it tells them, and how many writes have failed
pub record Printed : Type 0 where
  pub took : Option (List ℕ)
  pub failures : ℕ

-- a console, by its meanings
abbrev pub printed : {D : Type 0} → (D → Option (List ℕ)) → (D → ℕ) → D → Printed
printed took failures console = record { took = took console; failures = failures console }

-- the console took these bytes behind those before, and no write has failed
abbrev pub PrintsAll : List ℕ → Printed → Printed → Type 0
PrintsAll bytes old new =
    TookNow (with_more bytes old.took) new.took × (new.failures ≡ old.failures)

-- a write has failed, and the console took first bytes of these
abbrev pub PrintsPart : List ℕ → Printed → Printed → Type 0
PrintsPart bytes old new = ((n : ℕ) × TookNow (with_more (take n bytes) old.took) new.took)
    × HasRisen old.failures new.failures

-- one or the other
abbrev pub Prints : List ℕ → Printed → Printed → Type 0
Prints bytes old new = PrintsAll bytes old new ⊎ PrintsPart bytes old new
