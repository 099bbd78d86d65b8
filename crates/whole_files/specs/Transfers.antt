-- How far a path has been read or written. fontc's own.
use Rattle.std.specs.Prelude.{◌≡◌, ◌++◌, List, ℕ, IfSome}
use Rattle.outside_io.specs.Files.{Holding, told_bytes}

-- these are first bytes of what the path holds, where it is told
abbrev pub BeginsWith : Holding → List ℕ → Type 0
BeginsWith holding front = IfSome (told_bytes holding)
    (λ bytes. (rest : List ℕ) × (front ++ rest ≡ bytes))
