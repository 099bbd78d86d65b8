-- Lists that are made item by item, where each item's number counts too.
use Rattle.std.specs.Prelude.{ℕ, ◌+◌, List, [], ◌∷◌, ◌++◌}

-- what each item adds, with its number; the first one has the number k
abbrev pub flat_numbered : {X Y : Type 0} → (ℕ → X → List Y) → ℕ → List X → List Y
flat_numbered f k [] = []
flat_numbered f k (x ∷ xs) = f k x ++ flat_numbered f (k + 1) xs

-- what each item becomes, with its number
abbrev pub numbered : {X Y : Type 0} → (ℕ → X → Y) → ℕ → List X → List Y
numbered f k [] = []
numbered f k (x ∷ xs) = f k x ∷ numbered f (k + 1) xs
