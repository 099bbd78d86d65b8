-- One turn of a loop that goes over a list and adds to another one: what is there, with what the
-- rest adds, stays the same.
use Rattle.std.proofs.Common.{◌≡◌, ℕ, ◌+◌, ◌<◌, List, [], ◌∷◌, ◌++◌, length, get_or, drop, map}
use Rattle.std.proofs.Common.{refl, sym, ap, ◌∙◌, append_assoc}
use Rattle.std.proofs.lemmas.List.{drop_more}
use Rattle.std.specs.Prelude.{flat_map}

-- each item adds a list
pub flat_map_turn : {X Y : Type 0} (f : X → List Y) (xs : List X) (i : ℕ) (d : X)
    (acc next all : List Y) → i < length xs → next ≡ acc ++ f (get_or xs i d)
    → acc ++ flat_map f (drop i xs) ≡ all → next ++ flat_map f (drop (i + 1) xs) ≡ all
flat_map_turn {X} {Y} f xs i d acc next all lt e h =
    ap (λ (n : List Y). n ++ flat_map f (drop (i + 1) xs)) e
    ∙ append_assoc acc (f (get_or xs i d)) (flat_map f (drop (i + 1) xs))
    ∙ sym (ap (λ (ys : List X). acc ++ flat_map f ys) (drop_more xs i d lt))
    ∙ h

-- each item adds one
pub map_turn : {X Y : Type 0} (f : X → Y) (xs : List X) (i : ℕ) (d : X) (acc next all : List Y)
    → i < length xs → next ≡ acc ++ f (get_or xs i d) ∷ [] → acc ++ map f (drop i xs) ≡ all
    → next ++ map f (drop (i + 1) xs) ≡ all
map_turn {X} {Y} f xs i d acc next all lt e h =
    ap (λ (n : List Y). n ++ map f (drop (i + 1) xs)) e
    ∙ append_assoc acc (f (get_or xs i d) ∷ []) (map f (drop (i + 1) xs))
    ∙ sym (ap (λ (ys : List X). acc ++ map f ys) (drop_more xs i d lt))
    ∙ h

-- each item adds itself
pub copy_turn : {X : Type 0} (xs : List X) (i : ℕ) (d : X) (acc next all : List X) → i < length xs
    → next ≡ acc ++ get_or xs i d ∷ [] → acc ++ drop i xs ≡ all → next ++ drop (i + 1) xs ≡ all
copy_turn {X} xs i d acc next all lt e h =
    ap (λ (n : List X). n ++ drop (i + 1) xs) e
    ∙ append_assoc acc (get_or xs i d ∷ []) (drop (i + 1) xs)
    ∙ sym (ap (λ (ys : List X). acc ++ ys) (drop_more xs i d lt))
    ∙ h
