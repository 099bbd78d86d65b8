-- One turn of a loop that notes what fails of each of a list.
use Rattle.std.proofs.Common.{◌≡◌, ℕ, ◌+◌, ◌<◌, List, length, get_or, drop, Option, sym, ap, ◌∙◌}
use Rattle.std.proofs.lemmas.List.{at_drop_more}
use Rattle.std.specs.Prelude.{flat_map}
use Rattle.refusal_codes.specs.declared.first.Failure.{Failure}
use Rattle.refusal_codes.specs.First.{noted}
use Rattle.refusal_codes.specs.FirstLaws.{noted-append}

-- what is noted of the rest is what is noted of the next one, and then of those behind it
pub noted_turn : {X : Type 0} (f : X → List Failure) (xs : List X) (i : ℕ) (d : X)
    (least next all : Option Failure) → i < length xs → next ≡ noted least (f (get_or xs i d))
    → noted least (flat_map f (drop i xs)) ≡ all → noted next (flat_map f (drop (i + 1) xs)) ≡ all
noted_turn f xs i d least next all lt e h =
    ap (λ (n : Option Failure). noted n (flat_map f (drop (i + 1) xs))) e
    ∙ sym (noted-append least (f (get_or xs i d)) (flat_map f (drop (i + 1) xs)))
    ∙ sym (ap (λ (ys : List Failure). noted least ys)
    (at_drop_more (λ ys. flat_map f ys) xs i d lt))
    ∙ h
