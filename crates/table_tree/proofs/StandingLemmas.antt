-- Where nodes stand, by the keys of a map that are lists.
use Rattle.std.proofs.Common.{◌≡◌, ℕ, List, [], ◌∷◌, map, nat_eq, Option, Some, cond, refl, ap}
use Rattle.std.specs.Prelude.{Vec}
use Rattle.std.specs.declared.alloc.Global.{Global}
use Rattle.std.specs.Map.{lookup}
use Rattle.std.specs.Cmp.Lexicographic.{pointwise}

abbrev pub Entry : Type 0
Entry = Vec ℕ Global × ℕ

abbrev pub pair : Entry → List ℕ × ℕ
pair entry = (entry.0.items, entry.1)

pub lookup-map : (key : List ℕ) (entries : List Entry)
    → lookup (λ k. pointwise nat_eq key k.items) entries
    ≡ lookup (pointwise nat_eq key) (map pair entries)
lookup-map key [] = refl
lookup-map key (e ∷ entries) = ap (λ (r : Option ℕ). cond (pointwise nat_eq key e.0.items)
    (Some e.1) r) (lookup-map key entries)
