-- Where items stand in a list, by their ids: what the index of a job's reads keeps. No contract of
-- a public call cites it. fontc's own.
use Rattle.std.specs.Prelude.{◌≡◌, ℕ, suc, Bool, List, [], ◌∷◌, Option, Some, None, if◌then◌else◌}
use Rattle.std.specs.BTreeMap as tree
use Rattle.std.specs.BTreeMap.{BTreeMap}
use Rattle.std.specs.declared.cmp.Ordering.{Ordering}

-- the place of the first item with this id, where the first item of all stands at a place that is
-- given
abbrev pub place_from : {Id X : Type 0} → (Id → Id → Bool) → ℕ → List (Id × X) → Id → Option ℕ
place_from same place [] id = None
place_from same place (item ∷ items) id = if same item.0 id then Some place else place_from same
    (suc place) items id

-- a map from each id to the place of its first item
abbrev pub IsIndex : {Id X : Type 0} → (Id → Id → Bool) → (Id → Id → Ordering) → BTreeMap Id ℕ
    → List (Id × X) → Type 0
IsIndex {Id} same order places items = (id : Id)
    → tree.get order places id ≡ place_from same 0 items id
