-- A store to which rows are added one by one, and which keeps each row once.
use Rattle.std.specs.Prelude.{◌≡◌, ◌≢◌, ℕ, ℤ, List, [], ◌∷◌, ◌++◌, length, is_some, if◌then◌else◌}
use Rattle.std.specs.Prelude.{Option, Some, None, Result, Ok, Err, nat_eq}
use Rattle.std.specs.List.{AllPairs, position}
use Rattle.std.specs.Option.{unwrap_or}
use Rattle.std.specs.Ordering.{int_eq}
use Rattle.std.specs.Cmp.Lexicographic.{pointwise}
use Rattle.region_store.specs.Stores.{Store, IsStore}
use Rattle.region_store.specs.declared.errors.StoreError.{StoreError}
use Rattle.region_store.specs.declared.errors.StoreError.TheVariants as store_errors

-- a store whose rows are all different
pub record IsBuilt (store : Store) : Type 0 where
  pub is_store : IsStore store
  pub different : AllPairs (λ a b. a ≢ b) store.rows

-- the first place of a row
abbrev pub place_among : List (List ℤ) → List ℤ → Option ℕ
place_among rows row = position (pointwise int_eq row) rows

-- the place of a row that is added: where it stands first, else behind the others
abbrev pub place_of_row : List (List ℤ) → List ℤ → ℕ
place_of_row rows row = unwrap_or (place_among rows row) (length rows)

-- a row that stands there is not added again
abbrev pub rows_with : List (List ℤ) → List ℤ → List (List ℤ)
rows_with rows row = if is_some (place_among rows row) then rows else rows ++ row ∷ []

-- the number of rows, where there is no room for a row: 65,535 stand there, and it is not among
-- them
abbrev pub lacks_room : List (List ℤ) → List ℤ → Option ℕ
lacks_room rows row =
    if is_some (place_among rows row) then None else if nat_eq (length rows) 65535 then Some
    (length rows) else None

-- Exactly where there is no room that is the error; else the answer is the outer index, 0, and the
-- inner one, the row's place. Memory may run out.
abbrev pub RefusesRow : StoreError → Option ℕ → Type 0
RefusesRow (store_errors.Full n) lacks = lacks ≡ Some n
RefusesRow store_errors.NoMemory lacks = Unit {0}

abbrev pub AddsRow : Result (ℕ × ℕ) StoreError → List (List ℤ) → List ℤ → Type 0
AddsRow (Ok place) rows row = (lacks_room rows row ≡ None) × (place ≡ (0, place_of_row rows row))
AddsRow (Err e) rows row = RefusesRow e (lacks_room rows row)
