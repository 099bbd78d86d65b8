-- Rows that are formed one point after another.
use Rattle.std.proofs.Common.{◌≡◌, ℕ, ℤ, suc, ◌+◌, ◌-◌, ◌<◌, List, [], ◌∷◌, ◌++◌, map, ap}
use Rattle.std.proofs.Common.{sym, ◌∙◌, arith, append_assoc, Option, None}
use Rattle.std.proofs.lemmas.List.{map_push}
use Rattle.std.specs.List.{range_with_len}
use Rattle.fixed_math.specs.declared.F2Dot14.{F2Dot14}
use Rattle.variation_model.specs.Deltas.{deltas_of, first_large}
use Rattle.variation_model.specs.declared.errors.DeltaError.{DeltaError}
use Rattle.variation_model.specs.declared.errors.DeltaError.TheVariants as delta_errors
use Rattle.gvar_writer.specs.GlyphPoints.{numbers_of, or_else, first_refused}
use Rattle.gvar_writer.specs.RowAnswers.{RefusesDelta}
use Rattle.gvar_writer.specs.declared.positions.Position.{Position}
use Rattle.gvar_writer.specs.declared.positions.Coordinate.{Coordinate}

abbrev pub row_of : Coordinate → List (List F2Dot14) → List (List Position) → ℕ → List ℤ
row_of coordinate places by_place i = deltas_of places (numbers_of coordinate by_place i)

-- n rows from the i-th point on
abbrev pub rows_from : Coordinate → List (List F2Dot14) → List (List Position) → ℕ → ℕ
    → List (List ℤ)
rows_from coordinate places by_place i n =
    map (row_of coordinate places by_place) (range_with_len i n)

pub rows_more : (coordinate : Coordinate) (places : List (List F2Dot14))
    (by_place : List (List Position)) (i count : ℕ) → i < count
    → rows_from coordinate places by_place i (count - i)
    ≡ row_of coordinate places by_place i
    ∷ rows_from coordinate places by_place (i + 1) (count - (i + 1))
rows_more coordinate places by_place i count within =
    let n : count - i ≡ suc (count - (i + 1)) = omega arith in
    ap (rows_from coordinate places by_place i) n

-- the first row that is refused decides
pub refuse_first : (e : DeltaError) (row : List ℤ) (rows : List (List ℤ)) (all : Option (ℕ × ℤ))
    → first_refused (row ∷ rows) ≡ all → RefusesDelta e (first_large 0 row) → RefusesDelta e all
refuse_first (delta_errors.TooLarge at value) row rows all whole h =
    sym whole ∙ ap (λ large. or_else large (first_refused rows)) h
refuse_first delta_errors.NoMemory row rows all whole h = tt

pub rows_step : {V : Type 0} (items : V → List ℤ) (before after : List V) (row : V) (own : List ℤ)
    (rest all : List (List ℤ)) → after ≡ before ++ row ∷ [] → items row ≡ own
    → map items before ++ (own ∷ rest) ≡ all → map items after ++ rest ≡ all
rows_step items before after row own rest all e is told =
    ap (λ rows. rows ++ rest) (ap (map items) e ∙ map_push items before row)
    ∙ append_assoc (map items before) (items row ∷ []) rest
    ∙ ap (λ own. map items before ++ (own ∷ rest)) is
    ∙ told

pub accept_first : (row : List ℤ) (rows : List (List ℤ)) (all : Option (ℕ × ℤ))
    → first_large 0 row ≡ None → first_refused (row ∷ rows) ≡ all → first_refused rows ≡ all
accept_first row rows all none told =
    sym (ap (λ large. or_else large (first_refused rows)) none) ∙ told
