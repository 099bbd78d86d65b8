-- What a model keeps: its places, their order and regions, and by how much each region counts at
-- the places after its own. That is fontc's own.
use Rattle.std.specs.Prelude.{◌≡◌, ℕ, ◌+◌, ◌≤◌, List, [], ◌∷◌, ◌++◌, map, take, slice_index_or, ℤ}
use Rattle.std.specs.Prelude.{pos, ◌+ℤ◌, ◌-ℤ◌, ◌*ℤ◌, All, unsigned_abs}
use Rattle.fixed_math.specs.declared.F2Dot14.{F2Dot14}
use Rattle.fixed_math.specs.declared.Fixed.{Fixed}
use Rattle.fixed_math.specs.FixedPoint.{half_up}
use Rattle.font_ir.specs.declared.variation.Region.{Region}
use Rattle.variation_model.specs.Places.{ArePlaces, order_of, ordered}
use Rattle.variation_model.specs.Scalar.{scalar_of}
use Rattle.variation_model.specs.Supports.{supports_of}

-- the scalars of regions at a place
abbrev pub scalar_at : List F2Dot14 → Region → Fixed
scalar_at place region = record { 0 = scalar_of region.sides place }

abbrev pub scalars_at : List Region → List F2Dot14 → List Fixed
scalars_at regions place = map (scalar_at place) regions

-- at each place, from the k-th on, those of the regions before its own
abbrev pub rows_from : List Region → ℕ → List (List F2Dot14) → List (List Fixed)
rows_from regions k [] = []
rows_from regions k (place ∷ places) = scalars_at (take k regions) place
    ∷ rows_from regions (k + 1) places

abbrev pub row_at : List (List Fixed) → ℕ → List Fixed
row_at rows k = slice_index_or rows k []

-- no scalar is larger than one
abbrev pub AreSmall : List Fixed → Type 0
AreSmall scalars = All (λ s. unsigned_abs s.0 ≤ 65536) scalars

pub record IsModel (places : List (List F2Dot14)) (order : List ℕ) (regions : List Region)
    (rows : List (List Fixed)) : Type 0 where
  pub are_places : ArePlaces places
  pub in_order : order ≡ order_of places
  pub are_supports : regions ≡ supports_of places
  pub are_rows : rows ≡ rows_from (supports_of places) 0 (ordered places)

-- the sum of deltas, each times its scalar
abbrev pub weighted : List Fixed → List ℤ → ℤ
weighted [] deltas = pos 0
weighted (scalar ∷ scalars) [] = pos 0
weighted (scalar ∷ scalars) (delta ∷ deltas) = (scalar.0 *ℤ delta) +ℤ weighted scalars deltas

-- the deltas that are left after the earlier ones, with the scalars at hand
abbrev pub deltas_by : List (List Fixed) → List ℤ → List ℤ → List ℤ
deltas_by [] earlier values = []
deltas_by (row ∷ rows) earlier [] = []
deltas_by (row ∷ rows) earlier (value ∷ values) =
    let delta = half_up (value -ℤ weighted row earlier) in
    delta ∷ deltas_by rows (earlier ++ delta ∷ []) values
