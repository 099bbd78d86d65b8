-- Places of a design space: lists of normalised coordinates, one per axis (OpenType 1.9,
-- "Coordinate scales and normalization").
use Rattle.std.specs.Prelude.{◌≡◌, ◌≢◌, ℕ, ◌<◌, ◌≤◌, ◌^◌, List, [], length, replicate}
use Rattle.std.specs.Prelude.{slice_index_or, pos, Contains, EachIndex}
use Rattle.fixed_math.specs.declared.F2Dot14.{F2Dot14}
use Rattle.refusal_codes.specs.declared.limits.TheConstants.{PLACES}

-- what is looked up past the ends
abbrev pub zero_number : F2Dot14
zero_number = record { 0 = pos 0 }

abbrev pub place_at : List (List F2Dot14) → ℕ → List F2Dot14
place_at places i = slice_index_or places i []

-- how many axes there are
abbrev pub axis_count : List (List F2Dot14) → ℕ
axis_count places = length (place_at places 0)

-- what the places of a model are: not too many to be counted, all of one length, all different, one
-- of them zero
pub record ArePlaces (places : List (List F2Dot14)) : Type 0 where
  pub few : length places < 2 ^ 32
  pub one_length : EachIndex places (λ i. length (place_at places i) ≡ axis_count places)
  pub different : (i j : ℕ) → i < j → j < length places → place_at places i ≢ place_at places j
  pub has_zero : Contains places (replicate (axis_count places) zero_number)

-- the places of a glyph are no more than so many
pub record AreGlyphPlaces (places : List (List F2Dot14)) : Type 0 where
  pub few : length places ≤ PLACES
  pub are_places : ArePlaces places
