-- What serves the code that finds regions and rows: an index of regions by their numbers, and what
-- is told of the changes that were found. For the code alone.
use Rattle.std.specs.Prelude.{◌≡◌, ◌≢◌, ℕ, ◌<◌, ◌≤◌, ℤ, pos, List, length, map, slice_get, slice_set}
use Rattle.std.specs.Prelude.{[], ◌∷◌, ◌++◌, filter, replicate, Option, None, Some, Result, Ok, Err, Vec}
use Rattle.std.specs.List.{All, AllPairs, fold}
use Rattle.std.specs.declared.alloc.Global.{Global}
use Rattle.refusal_codes.specs.declared.limits.TheConstants.{REGIONS}
use Rattle.font_ir.specs.declared.glyph.FlatGlyph.{FlatGlyph}
use Rattle.font_ir.specs.declared.header.Header.{Header}
use Rattle.font_ir.specs.declared.variation.Region.{Region}
use Rattle.variation_model.specs.Deltas.{first_large}
use Rattle.variation_model.specs.declared.errors.DeltaError.{DeltaError}
use Rattle.variation_model.specs.declared.errors.DeltaError.TheVariants as delta_errors
use Rattle.metrics_tables.specs.Changes.{Change, advance_deltas, changes_of, is_change, large_from, numbers_of}
use Rattle.metrics_tables.specs.Changes.{regions_of, row_over, with_changes, with_glyphs}
use Rattle.metrics_tables.specs.Changes.{with_region}
use Rattle.metrics_tables.specs.declared.changes.LargeDelta.{LargeDelta}
use Rattle.metrics_tables.specs.declared.changes.PlacedDelta.{PlacedDelta}
use Rattle.metrics_tables.specs.declared.measures.MeasureError.{MeasureError}
use Rattle.metrics_tables.specs.declared.measures.MeasureError.TheVariants as measure_errors
use Rattle.metrics_tables.specs.declared.region_index.RegionIndex.{RegionIndex}

-- a side on each of so many axes
abbrev pub HasSides : ℕ → Region → Type 0
HasSides axes region = length region.sides ≡ axes

-- different regions with a side on each axis, and the numbers of each
pub record IsIndexed (index : RegionIndex) : Type 0 where
  pub numbers : map (λ key. key.items) index.numbers.keys ≡ map numbers_of index.regions.items
  pub different : AllPairs (λ a b. a ≢ b) index.regions.items
  pub sides : All (HasSides index.axes) index.regions.items

-- regions that are added in their order
abbrev pub with_regions : List Region → List Region → List Region
with_regions regions added = fold with_region regions added

-- ---- changes

-- the region and the delta of a change, by the region's place among these
abbrev pub told_by : List Region → PlacedDelta → Option Region × ℤ
told_by regions placed = (slice_get regions placed.place, placed.delta)

abbrev pub stands_at : Change → Option Region × ℤ
stands_at change = (Some change.0, change.1)

-- these are the changes, by the places of their regions
abbrev pub AreTold : List Region → List PlacedDelta → List Change → Type 0
AreTold regions placed changes = map (told_by regions) placed ≡ map stands_at changes

-- the change at a region: none where the delta is zero
abbrev pub changes_at : Region → ℤ → List Change
changes_at region delta = filter is_change ((region, delta) ∷ [])

-- what is told of any changes is told, after this, of them and these behind them
abbrev pub IsToldOneMore : List Region → List PlacedDelta → List Region → List PlacedDelta
    → List Change → Type 0
IsToldOneMore before placed after more changes =
    (so_far : List Change) → AreTold before placed so_far → AreTold after more (so_far ++ changes)

-- the same of each of some lists
abbrev pub AllTold : List Region → List (List PlacedDelta) → List (List Change) → Type 0
AllTold regions placed changes =
    map (map (told_by regions)) placed ≡ map (map stands_at) changes

-- a glyph's changes, and the regions with theirs
abbrev pub GivesChanges : Result (Vec PlacedDelta Global) DeltaError → List Region → List Region
    → FlatGlyph → Type 0
GivesChanges (Ok placed) before after glyph =
    (after ≡ with_changes before (changes_of glyph)) × AreTold after placed.items (changes_of glyph)
    × (first_large 0 (advance_deltas glyph) ≡ None)
GivesChanges (Err (delta_errors.TooLarge at value)) before after glyph =
    first_large 0 (advance_deltas glyph) ≡ Some (at, value)
GivesChanges (Err delta_errors.NoMemory) before after glyph = Unit {0}

-- a large delta of this value, of the glyph that has this number in the font
abbrev pub IsLarge : ℕ → ℤ → Option LargeDelta → Type 0
IsLarge gid value large =
    (number : ℕ) × (large ≡ Some (record { number = number; gid = gid; value = value }))

-- those of all glyphs
abbrev pub GivesAllChanges : Result (Vec (List PlacedDelta) Global) MeasureError → List Region
    → List Region → List FlatGlyph → Type 0
GivesAllChanges (Ok all) before after glyphs =
    (after ≡ with_glyphs before glyphs) × AllTold after all.items (map changes_of glyphs)
    × (large_from 0 glyphs ≡ None)
GivesAllChanges (Err (measure_errors.TooLarge gid value)) before after glyphs =
    IsLarge gid value (large_from 0 glyphs)
GivesAllChanges (Err (measure_errors.Regions n)) before after glyphs = ⊥
GivesAllChanges (Err measure_errors.NoMemory) before after glyphs = Unit {0}

-- ---- rows

-- a row over so many regions, with the deltas at their places and 0 at the others
abbrev pub row_with : List ℤ → List PlacedDelta → List ℤ
row_with row placed = fold (λ so_far p. slice_set so_far p.place p.delta) row placed

abbrev pub row_by : ℕ → List PlacedDelta → List ℤ
row_by count placed = row_with (replicate count (pos 0)) placed

abbrev pub IsWithin : ℕ → PlacedDelta → Type 0
IsWithin count placed = placed.place < count

-- the regions of a font's glyphs, and a row for each of these
pub record AreRows (header : Header) (glyphs : List FlatGlyph) (regions : List Region)
    (rows : List (List ℤ)) : Type 0 where
  pub are_regions : regions ≡ regions_of header glyphs
  pub are_rows : rows ≡ map (λ glyph. row_over (regions_of header glyphs) (changes_of glyph)) glyphs
  pub none_large : large_from 0 glyphs ≡ None
  pub few : length regions ≤ REGIONS
  pub sides : All (HasSides (length header.axes)) regions

abbrev pub GivesRows : Result (Vec Region Global × Vec (List ℤ) Global) MeasureError → Header
    → List FlatGlyph → Type 0
GivesRows (Ok answer) header glyphs = AreRows header glyphs answer.0.items answer.1.items
GivesRows (Err (measure_errors.TooLarge gid value)) header glyphs =
    IsLarge gid value (large_from 0 glyphs)
GivesRows (Err (measure_errors.Regions n)) header glyphs =
    (large_from 0 glyphs ≡ None) × (n ≡ length (regions_of header glyphs)) × (REGIONS < n)
GivesRows (Err measure_errors.NoMemory) header glyphs = Unit {0}
