-- Which axis is the first without a map from user to design coordinates (OpenType 1.9, "avar").
-- That an axis has one where its pairs have a rising list is fontc's own.
use Rattle.std.specs.Prelude.{ℕ, ◌<◌, Bool, List, Option, Some, None, is_err}
use Rattle.std.specs.List.{position, range_with_len}
use Rattle.font_ir.specs.declared.header.Master.{Master}
use Rattle.font_ir.specs.AxisMaps.{Pair, pairs_of, IsRisingList}
use Rattle.axis_space.specs.AxisPairs.{avar_pairs}

-- the pairs of an axis have a rising list
abbrev pub HasRisingPairs : List Master → ℕ → ℕ → Type 0
HasRisingPairs masters origin axis =
    (pairs : List Pair) × IsRisingList (pairs_of masters origin axis) pairs

-- of so many axes this one is the first whose pairs have none
pub record IsFirstUnmapped (masters : List Master) (origin axes axis : ℕ) : Type 0 where
  pub within : axis < axes
  pub unmapped : ¬ HasRisingPairs masters origin axis
  pub before : (earlier : ℕ) → earlier < axis → HasRisingPairs masters origin earlier

-- what is told of so many axes: that each has a map, or the first that has none
abbrev pub TellsUnmapped : List Master → ℕ → ℕ → Option ℕ → Type 0
TellsUnmapped masters origin axes None =
    (axis : ℕ) → axis < axes → HasRisingPairs masters origin axis
TellsUnmapped masters origin axes (Some axis) = IsFirstUnmapped masters origin axes axis

-- The same as a function.
abbrev pub is_unmapped : List Master → ℕ → ℕ → Bool
is_unmapped masters origin axis = is_err (avar_pairs masters origin axis)

unfoldable pub first_unmapped : List Master → ℕ → ℕ → Option ℕ
first_unmapped masters origin axes = position (is_unmapped masters origin) (range_with_len 0 axes)
