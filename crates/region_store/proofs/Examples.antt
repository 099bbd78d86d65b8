-- Stores worked by hand.
use Rattle.std.proofs.Common.{◌≡◌, ℕ, List, [], ◌∷◌, refl}
use Rattle.std.specs.Prelude.{ℤ, pos, negsuc}
use Rattle.font_ir.specs.declared.variation.Region.{Region}
use Rattle.table_tree.specs.Layouts.{layout_of, bytes_of}
use Rattle.region_store.specs.Stores.{store_tree}

-- a region of one axis
abbrev region : ℤ → ℤ → ℤ → Region
region start peak end = record {
  sides =
      (record { 0 = start }, record { 0 = peak }, record { 0 = end }) ∷ [];
}

-- from the default to the axis's end
abbrev whole : Region
whole = region (pos 0) (pos 16384) (pos 16384)

abbrev store_bytes : ℕ → List Region → List (List ℤ) → List ℕ
store_bytes axes regions rows = bytes_of
    (layout_of (store_tree (record { axes = axes; regions = regions; rows = rows })))

-- the advance widths of two glyphs, of which the second grows by 20 units
two_rows : store_bytes 1 (whole ∷ []) ((pos 0 ∷ []) ∷ (pos 20 ∷ []) ∷ []) ≡
    0 ∷ 1 ∷ 0 ∷ 0 ∷ 0 ∷ 12 ∷ 0 ∷ 1 ∷ 0 ∷ 0 ∷ 0 ∷ 22 ∷ 0 ∷ 1 ∷ 0 ∷ 1 ∷ 0 ∷ 0 ∷ 64 ∷ 0 ∷ 64 ∷ 0
    ∷ 0 ∷ 2 ∷ 0 ∷ 1 ∷ 0 ∷ 1 ∷ 0 ∷ 0 ∷ 0 ∷ 0 ∷ 0 ∷ 20 ∷ []
unfolding layout_of
two_rows = refl

-- a metric that grows by 10 units
one_row : store_bytes 1 (whole ∷ []) ((pos 10 ∷ []) ∷ []) ≡
    0 ∷ 1 ∷ 0 ∷ 0 ∷ 0 ∷ 12 ∷ 0 ∷ 1 ∷ 0 ∷ 0 ∷ 0 ∷ 22 ∷ 0 ∷ 1 ∷ 0 ∷ 1 ∷ 0 ∷ 0 ∷ 64 ∷ 0 ∷ 64 ∷ 0
    ∷ 0 ∷ 1 ∷ 0 ∷ 1 ∷ 0 ∷ 1 ∷ 0 ∷ 0 ∷ 0 ∷ 10 ∷ []
unfolding layout_of
one_row = refl

-- three regions: that of the masters, and two of a glyph that has a place half way
three_regions : store_bytes 1 (whole ∷ region (pos 0) (pos 8192) (pos 16384)
    ∷ region (pos 8192) (pos 16384) (pos 16384) ∷ [])
    ((pos 0 ∷ pos 0 ∷ pos 0 ∷ []) ∷ (pos 0 ∷ pos 12 ∷ pos 20 ∷ []) ∷ []) ≡
    0 ∷ 1 ∷ 0 ∷ 0 ∷ 0 ∷ 12 ∷ 0 ∷ 1 ∷ 0 ∷ 0 ∷ 0 ∷ 34 ∷ 0 ∷ 1 ∷ 0 ∷ 3
    ∷ 0 ∷ 0 ∷ 64 ∷ 0 ∷ 64 ∷ 0 ∷ 0 ∷ 0 ∷ 32 ∷ 0 ∷ 64 ∷ 0 ∷ 32 ∷ 0 ∷ 64 ∷ 0 ∷ 64 ∷ 0
    ∷ 0 ∷ 2 ∷ 0 ∷ 3 ∷ 0 ∷ 3 ∷ 0 ∷ 0 ∷ 0 ∷ 1 ∷ 0 ∷ 2 ∷ 0 ∷ 0 ∷ 0 ∷ 0 ∷ 0 ∷ 0 ∷ 0 ∷ 0 ∷ 0 ∷ 12 ∷ 0
    ∷ 20 ∷ []
unfolding layout_of
three_regions = refl

-- a store without rows has no subtable of them
no_row : store_bytes 1 (whole ∷ []) [] ≡
    0 ∷ 1 ∷ 0 ∷ 0 ∷ 0 ∷ 8 ∷ 0 ∷ 0 ∷ 0 ∷ 1 ∷ 0 ∷ 1 ∷ 0 ∷ 0 ∷ 64 ∷ 0 ∷ 64 ∷ 0 ∷ []
unfolding layout_of
no_row = refl

-- rows without deltas, in a font of two axes
no_region : store_bytes 2 [] ([] ∷ [] ∷ []) ≡
    0 ∷ 1 ∷ 0 ∷ 0 ∷ 0 ∷ 12 ∷ 0 ∷ 1 ∷ 0 ∷ 0 ∷ 0 ∷ 16 ∷ 0 ∷ 2 ∷ 0 ∷ 0 ∷ 0 ∷ 2 ∷ 0 ∷ 0 ∷ 0 ∷ 0 ∷ []
unfolding layout_of
no_region = refl

-- negative numbers are two's complements
negative : store_bytes 1 (region (negsuc 16383) (negsuc 16383) (pos 0) ∷ []) ((negsuc 0 ∷ []) ∷ [])
    ≡
    0 ∷ 1 ∷ 0 ∷ 0 ∷ 0 ∷ 12 ∷ 0 ∷ 1 ∷ 0 ∷ 0 ∷ 0 ∷ 22 ∷ 0 ∷ 1 ∷ 0 ∷ 1 ∷ 192 ∷ 0 ∷ 192 ∷ 0 ∷ 0 ∷ 0
    ∷ 0 ∷ 1 ∷ 0 ∷ 1 ∷ 0 ∷ 1 ∷ 0 ∷ 0 ∷ 255 ∷ 255 ∷ []
unfolding layout_of
negative = refl
