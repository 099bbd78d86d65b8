-- An item variation store (OpenType 1.9, "Font variations common table formats", "Item variation
-- stores"), with one list of regions and at most one subtable of rows, in which each row has a
-- delta for each region and all deltas are words.
use Rattle.std.specs.Prelude.{◌≡◌, ◌≤◌, ℕ, ℤ, List, ◌++◌, length, nat_eq, if◌then◌else◌}
use Rattle.std.specs.List.{All, flat_map, range_with_len}
use Rattle.fixed_math.specs.declared.F2Dot14.{F2Dot14}
use Rattle.font_ir.specs.declared.variation.Region.{Region}
use Rattle.table_bytes.specs.DataTypes.{uint16, int16}
use Rattle.table_tree.specs.Trees.{Tree, end, number, bytes, near, two, four}

-- how many axes a font has, regions of its design space, and the rows in their order
pub record Store : Type 0 where
  pub axes : ℕ
  pub regions : List Region
  pub rows : List (List ℤ)

-- The greatest number of regions, since the high bit of wordDeltaCount says something else, and of
-- rows; each region has a side on each axis, and each row a delta for each region.
pub record IsStore (store : Store) : Type 0 where
  pub few_regions : length store.regions ≤ 32767
  pub few_rows : length store.rows ≤ 65535
  pub sides : All (λ region. length region.sides ≡ store.axes) store.regions
  pub deltas : All (λ row. length row ≡ length store.regions) store.rows

-- RegionAxisCoordinates
abbrev pub region_axis_coordinates : F2Dot14 × F2Dot14 × F2Dot14 → List ℕ
region_axis_coordinates side =
    let start_coord : ℤ = side.0.0 in
    let peak_coord : ℤ = side.1.0 in
    let end_coord : ℤ = side.2.0 in
    int16 start_coord ++ int16 peak_coord ++ int16 end_coord

-- VariationRegion: the coordinates on each axis
abbrev pub variation_region : Region → List ℕ
variation_region region = flat_map region_axis_coordinates region.sides

-- VariationRegionList
abbrev pub variation_region_list : ℕ → List Region → List ℕ
variation_region_list axes regions =
    let axis_count : ℕ = axes in
    let region_count : ℕ = length regions in
    uint16 axis_count ++ uint16 region_count ++ flat_map variation_region regions

-- ItemVariationData before its deltas, for so many rows over so many regions: all deltas are words,
-- and the regions are those of the list in its order
abbrev pub item_variation_data_head : ℕ → ℕ → List ℕ
item_variation_data_head rows regions =
    let item_count : ℕ = rows in
    let word_delta_count : ℕ = regions in
    let region_index_count : ℕ = regions in
    let region_indexes : List ℕ = range_with_len 0 regions in
    uint16 item_count ++ uint16 word_delta_count ++ uint16 region_index_count
    ++ flat_map uint16 region_indexes

-- DeltaSet: the deltas of a row, in the order of the regions
abbrev pub delta_set : List ℤ → List ℕ
delta_set row = flat_map int16 row

-- ItemVariationData: the rows in their order
abbrev pub item_variation_data : ℕ → List (List ℤ) → List ℕ
item_variation_data regions rows = item_variation_data_head (length rows) regions
    ++ flat_map delta_set rows

-- itemVariationDataCount and itemVariationDataOffsets: one subtable, and none where there are no
-- rows
abbrev pub item_variation_data_fields : ℕ → List (List ℤ) → Tree
item_variation_data_fields regions rows =
    if nat_eq (length rows) 0 then number two 0 end
    else number two 1 (near four (bytes (item_variation_data regions rows) end) end)

-- ItemVariationStore
abbrev pub store_tree : Store → Tree
store_tree store =
    let format : ℕ = 1 in
    let region_list : Tree = bytes (variation_region_list store.axes store.regions) end in
    number two format (near four region_list
    (item_variation_data_fields (length store.regions) store.rows))
