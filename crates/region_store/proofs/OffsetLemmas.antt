-- The offsets of a store fit in their widths: its list of regions has less than 4,294,967,296 bytes
-- where there are at most eight axes.
use Rattle.std.proofs.Common.{◌≡◌, ℕ, ◌+◌, ◌*◌, ◌≤◌, Bool, true, false, List, [], ◌∷◌, ◌++◌}
use Rattle.std.proofs.Common.{◌∙◌, length, nat_lt, Option, Some, None, refl, ap, arith}
use Rattle.std.proofs.Common.{length-append}
use Rattle.std.specs.Prelude.{if◌then◌else◌, is_some, nat_eq}
use Rattle.std.specs.List.{AllByRecursion, flat_map}
use Rattle.std.specs.Option.{unwrap_or}
use Rattle.std.specs.Cmp.Lexicographic.{pointwise}
use Rattle.table_bytes.specs.DataTypes.{uint16}
use Rattle.std.proofs.lemmas.Bool.Decides.{nat_tests}
use Rattle.std.proofs.lemmas.List.Elements.{recursion_from_All, All-weaker}
use Rattle.fixed_math.specs.declared.F2Dot14.{F2Dot14}
use Rattle.font_ir.specs.declared.variation.Region.{Region}
use Rattle.table_tree.specs.Trees.{Tree, end, number, bytes, near, two, four, spelling}
use Rattle.table_tree.specs.Layouts.{Piece, written, offset, layout_of, bytes_of, first_above}
use Rattle.table_tree.specs.Layouts.{standing, Cell, settled, settled_all}
use Rattle.region_store.specs.Written.{store_bytes}
use Rattle.region_store.specs.Stores.{Store, IsStore, store_tree, region_axis_coordinates}
use Rattle.region_store.specs.Stores.{variation_region, variation_region_list}
use Rattle.region_store.specs.Stores.{item_variation_data}

sides_length : (sides : List (F2Dot14 × F2Dot14 × F2Dot14))
    → length (flat_map region_axis_coordinates sides) ≡ 6 * length sides
sides_length [] = refl
sides_length (side ∷ sides) = omega (
  arith,
  sides_length sides,
  length-append (region_axis_coordinates side)
      (flat_map region_axis_coordinates sides),
)

regions_length : (regions : List Region)
    → AllByRecursion (λ region. length region.sides ≤ 8) regions
    → length (flat_map variation_region regions) ≤ 48 * length regions
regions_length [] h = omega arith
regions_length (region ∷ regions) h = omega (
  arith,
  regions_length regions h.1,
  h.0,
  sides_length region.sides,
  length-append (variation_region region) (flat_map variation_region regions),
)

-- the cells of a tree of two lists of bytes, the second of which may be equal to the first
abbrev cells_by : List ℕ → List ℕ → ℕ → Option ℕ → List Cell
cells_by first second next found =
    settled (written (0 ∷ 1 ∷ [])) ∷ settled (offset four 12) ∷ settled (written (0 ∷ 1 ∷ []))
    ∷ settled (offset four (unwrap_or found next)) ∷ settled (written first)
    ∷ ((if is_some found then [] else settled (written second) ∷ []) ++ [])

-- an offset that fits in 32 bits
fits : (value : ℕ) (pieces : List Piece) → value ≤ 4294967295 → first_above pieces ≡ None
    → first_above (offset four value ∷ pieces) ≡ None
fits value pieces small others =
    let within : nat_lt 4294967295 value ≡ false = grind (arith, nat_tests) in
    ap (λ (above : Bool). if above then Some value else first_above pieces) within ∙ others

few_cells : (first second : List ℕ) (next : ℕ) (found : Option ℕ)
    → unwrap_or found next ≤ 4294967295
    → first_above (settled_all (cells_by first second next found)) ≡ None
few_cells first second next None few = fits next (written first ∷ written second ∷ []) few refl
few_cells first second next (Some place) few = fits place (written first ∷ []) few refl

-- a node that stands before the second one stands at 12
found_small : (first second : List ℕ) (next : ℕ) → next ≤ 4294967295
    → unwrap_or (standing ((first, 12) ∷ []) second) next ≤ 4294967295
found_small first second next few = by (pointwise nat_eq second first)
  where
    by : (same : Bool) → unwrap_or (if same then Some 12 else None) next ≤ 4294967295
    by true = omega arith
    by false = few

-- the tree of two lists of bytes
pub two_nodes : (first second : List ℕ) → length first ≤ 4294967000
    → first_above (layout_of (number two 1 (near four (bytes first end) (number two 1
    (near four (bytes second end) end))))) ≡ None
unfolding layout_of
two_nodes first second few =
    let spelled : List ℕ = spelling (bytes first end) in
    few_cells first second (12 + (length first + 0))
    (standing ((spelled, 12) ∷ []) (spelling (bytes second end)))
    (found_small spelled (spelling (bytes second end)) (12 + (length first + 0))
    (omega (arith, few)))

-- the tree of one
pub one_node : (first : List ℕ)
    → first_above (layout_of (number two 1 (near four (bytes first end) (number two 0 end))))
    ≡ None
unfolding layout_of
one_node first = refl

fits_either : (few : Bool) (first second : List ℕ) → length first ≤ 4294967000
    → first_above (layout_of (number two 1 (near four (bytes first end)
    (if few then number two 0 end else number two 1 (near four (bytes second end) end))))) ≡ None
fits_either true first second short = one_node first
fits_either false first second short = two_nodes first second short

-- a store of a font with at most eight axes
pub offsets_fit : (store : Store) → IsStore store → store.axes ≤ 8
    → first_above (layout_of (store_tree store)) ≡ None
offsets_fit store is few =
    let sides = recursion_from_All (λ (region : Region). length region.sides ≤ 8) store.regions
    (All-weaker (λ (region : Region). length region.sides ≡ store.axes)
    (λ (region : Region). length region.sides ≤ 8)
    (λ region (same : length region.sides ≡ store.axes). omega (arith, same, few))
    store.regions is.sides) in
    fits_either (nat_eq (length store.rows) 0) (variation_region_list store.axes store.regions)
    (item_variation_data (length store.regions) store.rows)
    (omega (
      arith,
      regions_length store.regions sides,
      is.few_regions,
      length-append (uint16 store.axes ++ uint16 (length store.regions))
          (flat_map variation_region store.regions),
    ))

-- so laying it out can't be refused
pub not_above : (store : Store) (tree : Tree) (n : ℕ) → tree ≡ store_tree store → IsStore store
    → store.axes ≤ 8 → first_above (layout_of tree) ≡ Some n → ⊥
not_above store tree n is whole few above =
    let none = ap (λ (t : Tree). first_above (layout_of t)) is ∙ offsets_fit store whole few in
    absurd (cc (none, above))

pub written_store : (store : Store) (tree : Tree) (content : List ℕ) → tree ≡ store_tree store
    → content ≡ bytes_of (layout_of tree) → content ≡ store_bytes store
unfolding store_bytes
written_store store tree content is laid = laid
    ∙ ap (λ (t : Tree). bytes_of (layout_of t)) is
