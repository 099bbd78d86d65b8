-- Far offsets lead to the layouts of their nodes.
use Rattle.std.proofs.Common.{◌≡◌, ℕ, ◌+◌, ◌-◌, ◌≤◌, List, [], ◌∷◌, ◌++◌, map, Option, Some, None}
use Rattle.std.proofs.Common.{refl, sym, ◌∙◌, subst, append_assoc, arith}
use Rattle.table_tree.specs.Trees.{Tree, end, number, bytes, null, near, far, spelling}
use Rattle.table_tree.specs.Layouts.{Piece, length_of, Cell, settled, far_offset, moved}
use Rattle.table_tree.specs.Layouts.{cells_length, total_by, Item, plain_item, near_item, far_item}
use Rattle.table_tree.specs.Layouts.{item_length, items_of, Places, standing, own_cells}
use Rattle.table_tree.specs.Layouts.{cells_behind, places_with, next_after, settled_cells}
use Rattle.table_tree.specs.Layouts.{far_parts, near_part, layout_of}
use Rattle.table_tree.specs.Leads.{IsFarOffsetTo, CellsLead, FarOffsetsLead}
use Rattle.table_tree.proofs.LeadsLaws.{length_own, length_moved, length_append, behind_by}

-- the nodes of far offsets begin at most so many bytes behind the first
abbrev AllBelow : ℕ → List Cell → Type 0
AllBelow n [] = Unit {0}
AllBelow n (settled piece ∷ cells) = AllBelow n cells
AllBelow n (far_offset start layout ∷ cells) = (start ≤ n) × AllBelow n cells

below_more : (n m : ℕ) (cells : List Cell) → n ≤ m → AllBelow n cells → AllBelow m cells
below_more n m [] le all = tt
below_more n m (settled piece ∷ cells) le all = below_more n m cells le all
below_more n m (far_offset start layout ∷ cells) le all
    = (omega (arith, all.0), below_more n m cells le all.1)

below_append : (n : ℕ) (a b : List Cell) → AllBelow n a → AllBelow n b → AllBelow n (a ++ b)
below_append n [] b all others = others
below_append n (settled piece ∷ a) b all others = below_append n a b all others
below_append n (far_offset start layout ∷ a) b all others = (all.0, below_append n a b all.1 others)

below_moved : (n place : ℕ) (cells : List Cell) → AllBelow n cells
    → AllBelow (place + n) (map (moved place) cells)
below_moved n place [] all = tt
below_moved n place (settled piece ∷ cells) all = below_moved n place cells all
below_moved n place (far_offset start layout ∷ cells) all
    = (omega (arith, all.0), below_moved n place cells all.1)

below_own : (n : ℕ) (places : Places) (next : ℕ) (items : List Item)
    → AllBelow n (own_cells places next items)
below_own n places next [] = tt
below_own n places next (plain_item content ∷ items) = below_own n places next items
below_own n places next (near_item width spelled cells ∷ items) =
    below_own n (places_with places next spelled) (next_after places next spelled cells) items
below_own n places next (far_item layout ∷ items) = (omega arith, below_own n places next items)

part_below : (tree : Tree) → ((n : ℕ) (places : Places) (next : ℕ)
    → next + cells_length (cells_behind places next (items_of tree)) ≤ n
    → AllBelow n (cells_behind places next (items_of tree)))
    → AllBelow (cells_length (near_part tree)) (near_part tree)
part_below tree behind =
    let items = items_of tree in
    let fields : ℕ = total_by item_length items in
    let own = own_cells [] fields items in
    let others = cells_behind [] fields items in
    let len : ℕ = cells_length (near_part tree) in
    let le : fields + cells_length others ≤ len
    = omega (arith, length_append own others, length_own [] fields items) in
    below_append len own others (below_own len [] fields items) (behind len [] fields le)

below_behind : (tree : Tree) (n : ℕ) (places : Places) (next : ℕ)
    → next + cells_length (cells_behind places next (items_of tree)) ≤ n
    → AllBelow n (cells_behind places next (items_of tree))
below_behind end n places next le = tt
below_behind (number width m others) n places next le = below_behind others n places next le
below_behind (bytes content others) n places next le = below_behind others n places next le
below_behind (null width others) n places next le = below_behind others n places next le
below_behind (far node others) n places next le = below_behind others n places next le
below_behind (near width node others) n places next le =
    by (standing places (spelling node)) refl
    (part_below node (λ n' places' next' le'. below_behind node n' places' next' le'))
    (λ n' places' next' le'. below_behind others n' places' next' le')
  where
    by : (r : Option ℕ) → standing places (spelling node) ≡ r
        → AllBelow (cells_length (near_part node)) (near_part node)
        → ((n : ℕ) (places : Places) (next : ℕ)
        → next + cells_length (cells_behind places next (items_of others)) ≤ n
        → AllBelow n (cells_behind places next (items_of others)))
        → AllBelow n (cells_behind places next (items_of (near width node others)))
    by (Some place) e here rest =
        let le' : next + cells_length (cells_behind places next (items_of others)) ≤ n
        = subst (λ (r : Option ℕ). next + cells_length
        (behind_by places next (spelling node) (near_part node) (items_of others) r) ≤ n) e le
        in
        subst (λ (r : Option ℕ). AllBelow n (behind_by places next (spelling node) (near_part node)
        (items_of others) r)) (sym e) (rest n places next le')
    by None e here rest =
        let places' : Places = places ++ (spelling node, next) ∷ [] in
        let next' : ℕ = next + cells_length (near_part node) in
        let part = map (moved next) (near_part node) in
        let after = cells_behind places' next' (items_of others) in
        let le' : next + cells_length (part ++ after) ≤ n
        = subst (λ (r : Option ℕ). next + cells_length
        (behind_by places next (spelling node) (near_part node) (items_of others) r) ≤ n) e le
        in
        let sums = length_append part after in
        let same = length_moved next (near_part node) in
        subst (λ (r : Option ℕ). AllBelow n (behind_by places next (spelling node) (near_part node)
        (items_of others) r)) (sym e)
        (below_append n part after
        (below_more next' n part (omega (arith, le', sums, same))
        (below_moved (cells_length (near_part node)) next (near_part node) here))
        (rest n places' next' (omega (arith, le', sums, same))))

near_below : (tree : Tree) → AllBelow (cells_length (near_part tree)) (near_part tree)
near_below tree = part_below tree (below_behind tree)

-- ---- pieces

length_settled : (next : ℕ) (cells : List Cell)
    → length_of (settled_cells next cells) ≡ cells_length cells
length_settled next [] = refl
length_settled next (settled piece ∷ cells) = omega (arith, length_settled next cells)
length_settled next (far_offset start layout ∷ cells)
    = omega (arith, length_settled (next + length_of layout) cells)

length_pieces : (a b : List Piece) → length_of (a ++ b) ≡ length_of a + length_of b
length_pieces [] b = omega arith
length_pieces (piece ∷ a) b = omega (arith, length_pieces a b)

lead : (cells : List Cell) (next : ℕ) (whole front tail : List Piece)
    → whole ≡ front ++ far_parts cells → length_of front ≡ next → AllBelow next cells
    → CellsLead whole (settled_cells next cells ++ tail) cells
lead [] next whole front tail is at all = tt
lead (settled piece ∷ cells) next whole front tail is at all
    = (refl, lead cells next whole front tail is at all)
lead (far_offset start layout ∷ cells) next whole front tail is at all =
    let value : ℕ = next - start in
    let at' : length_of front ≡ start + value = omega (arith, all.0, at) in
    let here : IsFarOffsetTo whole (settled_cells next (far_offset start layout ∷ cells) ++ tail)
    start layout =
    record { value = value; first = refl; front = front; back = far_parts cells; is = is; at = at' }
    in (
      here,
      lead cells (next + length_of layout) whole (front ++ layout) tail
          (is ∙ sym (append_assoc front layout (far_parts cells)))
          (omega (arith, length_pieces front layout, at))
          (below_more next (next + length_of layout) cells (omega arith) all.1),
    )

pub far_offsets_lead : (tree : Tree) → FarOffsetsLead tree
unfolding layout_of
far_offsets_lead tree =
    let cells = near_part tree in
    let pieces = settled_cells (cells_length cells) cells in
    lead cells (cells_length cells) (layout_of tree) pieces (far_parts cells) refl
    (length_settled (cells_length cells) cells) (near_below tree)
