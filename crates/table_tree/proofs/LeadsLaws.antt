-- Near offsets lead to the near parts of their nodes.
use Rattle.std.proofs.Common.{◌≡◌, ℕ, ◌+◌, List, [], ◌∷◌, ◌++◌, map, Option, Some, None, is_some}
use Rattle.std.proofs.Common.{refl, sym, ◌∙◌, subst, nat_eq, append_assoc, Bool, true, false, cond}
use Rattle.std.proofs.Common.{arith}
use Rattle.std.specs.Prelude.{if◌then◌else◌}
use Rattle.std.specs.Option.{unwrap_or}
use Rattle.std.specs.Cmp.Lexicographic.{pointwise, same_text}
use Rattle.table_tree.specs.Trees.{Width, Tree, end, number, bytes, null, near, far, spelling}
use Rattle.table_tree.specs.Trees.{spelling_injective}
use Rattle.table_tree.specs.Layouts.{Cell, settled, far_offset, offset, moved, cells_length}
use Rattle.table_tree.specs.Layouts.{total_by, Item, plain_item, near_item, far_item, item_length}
use Rattle.table_tree.specs.Layouts.{items_of, Places, standing, own_cells, cells_behind}
use Rattle.table_tree.specs.Layouts.{places_with, next_after, near_part}
use Rattle.table_tree.specs.Leads.{HasAt, IsOffsetTo, FieldsLead, NearOffsetsLead}

-- ---- lengths

pub length_own : (places : Places) (next : ℕ) (items : List Item)
    → cells_length (own_cells places next items) ≡ total_by item_length items
length_own places next [] = refl
length_own places next (plain_item content ∷ items) = omega (arith, length_own places next items)
length_own places next (near_item width spelled cells ∷ items) =
    omega (
      arith,
      length_own (places_with places next spelled)
          (next_after places next spelled cells) items,
    )
length_own places next (far_item layout ∷ items) = omega (arith, length_own places next items)

pub length_moved : (place : ℕ) (cells : List Cell)
    → cells_length (map (moved place) cells) ≡ cells_length cells
length_moved place [] = refl
length_moved place (settled piece ∷ cells) = omega (arith, length_moved place cells)
length_moved place (far_offset start layout ∷ cells) = omega (arith, length_moved place cells)

pub length_append : (a b : List Cell) → cells_length (a ++ b) ≡ cells_length a + cells_length b
length_append [] b = omega arith
length_append (cell ∷ a) b = omega (arith, length_append a b)

-- ---- nodes that stand

record Stands (whole : List Cell) (spelled : List ℕ) (place : ℕ) : Type 0 where
  node : Tree
  spells : spelling node ≡ spelled
  leads : HasAt whole place (near_part node)

abbrev AllStand : List Cell → Places → Type 0
AllStand whole [] = Unit {0}
AllStand whole (entry ∷ places) = Stands whole entry.0 entry.1 × AllStand whole places

one_more : (whole : List Cell) (places : Places) (spelled : List ℕ) (place : ℕ)
    → AllStand whole places → Stands whole spelled place
    → AllStand whole (places ++ (spelled, place) ∷ [])
one_more whole [] spelled place all here = (here, tt)
one_more whole (entry ∷ places) spelled place all here
    = (all.0, one_more whole places spelled place all.1 here)

-- the node whose spelling is found stands at the place that is told
found : (whole : List Cell) (places : Places) (spelled : List ℕ) (place : ℕ) → AllStand whole places
    → standing places spelled ≡ Some place → Stands whole spelled place
found whole [] spelled place all is = absurd (cc is)
found whole (entry ∷ places) spelled place all is
    = by (pointwise nat_eq spelled entry.0) refl (found whole places spelled place all.1)
  where
    by : (same : Bool) → pointwise nat_eq spelled entry.0 ≡ same
        → (standing places spelled ≡ Some place → Stands whole spelled place)
        → Stands whole spelled place
    by true e others =
        let key : spelled ≡ entry.0 = same_text spelled entry.0 (sym e) in
        let at : entry.1 ≡ place = cc (subst
        (λ (b : Bool). cond b (Some entry.1) (standing places spelled) ≡ Some place) e is) in
        record {
          node = all.0.node;
          spells = all.0.spells
              ∙ sym key;
          leads = subst (λ (p : ℕ). HasAt whole p (near_part all.0.node)) at
              all.0.leads;
        }
    by false e others = others (subst (λ (b : Bool). cond b (Some entry.1) (standing places spelled)
        ≡ Some place) e is)

-- ---- the fields

-- the cells of a near offset before others, and those behind, by where a node that is equal to its
-- own stands
abbrev own_by : Width → Places → ℕ → List ℕ → List Cell → List Item → List Cell → Option ℕ
    → List Cell
own_by width places next spelled part items tail r =
    (settled (offset width (unwrap_or r next))
    ∷ own_cells (if is_some r then places else places ++ (spelled, next) ∷ [])
    (if is_some r then next else next + cells_length part) items)
    ++ tail

abbrev pub behind_by : Places → ℕ → List ℕ → List Cell → List Item → Option ℕ → List Cell
behind_by places next spelled part items r =
    (if is_some r then [] else map (moved next) part)
    ++ cells_behind (if is_some r then places else places ++ (spelled, next) ∷ [])
    (if is_some r then next else next + cells_length part) items

lead : (tree : Tree) (places : Places) (next : ℕ) (whole front tail : List Cell)
    → whole ≡ front ++ cells_behind places next (items_of tree) → cells_length front ≡ next
    → AllStand whole places
    → FieldsLead whole (own_cells places next (items_of tree) ++ tail) tree
lead end places next whole front tail is at all = tt
lead (number width n others) places next whole front tail is at all
    = lead others places next whole front tail is at all
lead (bytes content others) places next whole front tail is at all
    = lead others places next whole front tail is at all
lead (null width others) places next whole front tail is at all
    = lead others places next whole front tail is at all
lead (far node others) places next whole front tail is at all
    = lead others places next whole front tail is at all
lead (near width node others) places next whole front tail is at all =
    by (standing places (spelling node)) refl
    (λ places' next' front' is' at' all'. lead others places' next' whole front' tail is' at'
    all')
  where
    by : (r : Option ℕ) → standing places (spelling node) ≡ r
        → ((places' : Places) (next' : ℕ) (front' : List Cell)
        → whole ≡ front' ++ cells_behind places' next' (items_of others)
        → cells_length front' ≡ next' → AllStand whole places'
        → FieldsLead whole (own_cells places' next' (items_of others) ++ tail) others)
        → FieldsLead whole (own_cells places next (items_of (near width node others)) ++ tail)
        (near width node others)
    by (Some place) e rest =
        let is' : whole ≡ front ++ cells_behind places next (items_of others)
        = subst (λ (r : Option ℕ). whole ≡ front
        ++ behind_by places next (spelling node) (near_part node) (items_of others) r) e is in
        let there = found whole places (spelling node) place all e in
        let leads = subst (λ (t : Tree). HasAt whole place (near_part t))
        (spelling_injective there.node node there.spells) there.leads in
        let first : IsOffsetTo whole (own_by width places next (spelling node) (near_part node)
        (items_of others) tail (Some place)) width node
        = record { value = place; first = refl; leads = leads } in
        subst (λ (r : Option ℕ). FieldsLead whole
        (own_by width places next (spelling node) (near_part node) (items_of others) tail r)
        (near width node others)) (sym e)
        (first, rest places next front is' at all)
    by None e rest =
        let places' : Places = places ++ (spelling node, next) ∷ [] in
        let next' : ℕ = next + cells_length (near_part node) in
        let is' : whole ≡ front ++ behind_by places next (spelling node) (near_part node)
        (items_of others) None = subst (λ (r : Option ℕ). whole
        ≡ front ++ behind_by places next (spelling node) (near_part node) (items_of others) r) e
        is in
        let leads : HasAt whole next (near_part node)
        = record {
          front = front;
          back = cells_behind places' next' (items_of others);
          is
              = is';
          at = at;
        } in
        let all' = one_more whole places (spelling node) next all
        (record { node = node; spells = refl; leads = leads }) in
        let part = map (moved next) (near_part node) in
        let is'' : whole ≡ (front ++ part) ++ cells_behind places' next' (items_of others) = is'
        ∙ sym (append_assoc front part (cells_behind places' next' (items_of others))) in
        let at' : cells_length (front ++ part)
        ≡ next' = omega (
          arith,
          length_append front part,
          length_moved next (near_part node),
          at,
        ) in
        let first : IsOffsetTo whole (own_by width places next (spelling node) (near_part node)
        (items_of others) tail None) width node
        = record { value = next; first = refl; leads = leads } in
        subst (λ (r : Option ℕ). FieldsLead whole
        (own_by width places next (spelling node) (near_part node) (items_of others) tail r)
        (near width node others)) (sym e)
        (first, rest places' next' (front ++ part) is'' at' all')

pub near_offsets_lead : (tree : Tree) → NearOffsetsLead tree
near_offsets_lead tree =
    let items = items_of tree in
    let fields = total_by item_length items in
    lead tree [] fields (near_part tree) (own_cells [] fields items) (cells_behind [] fields items)
    refl (length_own [] fields items) tt
