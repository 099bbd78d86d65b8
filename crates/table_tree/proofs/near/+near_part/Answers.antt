use Rattle.std.proofs.Common.{◌≡◌, ◌+◌, [], ◌∷◌, ◌++◌, drop, ap, sym, ◌∙◌, append_assoc, add-one}
use Rattle.std.proofs.Common.{arith}
use Rattle.std.proofs.lemmas.List.{map-append}
use Rattle.table_tree.specs.Trees.{tree_size}
use Rattle.table_tree.specs.TreeOf.{before, tree_of}
use Rattle.table_tree.specs.Layouts.{items_of, own_cells, cells_behind}
use Rattle.table_tree.specs.Views.{cell_of, cells_of}
use Rattle.table_tree.specs.Standing.{places_in}
use Rattle.table_tree.proofs.TreeLemmas.{size_at, tree_drop}
use Rattle.table_tree.proofs.near.+near_part.Goals as goal

pub near_part-own_cell-requires : goal.near_part-own_cell-requires
near_part-own_cell-requires t c =
    let within = size_at c.fields-fields.result.now c.loop-field.field-index c.field-item.result
    c.loop-field-test.true c.field-item.is in
    (omega (arith, within, ap tree_size c.fields-fields.ensures, c.decreases), tt)

pub near_part-loop-field-preserved : goal.near_part-loop-field-preserved
near_part-loop-field-preserved t c =
    let fields = c.fields-fields.result.now in
    let i = c.loop-field.field-index in
    let others = tree_of (drop (i + 1) fields) in
    let own = c.loop-field.own.items in
    let behind = c.loop-field.behind in
    let after = c.own_cell.new.behind in
    let cell = c.in_ok-cell.cell in
    let rest = own_cells (places_in after) after.next (items_of others) in
    let here : tree_of (drop i fields) ≡ before c.field-item.result others =
    tree_drop fields i c.field-item.result c.loop-field-test.true c.field-item.is
    ∙ ap (λ j. before c.field-item.result (tree_of (drop j fields))) (sym (add-one i)) in
    record {
      own =
          ap (λ items. cells_of items ++ rest) c.in_ok-push.ensures.items
          ∙ ap (λ cells. cells ++ rest) (map-append cell_of own (cell ∷ []))
          ∙ append_assoc (cells_of own) (cell_of cell ∷ []) rest
          ∙ ap (λ cells. cells_of own ++ cells) (sym (c.in_ok-cell.ensures.own others))
          ∙ ap (λ tree. cells_of own ++ own_cells (places_in behind) behind.next (items_of tree))
          (sym here)
          ∙ c.loop-field.invariant.own;
      cells =
          sym (c.in_ok-cell.ensures.cells others)
          ∙ ap (λ tree. cells_of behind.cells.items
          ++ cells_behind (places_in behind) behind.next (items_of tree)) (sym here)
          ∙ c.loop-field.invariant.cells;
    }
