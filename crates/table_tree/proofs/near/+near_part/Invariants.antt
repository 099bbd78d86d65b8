use Rattle.std.proofs.Common.{◌≡◌, ◌+◌, ◌*◌, ◌++◌, [], drop}
use Rattle.table_tree.specs.Trees.{end, tree_size}
use Rattle.table_tree.specs.TreeOf.{before, tree_of}
use Rattle.table_tree.specs.Layouts.{item_length, items_of, total_by, own_cells, cells_behind}
use Rattle.table_tree.specs.Views.{cells_of}
use Rattle.table_tree.specs.Standing.{places_in}
use Rattle.table_tree.proofs.near.+near_part.Given as goal

abbrev pub decreases-near_part : goal.decreases-near_part
decreases-near_part l = 3 * tree_size l.node.now + 2

abbrev pub decreases-own_cell : goal.decreases-own_cell
decreases-own_cell l = 3 * tree_size (before l.field.now end) + 1

abbrev pub decreases-place_of_child : goal.decreases-place_of_child
decreases-place_of_child l = 3 * tree_size l.child.now + 3

abbrev pub invariant-near_part-loop-field : goal.invariant-near_part-loop-field
invariant-near_part-loop-field l = record {
  own : cells_of l.own.items ++ own_cells (places_in l.behind) l.behind.next
      (items_of (tree_of (drop l.field-index l.fields)))
      ≡ own_cells [] (total_by item_length (items_of (tree_of l.fields)))
      (items_of (tree_of l.fields));
  cells : cells_of l.behind.cells.items ++ cells_behind (places_in l.behind) l.behind.next
      (items_of (tree_of (drop l.field-index l.fields)))
      ≡ cells_behind [] (total_by item_length (items_of (tree_of l.fields)))
      (items_of (tree_of l.fields));
}
