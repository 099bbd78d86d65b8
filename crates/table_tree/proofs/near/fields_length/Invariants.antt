use Rattle.std.proofs.Common.{◌≡◌, ◌+◌, drop}
use Rattle.table_tree.specs.TreeOf.{tree_of}
use Rattle.table_tree.specs.Layouts.{item_length, items_of, total_by}
use Rattle.table_tree.proofs.near.fields_length.Given as goal

abbrev pub invariant-loop-field : goal.invariant-loop-field
invariant-loop-field l = l.length + total_by item_length
    (items_of (tree_of (drop l.field-index l.fields)))
    ≡ total_by item_length (items_of (tree_of l.fields))
