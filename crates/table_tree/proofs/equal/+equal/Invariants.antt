use Rattle.std.proofs.Common.{◌≡◌, ◌+◌, ◌*◌, drop}
use Rattle.table_tree.specs.Trees.{end, tree_size}
use Rattle.table_tree.specs.TreeOf.{before, tree_of}
use Rattle.table_tree.specs.Equal.{tree_eq}
use Rattle.table_tree.proofs.equal.+equal.Given as goal

abbrev pub decreases-nodes_equal : goal.decreases-nodes_equal
decreases-nodes_equal l = 2 * tree_size l.a.now + 1

abbrev pub decreases-fields_equal : goal.decreases-fields_equal
decreases-fields_equal l = 2 * tree_size (before l.a.now end)

abbrev pub invariant-nodes_equal-loop-i : goal.invariant-nodes_equal-loop-i
invariant-nodes_equal-loop-i l =
    tree_eq (tree_of l.fields) (tree_of l.others)
    ≡ tree_eq (tree_of (drop l.i l.fields)) (tree_of (drop l.i l.others))
