use Rattle.std.proofs.Common.{◌≡◌, ◌+◌, ◌*◌, ◌++◌, drop}
use Rattle.table_tree.specs.Trees.{end, tree_size, spelling}
use Rattle.table_tree.specs.TreeOf.{before, tree_of}
use Rattle.table_tree.proofs.spelling.+spell.Given as goal

abbrev pub decreases-spell : goal.decreases-spell
decreases-spell l = 2 * tree_size l.node.now + 1

abbrev pub decreases-spell_field : goal.decreases-spell_field
decreases-spell_field l = 2 * tree_size (before l.field.now end)

abbrev pub invariant-spell-loop-field : goal.invariant-spell-loop-field
invariant-spell-loop-field l = l.numbers.items
    ++ spelling (tree_of (drop l.field-index l.field-items))
    ≡ l.fn.numbers.items ++ spelling (tree_of l.field-items)
