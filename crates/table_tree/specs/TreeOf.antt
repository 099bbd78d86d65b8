-- The tree that a list of fields is.
use Rattle.std.specs.Prelude.{List, [], ◌∷◌}
use Rattle.table_tree.specs.declared.node.Field.{Field}
use Rattle.table_tree.specs.declared.node.Field.TheVariants.{U8, U16, U32, Bytes, Off16, Off32}
use Rattle.table_tree.specs.declared.node.Field.TheVariants.{Far32, Null16, Null32}
use Rattle.table_tree.specs.Trees.{Tree, one, two, four, end, number, bytes, null, near, far}

-- a field before others
abbrev pub before : Field → Tree → Tree
before (U8 n) others = number one n others
before (U16 n) others = number two n others
before (U32 n) others = number four n others
before (Bytes content) others = bytes content others
before (Off16 node) others = near two node others
before (Off32 node) others = near four node others
before (Far32 node) others = far node others
before Null16 others = null two others
before Null32 others = null four others

abbrev pub tree_of : List Field → Tree
tree_of [] = end
tree_of (field ∷ fields) = before field (tree_of fields)
