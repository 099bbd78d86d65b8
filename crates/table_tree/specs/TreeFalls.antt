-- A node is larger than the nodes that its fields lead to.
use Rattle.std.specs.Prelude.{◌≤◌, List, [], ◌∷◌}
use Rattle.std.proofs.Common.{arith}
use denote.Param.Weighed.{most}
use Rattle.table_tree.specs.declared.node.Field.{Field}
use Rattle.table_tree.specs.declared.node.Field.TheVariants.{U8, U16, U32, Bytes, Off16, Off32}
use Rattle.table_tree.specs.declared.node.Field.TheVariants.{Far32, Null16, Null32}
use Rattle.table_tree.specs.declared.node.Node.TheDeep.{deep-Field}
use Rattle.table_tree.specs.Trees.{tree_size}
use Rattle.table_tree.specs.TreeOf.{tree_of}

pub most_le_size : (fields : List Field) → most deep-Field fields ≤ tree_size (tree_of fields)
most_le_size [] = omega arith
most_le_size (U8 n ∷ fields) = omega (arith, most_le_size fields)
most_le_size (U16 n ∷ fields) = omega (arith, most_le_size fields)
most_le_size (U32 n ∷ fields) = omega (arith, most_le_size fields)
most_le_size (Bytes content ∷ fields) = omega (arith, most_le_size fields)
most_le_size (Off16 node ∷ fields) = omega (arith, most_le_size fields)
most_le_size (Off32 node ∷ fields) = omega (arith, most_le_size fields)
most_le_size (Far32 node ∷ fields) = omega (arith, most_le_size fields)
most_le_size (Null16 ∷ fields) = omega (arith, most_le_size fields)
most_le_size (Null32 ∷ fields) = omega (arith, most_le_size fields)
