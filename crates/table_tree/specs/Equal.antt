-- When two nodes are equal: where they have one spelling, so the same fields in the same order.
use Rattle.std.specs.Prelude.{◌≡◌, ℕ, Bool, true, false, ◌&&◌, List, nat_eq}
use Rattle.std.specs.Cmp.{IsEquivalence, on_equiv}
use Rattle.std.specs.Cmp.Lexicographic.{pointwise, bytes_decides, nat_list_eq_equiv}
use Rattle.table_tree.specs.declared.node.Field.{Field}
use Rattle.table_tree.specs.declared.node.Field.TheVariants.{U8, U16, U32, Bytes, Off16, Off32}
use Rattle.table_tree.specs.declared.node.Field.TheVariants.{Far32, Null16, Null32}
use Rattle.table_tree.specs.Trees.{Tree, spelling, spelling_injective}

abbrev pub tree_eq : Tree → Tree → Bool
tree_eq a b = pointwise nat_eq (spelling a) (spelling b)

pub tree_eq_equiv : IsEquivalence tree_eq
tree_eq_equiv = on_equiv spelling nat_list_eq_equiv

-- the test tells whether two nodes are one
pub equal_nodes : (a b : Tree) → tree_eq a b ≡ true → a ≡ b
equal_nodes a b e = spelling_injective a b ((bytes_decides (spelling a) (spelling b)).0 e)

pub node_equals_itself : (a b : Tree) → a ≡ b → tree_eq a b ≡ true
node_equals_itself a b e = (bytes_decides (spelling a) (spelling b)).1 (λ i. spelling (e i))

-- two fields are equal where they are of one kind and hold the same
abbrev pub field_eq : Field → Field → Bool
field_eq (U8 m) (U8 n) = nat_eq m n
field_eq (U16 m) (U16 n) = nat_eq m n
field_eq (U32 m) (U32 n) = nat_eq m n
field_eq (Bytes content) (Bytes other) = pointwise nat_eq content other
field_eq (Off16 node) (Off16 other) = tree_eq node other
field_eq (Off32 node) (Off32 other) = tree_eq node other
field_eq (Far32 node) (Far32 other) = tree_eq node other
field_eq Null16 Null16 = true
field_eq Null32 Null32 = true
field_eq field other = false
