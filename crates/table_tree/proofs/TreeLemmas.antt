-- A field before others, and a field among the fields of a node.
use Rattle.std.proofs.Common.{◌≡◌, ℕ, zero, suc, ◌+◌, ◌<◌, ◌≤◌, List, [], ◌∷◌, length, get_or, drop}
use Rattle.std.proofs.Common.{subst, sym, ap, arith}
use Rattle.table_tree.specs.declared.node.Field.{Field}
use Rattle.table_tree.specs.declared.node.Field.TheVariants.{U8, U16, U32, Bytes, Off16, Off32}
use Rattle.table_tree.specs.declared.node.Field.TheVariants.{Far32, Null16, Null32}
use Rattle.table_tree.specs.Trees.{Tree, end, tree_size}
use Rattle.table_tree.specs.TreeOf.{before, tree_of}
use Rattle.table_tree.specs.Layouts.{item_length, items_of, total_by}

-- a field's bytes stand before those of the others
pub length_before : (field : Field) (others : Tree)
    → total_by item_length (items_of (before field others))
    ≡ total_by item_length (items_of (before field end)) + total_by item_length (items_of others)
length_before (U8 n) others = omega arith
length_before (U16 n) others = omega arith
length_before (U32 n) others = omega arith
length_before (Bytes content) others = omega arith
length_before (Off16 node) others = omega arith
length_before (Off32 node) others = omega arith
length_before (Far32 node) others = omega arith
length_before Null16 others = omega arith
length_before Null32 others = omega arith

-- the size of a node is that of its fields
pub size_before : (field : Field) (others : Tree)
    → tree_size (before field others) ≡ tree_size (before field end) + tree_size others
size_before (U8 n) others = omega arith
size_before (U16 n) others = omega arith
size_before (U32 n) others = omega arith
size_before (Bytes content) others = omega arith
size_before (Off16 node) others = omega arith
size_before (Off32 node) others = omega arith
size_before (Far32 node) others = omega arith
size_before Null16 others = omega arith
size_before Null32 others = omega arith

-- a field of a node is no larger than the node
pub size_at : (fields : List Field) (i : ℕ) (field : Field) → i < length fields
    → field ≡ get_or fields i field → tree_size (before field end) ≤ tree_size (tree_of fields)
size_at [] i field lt is = absurd (omega arith)
size_at (f ∷ fields) zero field lt is =
    let smaller : tree_size (before f end) ≤ tree_size (before f (tree_of fields))
    = omega (arith, size_before f (tree_of fields)) in
    subst (λ (x : Field). tree_size (before x end) ≤ tree_size (before f (tree_of fields))) (sym is)
    smaller
size_at (f ∷ fields) (suc i) field lt is =
    omega (arith, size_before f (tree_of fields), size_at fields i field (omega arith) is)

-- the fields from one on are that one before the others
pub tree_drop : (fields : List Field) (i : ℕ) (field : Field) → i < length fields
    → field ≡ get_or fields i field → tree_of (drop i fields)
    ≡ before field (tree_of (drop (suc i) fields))
tree_drop [] i field lt is = absurd (omega arith)
tree_drop (f ∷ fields) zero field lt is = ap (λ (x : Field). before x (tree_of fields)) (sym is)
tree_drop (f ∷ fields) (suc i) field lt is = tree_drop fields i field (omega arith) is
