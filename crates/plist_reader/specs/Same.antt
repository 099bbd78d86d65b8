-- When two nodes of trees are the same: they have one place and one end, and their values are of
-- one kind and alike, item by item. Fontc's own. The test says exactly whether they are the same to
-- a contract.
use Rattle.std.proofs.Common.{◌≡◌, ℕ, Bool, false, ◌&&◌, ◌==◌, List, [], nat_eq, ap, sym}
use Rattle.std.proofs.Common.{true≢false, arith}
use Rattle.std.specs.Bool.{Decides}
use Rattle.std.specs.Cmp.{IsEquivalence, decided, unsigned_Decides}
use Rattle.std.specs.Cmp.Lexicographic.{pointwise, pointwise_decides, bytes_decides, lists_equiv}
use Rattle.std.proofs.lemmas.Bool.Decides.{Decides-and}
use Rattle.plist_reader.specs.declared.tree.TreeNode.{TreeNode}
use Rattle.plist_reader.specs.declared.tree.TreeValue.{TreeValue}
use Rattle.plist_reader.specs.declared.tree.TreeValue.TheVariants as tree

abbrev pub same_pair : ℕ × ℕ → ℕ × ℕ → Bool
same_pair p q = p.0 == q.0 && p.1 == q.1

abbrev pub same_value : TreeValue → TreeValue → Bool
same_value (tree.Text a) (tree.Text b) = pointwise nat_eq a b
same_value (tree.Text a) (tree.Bytes b) = false
same_value (tree.Text a) (tree.Items b) = false
same_value (tree.Text a) (tree.Pairs b) = false
same_value (tree.Bytes a) (tree.Text b) = false
same_value (tree.Bytes a) (tree.Bytes b) = pointwise nat_eq a b
same_value (tree.Bytes a) (tree.Items b) = false
same_value (tree.Bytes a) (tree.Pairs b) = false
same_value (tree.Items a) (tree.Text b) = false
same_value (tree.Items a) (tree.Bytes b) = false
same_value (tree.Items a) (tree.Items b) = pointwise nat_eq a b
same_value (tree.Items a) (tree.Pairs b) = false
same_value (tree.Pairs a) (tree.Text b) = false
same_value (tree.Pairs a) (tree.Bytes b) = false
same_value (tree.Pairs a) (tree.Items b) = false
same_value (tree.Pairs a) (tree.Pairs b) = pointwise same_pair a b

abbrev pub same_node : TreeNode → TreeNode → Bool
same_node m n = m.place == n.place && (m.end == n.end && same_value m.value n.value)

-- ---- the test is true exactly where two nodes are one: proved here, since the laws of `==` in the
-- code may cite specs alone

abbrev kind_of : TreeValue → ℕ
kind_of (tree.Text a) = 0
kind_of (tree.Bytes a) = 1
kind_of (tree.Items a) = 2
kind_of (tree.Pairs a) = 3

abbrev numbers_of : TreeValue → List ℕ
numbers_of (tree.Text a) = a
numbers_of (tree.Bytes a) = a
numbers_of (tree.Items a) = a
numbers_of (tree.Pairs a) = []

abbrev entries_of : TreeValue → List (ℕ × ℕ)
entries_of (tree.Text a) = []
entries_of (tree.Bytes a) = []
entries_of (tree.Items a) = []
entries_of (tree.Pairs a) = a

other_kind : (a b : TreeValue) → ¬ (kind_of a ≡ kind_of b) → Decides false (a ≡ b)
other_kind a b n = (λ e. absurd (true≢false (sym e)), λ e. absurd (n (ap kind_of e)))

same_pair-decides : (p q : ℕ × ℕ) → Decides (same_pair p q) (p ≡ q)
same_pair-decides p q = let d = Decides-and (p.0 == q.0) (p.1 == q.1) (unsigned_Decides p.0 q.0)
    (unsigned_Decides p.1 q.1) in
    (λ e. let h = d.0 e in λ i. (h.0 i, h.1 i), λ e. d.1 (ap (λ x. x.0) e, ap (λ x. x.1) e))

same_value-decides : (a b : TreeValue) → Decides (same_value a b) (a ≡ b)
same_value-decides (tree.Text a) (tree.Text b) = let d = bytes_decides a b
    in (λ e. ap (λ x. tree.Text x) (d.0 e), λ e. d.1 (ap numbers_of e))
same_value-decides (tree.Text a) (tree.Bytes b)
    = other_kind (tree.Text a) (tree.Bytes b) (λ e. omega (arith, e))
same_value-decides (tree.Text a) (tree.Items b)
    = other_kind (tree.Text a) (tree.Items b) (λ e. omega (arith, e))
same_value-decides (tree.Text a) (tree.Pairs b)
    = other_kind (tree.Text a) (tree.Pairs b) (λ e. omega (arith, e))
same_value-decides (tree.Bytes a) (tree.Text b)
    = other_kind (tree.Bytes a) (tree.Text b) (λ e. omega (arith, e))
same_value-decides (tree.Bytes a) (tree.Bytes b) = let d = bytes_decides a b
    in (λ e. ap (λ x. tree.Bytes x) (d.0 e), λ e. d.1 (ap numbers_of e))
same_value-decides (tree.Bytes a) (tree.Items b)
    = other_kind (tree.Bytes a) (tree.Items b) (λ e. omega (arith, e))
same_value-decides (tree.Bytes a) (tree.Pairs b)
    = other_kind (tree.Bytes a) (tree.Pairs b) (λ e. omega (arith, e))
same_value-decides (tree.Items a) (tree.Text b)
    = other_kind (tree.Items a) (tree.Text b) (λ e. omega (arith, e))
same_value-decides (tree.Items a) (tree.Bytes b)
    = other_kind (tree.Items a) (tree.Bytes b) (λ e. omega (arith, e))
same_value-decides (tree.Items a) (tree.Items b) = let d = bytes_decides a b
    in (λ e. ap (λ x. tree.Items x) (d.0 e), λ e. d.1 (ap numbers_of e))
same_value-decides (tree.Items a) (tree.Pairs b)
    = other_kind (tree.Items a) (tree.Pairs b) (λ e. omega (arith, e))
same_value-decides (tree.Pairs a) (tree.Text b)
    = other_kind (tree.Pairs a) (tree.Text b) (λ e. omega (arith, e))
same_value-decides (tree.Pairs a) (tree.Bytes b)
    = other_kind (tree.Pairs a) (tree.Bytes b) (λ e. omega (arith, e))
same_value-decides (tree.Pairs a) (tree.Items b)
    = other_kind (tree.Pairs a) (tree.Items b) (λ e. omega (arith, e))
same_value-decides (tree.Pairs a) (tree.Pairs b) = let d = pointwise_decides same_pair-decides a b
    in (λ e. ap (λ x. tree.Pairs x) (d.0 e), λ e. d.1 (ap entries_of e))

pub same_node-decides : (m n : TreeNode) → Decides (same_node m n) (m ≡ n)
same_node-decides m n =
    let d = Decides-and (m.place == n.place) (m.end == n.end && same_value m.value n.value)
    (unsigned_Decides m.place n.place)
    (Decides-and (m.end == n.end) (same_value m.value n.value) (unsigned_Decides m.end n.end)
    (same_value-decides m.value n.value)) in (
      λ e. let h = d.0 e in λ i. record { place = h.0 i; end = h.1.0 i; value = h.1.1 i },
      λ e. d.1 (ap (λ x. x.place) e, (ap (λ x. x.end) e, ap (λ x. x.value) e)),
    )

pub same_value_equiv : IsEquivalence same_value
same_value_equiv = decided same_value same_value-decides

pub same_node_equiv : IsEquivalence same_node
same_node_equiv = decided same_node same_node-decides

pub same_nodes_equiv : IsEquivalence (pointwise same_node)
same_nodes_equiv = lists_equiv same_node_equiv
