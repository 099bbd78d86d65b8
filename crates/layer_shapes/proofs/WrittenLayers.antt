-- Layers that are written out, as property lists that were read: each value has the place that is
-- ten times its number.
use Rattle.std.specs.Prelude.{ℕ, ◌+◌, ◌*◌, List, [], ◌∷◌, codes}
use Rattle.plist_reader.specs.declared.tree.Tree.{Tree}
use Rattle.plist_reader.specs.declared.tree.TreeNode.{TreeNode}
use Rattle.plist_reader.specs.declared.tree.TreeValue.{TreeValue}
use Rattle.plist_reader.specs.declared.tree.TreeValue.TheVariants.{Text, Items, Pairs}

abbrev nodes_from : ℕ → List TreeValue → List TreeNode
nodes_from number [] = []
nodes_from number (value ∷ values) =
    record { place = 10 * number; end = 10 * number + 1; value = value }
    ∷ nodes_from (number + 1) values

-- the tree of these values, whose whole value is the one with this number
abbrev tree_of : List TreeValue → ℕ → Tree
tree_of values top = record { nodes = nodes_from 0 values; top = top }

abbrev word : List ℕ → TreeValue
word text = Text text

-- a layer with one path of two nodes: (0,0,l), and (10,-20) of this type. The second node is the
-- value 11, its type the value 10
abbrev pub path_layer : List ℕ → Tree
path_layer kind = tree_of (
    word (codes "width")
    ∷ word (codes "500")
    ∷ word (codes "shapes")
    ∷ word (codes "nodes")
    ∷ word (codes "0")
    ∷ word (codes "0")
    ∷ word (codes "l")
    ∷ Items (4 ∷ 5 ∷ 6 ∷ [])
    ∷ word (codes "10")
    ∷ word (codes "-20")
    ∷ word kind
    ∷ Items (8 ∷ 9 ∷ 10 ∷ [])
    ∷ Items (7 ∷ 11 ∷ [])
    ∷ Pairs ((3, 12) ∷ [])
    ∷ Items (13 ∷ [])
    ∷ Pairs ((0, 1) ∷ (2, 14) ∷ [])
    ∷ []
    ) 15

-- a layer with one component of B, moved by (x,y), scaled by (0.5,s), and with this value under
-- this key. The component is the value 15, x the value 6, s the value 11, and that value the
-- value 14
abbrev pub component_layer : List ℕ → List ℕ → List ℕ → List ℕ → List ℕ → Tree
component_layer x y s key value = tree_of (
    word (codes "width")
    ∷ word (codes "500")
    ∷ word (codes "shapes")
    ∷ word (codes "ref")
    ∷ word (codes "B")
    ∷ word (codes "pos")
    ∷ word x
    ∷ word y
    ∷ Items (6 ∷ 7 ∷ [])
    ∷ word (codes "scale")
    ∷ word (codes "0.5")
    ∷ word s
    ∷ Items (10 ∷ 11 ∷ [])
    ∷ word key
    ∷ word value
    ∷ Pairs ((3, 4) ∷ (5, 8) ∷ (9, 12) ∷ (13, 14) ∷ [])
    ∷ Items (15 ∷ [])
    ∷ Pairs ((0, 1) ∷ (2, 16) ∷ [])
    ∷ []
    ) 17

-- a layer with two anchors: top at (1,2), and one of this name at (x,2), where x is the value 11
abbrev pub anchor_layer : List ℕ → List ℕ → Tree
anchor_layer name x = tree_of (
    word (codes "width")
    ∷ word (codes "500")
    ∷ word (codes "anchors")
    ∷ word (codes "name")
    ∷ word (codes "top")
    ∷ word (codes "pos")
    ∷ word (codes "1")
    ∷ word (codes "2")
    ∷ Items (6 ∷ 7 ∷ [])
    ∷ Pairs ((3, 4) ∷ (5, 8) ∷ [])
    ∷ word name
    ∷ word x
    ∷ Items (11 ∷ 7 ∷ [])
    ∷ Pairs ((3, 10) ∷ (5, 12) ∷ [])
    ∷ Items (9 ∷ 13 ∷ [])
    ∷ Pairs ((0, 1) ∷ (2, 14) ∷ [])
    ∷ []
    ) 15
