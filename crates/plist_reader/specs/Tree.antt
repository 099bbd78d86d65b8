-- What a tree of numbered values says. A number that no value has names nothing. Fontc's own, as is
-- the limit of a source's length.
use Rattle.std.specs.Prelude.{ℕ, ◌<◌, ◌≤◌, Bool, false, List, [], ◌∷◌, length, Option, Some, None}
use Rattle.std.specs.Prelude.{slice_get, All, nat_eq, option_and_then, if◌then◌else◌}
use Rattle.std.specs.Cmp.Lexicographic.{pointwise}
use Rattle.refusal_codes.specs.declared.limits.TheConstants.{SOURCE_BYTES}
use Rattle.plist_reader.specs.declared.tree.Tree.{Tree}
use Rattle.plist_reader.specs.declared.tree.TreeNode.{TreeNode}
use Rattle.plist_reader.specs.declared.tree.TreeValue.{TreeValue}
use Rattle.plist_reader.specs.declared.tree.TreeValue.TheVariants as tree

-- the longest source that is read, in bytes
abbrev pub source_limit : ℕ
source_limit = SOURCE_BYTES

-- the value with this number
abbrev pub node_at : Tree → ℕ → Option TreeNode
node_at t n = slice_get t.nodes n

-- the bytes of a text
abbrev pub text_of : TreeValue → Option (List ℕ)
text_of (tree.Text bytes) = Some bytes
text_of (tree.Bytes bytes) = None
text_of (tree.Items items) = None
text_of (tree.Pairs pairs) = None

-- the values of a list
abbrev pub items_of : TreeValue → Option (List ℕ)
items_of (tree.Text bytes) = None
items_of (tree.Bytes bytes) = None
items_of (tree.Items items) = Some items
items_of (tree.Pairs pairs) = None

-- the keys and values of a dictionary
abbrev pub pairs_of : TreeValue → Option (List (ℕ × ℕ))
pairs_of (tree.Text bytes) = None
pairs_of (tree.Bytes bytes) = None
pairs_of (tree.Items items) = None
pairs_of (tree.Pairs pairs) = Some pairs

-- whether a text has these bytes
abbrev pub spells : List ℕ → Option (List ℕ) → Bool
spells key None = false
spells key (Some text) = pointwise nat_eq text key

-- the bytes of the text with this number
abbrev pub text_at : List TreeNode → ℕ → Option (List ℕ)
text_at nodes n = option_and_then (λ node. text_of node.value) (slice_get nodes n)

-- whether the value with this number is a text with these bytes
abbrev pub is_key : Tree → List ℕ → ℕ → Bool
is_key t key n = spells key (text_at t.nodes n)

-- the value of the first pair with this key
abbrev pub value_with : Tree → List ℕ → List (ℕ × ℕ) → Option ℕ
value_with t key [] = None
value_with t key (pair ∷ pairs) = if is_key t key pair.0 then Some pair.1 else value_with t key
    pairs

abbrev pub value_in : Tree → List ℕ → Option (List (ℕ × ℕ)) → Option ℕ
value_in t key None = None
value_in t key (Some pairs) = value_with t key pairs

-- the value that a dictionary has under a key; what is no dictionary has none
abbrev pub find_in : Tree → ℕ → List ℕ → Option ℕ
find_in t n key = value_in t key (option_and_then (λ node. pairs_of node.value) (node_at t n))

-- each number inside is that of a value of the tree, and no value holds more bytes, values or pairs
-- than a source may have bytes
abbrev pub IsValue : ℕ → TreeValue → Type 0
IsValue count (tree.Text bytes) = length bytes ≤ source_limit
IsValue count (tree.Bytes bytes) = length bytes ≤ source_limit
IsValue count (tree.Items items) = (length items ≤ source_limit) × All (λ n. n < count) items
IsValue count (tree.Pairs pairs) = (length pairs ≤ source_limit)
    × All (λ pair. (pair.0 < count) × (pair.1 < count)) pairs

-- what holds of each tree that is read from a source
pub record IsTree (t : Tree) : Type 0 where
  pub few : length t.nodes ≤ source_limit
  pub top : t.top < length t.nodes
  pub values : All (λ node. IsValue (length t.nodes) node.value) t.nodes
