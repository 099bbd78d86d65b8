-- What holds of each tree of a source: where its values stand, which bytes its texts are, how many
-- brackets are open at a place, that the keys of a dictionary differ, and what is found under a
-- key. Fontc's own; all of it follows from Grammar, by the laws `trees_stand_in_their_sources` and
-- `keys_lead_to_their_values`.
use Rattle.std.specs.Prelude.{◌≡◌, ℕ, ◌+◌, ◌<◌, ◌≤◌, false, List, [], ◌∷◌, ◌++◌, ◌↔◌, length, map}
use Rattle.std.specs.Prelude.{Some, All}
use Rattle.std.specs.Str.{chars}
use Rattle.plist_reader.specs.declared.tree.Tree.{Tree}
use Rattle.plist_reader.specs.declared.tree.TreeNode.{TreeNode}
use Rattle.plist_reader.specs.declared.tree.TreeValue.{TreeValue}
use Rattle.plist_reader.specs.declared.tree.TreeValue.TheVariants as tree
use Rattle.plist_reader.specs.Tree.{node_at, text_at, find_in}
use Rattle.plist_reader.specs.Keys.{is_among}
use Rattle.plist_reader.specs.Grammar.{node, width, IsText}
use Rattle.plist_reader.specs.Refusals.{open_at}

-- between two places stands a word or a quoted string, which is these bytes after its escapes are
-- undone
pub record IsTextAt (cs : List ℕ) (place end : ℕ) (bytes : List ℕ) : Type 0 where
  pub before : List ℕ
  pub text : List ℕ
  pub after : List ℕ
  pub parts : cs ≡ before ++ (text ++ after)
  pub place_is : place ≡ width before
  pub end_is : end ≡ width before + width text
  pub spelled : IsText text bytes

abbrev pub SaysText : List ℕ → ℕ → ℕ → TreeValue → Type 0
SaysText cs place end (tree.Text bytes) = IsTextAt cs place end bytes
SaysText cs place end (tree.Bytes bytes) = Unit {0}
SaysText cs place end (tree.Items items) = Unit {0}
SaysText cs place end (tree.Pairs pairs) = Unit {0}

-- a value stands inside a text, and if it is a text it is what stands there
pub record StandsIn (cs : List ℕ) (node : TreeNode) : Type 0 where
  pub some : node.place < node.end
  pub inside : node.end ≤ width cs
  pub says : SaysText cs node.place node.end node.value

-- each of these is none of those before it
abbrev pub AreNew : List (List ℕ) → List (List ℕ) → Type 0
AreNew before [] = Unit {0}
AreNew before (key ∷ keys) = (is_among key before ≡ false) × AreNew (before ++ key ∷ []) keys

-- the keys of these pairs are texts, and differ
pub record IsDictionary (nodes : List TreeNode) (pairs : List (ℕ × ℕ)) : Type 0 where
  pub keys : List (List ℕ)
  pub texts : map (λ pair. text_at nodes pair.0) pairs ≡ map (λ key. Some key) keys
  pub differ : AreNew [] keys

abbrev pub IsDictionaryIn : List TreeNode → TreeValue → Type 0
IsDictionaryIn nodes (tree.Text bytes) = Unit {0}
IsDictionaryIn nodes (tree.Bytes bytes) = Unit {0}
IsDictionaryIn nodes (tree.Items items) = Unit {0}
IsDictionaryIn nodes (tree.Pairs pairs) = IsDictionary nodes pairs

-- a dictionary of a tree has a pair with this key and this value
pub record HasPair (t : Tree) (dictionary : ℕ) (key : List ℕ) (value : ℕ) : Type 0 where
  pub place : ℕ
  pub end : ℕ
  pub earlier : List (ℕ × ℕ)
  pub number : ℕ
  pub later : List (ℕ × ℕ)
  pub dictionary_is : node_at t dictionary
      ≡ Some (node place end (tree.Pairs (earlier ++ (number, value) ∷ later)))
  pub key_is : text_at t.nodes number ≡ Some key

-- a value is found under a key exactly where the dictionary has a pair of the two
abbrev pub FindsPairs : Tree → Type 0
FindsPairs t = (dictionary value : ℕ) (key : List ℕ)
    → (find_in t dictionary key ≡ Some value) ↔ HasPair t dictionary key value

-- what holds of each tree of a source
pub record StandsInSource (source : List ℕ) (t : Tree) : Type 0 where
  pub bytes : width (chars source) ≡ length source
  pub values : All (StandsIn (chars source)) t.nodes
  pub depth : (place : ℕ) → open_at place t.nodes ≤ 64
  pub dictionaries : All (λ node. IsDictionaryIn t.nodes node.value) t.nodes
