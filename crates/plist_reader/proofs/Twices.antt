-- A key that its dictionary has already stands so in a text with a tree, where it goes on to be
-- another.
use Rattle.std.proofs.Common.{◌≡◌, ℕ, ◌+◌, true, List, [], ◌∷◌, ◌++◌, length, refl, sym, ap, ◌∙◌}
use Rattle.std.proofs.Common.{append_assoc}
use Rattle.std.specs.Prelude.{slice_get}
use Rattle.std.specs.Char.{IsScalar}
use Rattle.plist_reader.specs.declared.tree.Tree.{Tree}
use Rattle.plist_reader.specs.declared.tree.TreeNode.{TreeNode}
use Rattle.plist_reader.specs.declared.tree.TreeValue.TheVariants as tree
use Rattle.plist_reader.specs.declared.reader.Reader.{Reader}
use Rattle.plist_reader.specs.declared.reader.Dictionary.{Dictionary}
use Rattle.plist_reader.specs.declared.reader.Phase.TheVariants.{Value, Key}
use Rattle.plist_reader.specs.declared.reader.Token.{Token}
use Rattle.plist_reader.specs.declared.reader.Open.{Open}
use Rattle.plist_reader.specs.declared.reader.Open.TheVariants.{Pairs}
use Rattle.plist_reader.specs.Keys.{is_among}
use Rattle.plist_reader.specs.Grammar as grammar
use Rattle.plist_reader.specs.Grammar.{node, width, tree_of, IsTextOf}
use Rattle.plist_reader.specs.Refusals.{IsKeyBehind}
use Rattle.plist_reader.specs.Reading.{run}
use Rattle.plist_reader.proofs.RunLemmas.{run_step}
use Rattle.plist_reader.proofs.Scalars.{all-append}
use Rattle.plist_reader.proofs.GivenTokens.{in_token, settled}
use Rattle.plist_reader.proofs.GivenStrings.{step-angle_begun, step-angle_end}
use Rattle.plist_reader.proofs.GivenTexts.{step-equals, step-semicolon, step-dictionary_end}
use Rattle.plist_reader.proofs.GivenTexts.{key_end}
use Rattle.plist_reader.proofs.CanGoOn.{extends-settled, KeyWay}
use Rattle.plist_reader.proofs.Reached.{Reached, reached-scalars, reached-run, spelled-ok}
use Rattle.plist_reader.proofs.Keyed.{has_key, has_key-more, slice_get-last, strong-has}
use Rattle.plist_reader.proofs.Keyed.{reached-keyed}

-- behind another key an empty byte string, and the dictionary's end
abbrev ending : List ℕ
ending = 61 ∷ 60 ∷ 62 ∷ 59 ∷ 125 ∷ []

-- the values then: those before, the key, the byte string and the dictionary
abbrev keyed : List TreeNode → ℕ → ℕ → List ℕ → List TreeNode
keyed nodes at end key = nodes ++ node at end (tree.Text key) ∷ []

abbrev valued : List TreeNode → ℕ → ℕ → List ℕ → ℕ → List TreeNode
valued nodes at end key q = keyed nodes at end key ++ node (q + 1) (q + 1 + 1 + 1) (tree.Bytes [])
    ∷ []

abbrev pairs_then : List TreeNode → Dictionary → ℕ → ℕ → List ℕ → List (ℕ × ℕ)
pairs_then nodes d at end key = d.pairs ++ (length nodes, length (keyed nodes at end key)) ∷ []

abbrev closing_node : List TreeNode → Dictionary → ℕ → ℕ → List ℕ → ℕ → TreeNode
closing_node nodes d at end key q = node d.place (q + 1 + 1 + 1 + 1 + 1)
    (tree.Pairs (pairs_then nodes d at end key))

run-ending : (nodes : List TreeNode) (d : Dictionary) (outer : List Open) (at end q : ℕ)
    (key more : List ℕ)
    → run (key_end nodes d outer at end key) q (ending ++ more)
    ≡ run (settled (valued nodes at end key q ++ closing_node nodes d at end key q ∷ []) outer
    (length (valued nodes at end key q))) (q + 1 + 1 + 1 + 1 + 1) more
run-ending nodes d outer at end q key more =
    let made = keyed nodes at end key in
    let all = valued nodes at end key q in
    let e : Dictionary = record d { keys = d.keys ++ key ∷ []; key = length nodes } in
    let f : Dictionary = record e { pairs = pairs_then nodes d at end key } in
    run_step _ _ q 61 (60 ∷ 62 ∷ 59 ∷ 125 ∷ more) (step-equals made (Pairs e ∷ outer) q)
    ∙ run_step _ _ (q + 1) 60 (62 ∷ 59 ∷ 125 ∷ more)
    (step-angle_begun made (Pairs e ∷ outer) Value (q + 1) tt)
    ∙ run_step _ _ (q + 1 + 1) 62 (59 ∷ 125 ∷ more)
    (step-angle_end made (Pairs e ∷ outer) Value (q + 1) (q + 1 + 1) [])
    ∙ run_step _ _ (q + 1 + 1 + 1) 59 (125 ∷ more)
    (step-semicolon all (Pairs f ∷ outer) (q + 1 + 1 + 1))
    ∙ run_step _ _ (q + 1 + 1 + 1 + 1) 125 more
    (step-dictionary_end all (q + 1 + 1 + 1 + 1) f outer)

-- in each tree with these values the key stands behind another of these bytes
key-behind : (nodes more : List TreeNode) (d : Dictionary) (at end q : ℕ) (key text : List ℕ)
    (t : Tree) → has_key nodes text d.pairs ≡ true
    → t.nodes ≡ (valued nodes at end key q ++ closing_node nodes d at end key q ∷ []) ++ more
    → IsKeyBehind text at t
key-behind nodes more d at end q key text t h e =
    let all = valued nodes at end key q in
    let own = node at end (tree.Text key) in
    let last = closing_node nodes d at end key q in
    let bytes = node (q + 1) (q + 1 + 1 + 1) (tree.Bytes []) in
    let flat : t.nodes ≡ nodes ++ own ∷ (bytes ∷ (last ∷ more)) = e ∙ simp append_assoc in
    let behind : t.nodes ≡ all ++ last ∷ more = e ∙ append_assoc all (last ∷ []) more in
    record {
      dictionary = length all;
      begin = d.place;
      end = q + 1 + 1 + 1 + 1 + 1;
      earlier = d.pairs;
      number = length nodes;
      value = length (keyed nodes at end key);
      later = [];
      own = own;
      dictionary_is = ap (λ x. slice_get x (length all)) behind ∙ slice_get-last all last more;
      known = ap (λ x. has_key x text d.pairs) flat
          ∙ has_key-more nodes (own ∷ (bytes ∷ (last ∷ more))) text d.pairs h;
      own_is = ap (λ x. slice_get x (length nodes)) flat
          ∙ slice_get-last nodes own (bytes ∷ (last ∷ more));
      place_is = refl;
    }

-- a text with a tree in which the key goes on
pub record GoesOn (front : List ℕ) (text : List ℕ) (at : ℕ) : Type 0 where
  pub rest : List ℕ
  pub other : grammar.Value
  pub spelled : IsTextOf other (front ++ rest)
  pub behind : IsKeyBehind text at (tree_of other)

key-goes_on : (front : List ℕ) (nodes : List TreeNode) (d : Dictionary) (outer : List Open) (at : ℕ)
    (text : List ℕ) (r : Reader) → Reached front r
    → KeyWay nodes d outer at r (width front) → has_key nodes text d.pairs ≡ true
    → GoesOn front text at
key-goes_on front nodes d outer at text r h w k =
    let q = w.next in
    let all = valued nodes at w.end w.key q in
    let last = closing_node nodes d at w.end w.key q in
    let x = extends-settled outer (all ++ last ∷ []) (length all) (q + 1 + 1 + 1 + 1 + 1) in
    let rest = w.characters ++ (ending ++ x.whole.rest) in
    let i = all-append IsScalar w.characters (ending ++ x.whole.rest) w.scalars
    (refl, (refl, (refl, (refl, (refl, x.whole.scalars))))) in
    let s = spelled-ok (front ++ rest) x.whole.tree
    (all-append IsScalar front rest (reached-scalars front r h) i)
    (reached-run front r h rest ∙ w.leads (ending ++ x.whole.rest)
    ∙ run-ending nodes d outer at w.end q w.key x.whole.rest ∙ x.whole.runs) in
    record {
      rest = rest;
      other = s.0;
      spelled = s.1;
      behind
          = key-behind nodes x.more d at w.end q w.key text (tree_of s.0) k
          (ap (λ t. t.nodes) (sym s.2) ∙ x.grows);
    }

pub twice-goes_on : (front : List ℕ) (nodes : List TreeNode) (d : Dictionary) (outer : List Open)
    (token : Token) (at : ℕ) (text : List ℕ)
    → Reached front (in_token nodes (Pairs d ∷ outer) Key token text [])
    → KeyWay nodes d outer at (in_token nodes (Pairs d ∷ outer) Key token text []) (width front)
    → is_among text d.keys ≡ true → GoesOn front text at
twice-goes_on front nodes d outer token at text h w k =
    let r = in_token nodes (Pairs d ∷ outer) Key token text [] in
    key-goes_on front nodes d outer at text r h w
    (strong-has nodes d.pairs text d.keys (reached-keyed front r h).top k)
