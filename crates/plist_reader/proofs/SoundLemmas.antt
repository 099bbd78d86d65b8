-- What holds of a reader at each place, and so of each tree that it gives.
use Rattle.std.proofs.Common.{◌≡◌, ℕ, ◌+◌, ◌<◌, ◌≤◌, List, [], ◌∷◌, ◌++◌, length, refl, ap, subst}
use Rattle.std.proofs.Common.{◌∙◌, arith}
use Rattle.std.specs.List.{All, AllByRecursion}
use Rattle.std.proofs.lemmas.List.{length_push}
use Rattle.std.proofs.lemmas.List.Elements.{All-push, All-weaker}
use Rattle.plist_reader.specs.declared.tree.TreeNode.{TreeNode}
use Rattle.plist_reader.specs.declared.tree.TreeValue.{TreeValue}
use Rattle.plist_reader.specs.declared.tree.TreeValue.TheVariants as tree
use Rattle.plist_reader.specs.declared.reader.Reader.{Reader}
use Rattle.plist_reader.specs.declared.reader.Phase.{Phase}
use Rattle.plist_reader.specs.declared.reader.Phase.TheVariants.{Value, Item, ItemEnd, Key, KeyEnd}
use Rattle.plist_reader.specs.declared.reader.Phase.TheVariants.{PairEnd, End}
use Rattle.plist_reader.specs.declared.reader.Token.{Token}
use Rattle.plist_reader.specs.declared.reader.Token.TheVariants.{Between, Word, Quoted, Escape}
use Rattle.plist_reader.specs.declared.reader.Token.TheVariants.{Bytes, Half}
use Rattle.plist_reader.specs.declared.reader.Open.{Open}
use Rattle.plist_reader.specs.declared.reader.Open.TheVariants.{Items, Pairs}
use Rattle.plist_reader.specs.declared.escape.Escape.{Escape as EscapeState}
use Rattle.plist_reader.specs.declared.escape.Escape.TheVariants.{Begun, Octal, Octals, Unit0}
use Rattle.plist_reader.specs.declared.escape.Escape.TheVariants.{Unit1, Unit2, Unit3, High}
use Rattle.plist_reader.specs.declared.escape.Escape.TheVariants.{HighBackslash, Low, Low1, Low2}
use Rattle.plist_reader.specs.declared.escape.Escape.TheVariants.{Low3}
use Rattle.plist_reader.specs.Reading.{with_node, ended_in, value_ended}

-- ---- words

-- how many values a token will make
abbrev pub token_weight : Token → ℕ
token_weight Between = 0
token_weight (Word at) = 1
token_weight (Quoted at) = 1
token_weight (Escape at backslash escape) = 1
token_weight (Bytes at) = 1
token_weight (Half at high) = 1

-- how many characters of an escape are read
abbrev pub escape_weight : EscapeState → ℕ
escape_weight Begun = 1
escape_weight (Octal a) = 2
escape_weight (Octals a b) = 3
escape_weight Unit0 = 2
escape_weight (Unit1 a) = 3
escape_weight (Unit2 a b) = 4
escape_weight (Unit3 a b c) = 5
escape_weight (High h) = 6
escape_weight (HighBackslash h) = 7
escape_weight (Low h) = 8
escape_weight (Low1 h) = 9
escape_weight (Low2 h b) = 10
escape_weight (Low3 h b c) = 11

abbrev pub text_weight : Token → ℕ
text_weight Between = 0
text_weight (Word at) = 0
text_weight (Quoted at) = 0
text_weight (Escape at backslash escape) = escape_weight escape
text_weight (Bytes at) = 0
text_weight (Half at high) = 0

-- a value whose parts are among the first values, and no longer than a limit
abbrev pub IsValueBy : ℕ → ℕ → TreeValue → Type 0
IsValueBy count limit (tree.Text bytes) = length bytes ≤ limit
IsValueBy count limit (tree.Bytes bytes) = length bytes ≤ limit
IsValueBy count limit (tree.Items items) = (length items ≤ limit) × All (λ n. n < count) items
IsValueBy count limit (tree.Pairs pairs) = (length pairs ≤ limit)
    × All (λ pair. (pair.0 < count) × (pair.1 < count)) pairs

abbrev pub IsOpenBy : ℕ → Open → Type 0
IsOpenBy count (Items at items) = (length items ≤ count) × All (λ n. n < count) items
IsOpenBy count (Pairs d) = (length d.pairs ≤ count) × (d.key ≤ count)
    × All (λ pair. (pair.0 < count) × (pair.1 < count)) d.pairs

abbrev pub IsPhaseBy : ℕ → Phase → Type 0
IsPhaseBy count (End n) = n < count
IsPhaseBy count Value = Unit {0}
IsPhaseBy count Item = Unit {0}
IsPhaseBy count ItemEnd = Unit {0}
IsPhaseBy count Key = Unit {0}
IsPhaseBy count KeyEnd = Unit {0}
IsPhaseBy count PairEnd = Unit {0}

-- the values so far, and what is open
pub record Inside (r : Reader) (limit : ℕ) : Type 0 where
  pub nodes : All (λ node. IsValueBy (length r.nodes) limit node.value) r.nodes
  pub brackets : AllByRecursion (IsOpenBy (length r.nodes)) r.brackets
  pub phase : IsPhaseBy (length r.nodes) r.phase

pub record Sound (r : Reader) (place : ℕ) : Type 0 where
  pub count : length r.nodes + length r.brackets + token_weight r.token ≤ place
  pub text : length r.text + text_weight r.token ≤ place
  pub bytes : length r.bytes ≤ place
  pub inside : Inside r place

-- ---- more values, a later place

pub IsValueBy-more : (m n k l : ℕ) (value : TreeValue) → m ≤ n → k ≤ l → IsValueBy m k value
    → IsValueBy n l value
IsValueBy-more m n k l (tree.Text bytes) h g v = omega (arith, v)
IsValueBy-more m n k l (tree.Bytes bytes) h g v = omega (arith, v)
IsValueBy-more m n k l (tree.Items items) h g v
    = (omega (arith, v.0), All-weaker (λ i. i < m) (λ i. i < n) (λ i q. omega arith) items v.1)
IsValueBy-more m n k l (tree.Pairs pairs) h g v = (
  omega (arith, v.0),
  All-weaker (λ pair. (pair.0 < m) × (pair.1 < m))
      (λ pair. (pair.0 < n) × (pair.1 < n)) (λ pair q. (omega (arith, q.0), omega (arith, q.1)))
      pairs v.1,
)

pub IsOpenBy-more : (m n : ℕ) (bracket : Open) → m ≤ n → IsOpenBy m bracket → IsOpenBy n bracket
IsOpenBy-more m n (Items at items) h v =
    (omega (arith, v.0), All-weaker (λ i. i < m) (λ i. i < n) (λ i q. omega arith) items v.1)
IsOpenBy-more m n (Pairs d) h v = (
  omega (arith, v.0),
  omega (arith, v.1),
  All-weaker (λ pair. (pair.0 < m) × (pair.1 < m))
      (λ pair. (pair.0 < n) × (pair.1 < n)) (λ pair q. (omega (arith, q.0), omega (arith, q.1)))
      d.pairs v.2,
)

pub open_more : (m n : ℕ) (brackets : List Open) → m ≤ n → AllByRecursion (IsOpenBy m) brackets
    → AllByRecursion (IsOpenBy n) brackets
open_more m n [] h v = tt
open_more m n (bracket ∷ brackets) h v =
    (IsOpenBy-more m n bracket h v.0, open_more m n brackets h v.1)

pub Inside-later : (r : Reader) (k l : ℕ) → k ≤ l → Inside r k → Inside r l
Inside-later r k l h i = record {
  nodes = All-weaker (λ node. IsValueBy (length r.nodes) k node.value)
      (λ node. IsValueBy (length r.nodes) l node.value)
      (λ node v. IsValueBy-more (length r.nodes) (length r.nodes) k l node.value (omega arith) h v)
      r.nodes i.nodes;
  brackets = i.brackets;
  phase = i.phase;
}

pub Sound-later : (r : Reader) (k l : ℕ) → k ≤ l → Sound r k → Sound r l
Sound-later r k l h s = record {
  count = omega (arith, s.count);
  text = omega (arith, s.text);
  bytes
      = omega (arith, s.bytes);
  inside = Inside-later r k l h s.inside;
}

-- ---- a value ends

-- all values of a longer list
pub nodes_more : (nodes : List TreeNode) (place end limit : ℕ) (value : TreeValue)
    → All (λ node. IsValueBy (length nodes) limit node.value) nodes
    → IsValueBy (length nodes) limit value
    → All (λ node. IsValueBy (length (nodes ++ record { place = place; end = end; value = value }
    ∷ [])) limit node.value) (nodes ++ record { place = place; end = end; value = value } ∷ [])
nodes_more nodes place end limit value h v =
    let n = length (nodes ++ record { place = place; end = end; value = value } ∷ []) in
    let long : n ≡ length nodes + 1 = length_push nodes
    (record { place = place; end = end; value = value }) in
    All-push (λ node. IsValueBy n limit node.value) nodes
    (record { place = place; end = end; value = value })
    (All-weaker (λ node. IsValueBy (length nodes) limit node.value)
    (λ node. IsValueBy n limit node.value)
    (λ node q. IsValueBy-more (length nodes) n limit limit node.value (omega arith)
    (omega arith) q) nodes h)
    (IsValueBy-more (length nodes) n limit limit value (omega arith) (omega arith) v)

-- what stays
pub record Same (r s : Reader) : Type 0 where
  token : s.token ≡ r.token
  text : s.text ≡ r.text
  bytes : s.bytes ≡ r.bytes
  nodes : s.nodes ≡ r.nodes
  brackets : length s.brackets ≡ length r.brackets

ended_in-same : (r : Reader) (n : ℕ) (brackets : List Open) → brackets ≡ r.brackets
    → Same r (ended_in r n brackets)
ended_in-same r n [] e = record {
  token = refl;
  text = refl;
  bytes = refl;
  nodes = refl;
  brackets
      = refl;
}
ended_in-same r n (Items at items ∷ outer) e
    = record { token = refl; text = refl; bytes = refl; nodes = refl; brackets = ap length e }
ended_in-same r n (Pairs d ∷ outer) e = record
    { token = refl; text = refl; bytes = refl; nodes = refl; brackets = ap length e }

-- a number goes into what is open around it
ended_in-inside : (r : Reader) (n limit : ℕ) (brackets : List Open) → brackets ≡ r.brackets
    → length r.nodes ≡ n + 1
    → All (λ node. IsValueBy (length r.nodes) limit node.value) r.nodes
    → AllByRecursion (IsOpenBy n) brackets → Inside (ended_in r n brackets) limit
ended_in-inside r n limit [] e long v o = record {
  nodes = v;
  brackets = subst (λ b. AllByRecursion (IsOpenBy (length r.nodes)) b) e tt;
  phase
      = omega arith;
}
ended_in-inside r n limit (Items at items ∷ outer) e long v o =
    let m = length r.nodes in
    record {
      nodes = v;
      brackets = (
        (
          omega (arith, length_push items n, o.0.0),
          All-push (λ i. i < m) items n
              (All-weaker (λ i. i < n) (λ i. i < m) (λ i q. omega arith) items o.0.1) (omega arith),
        ),
        open_more n m outer (omega arith) o.1,
      );
      phase = tt;
    }
ended_in-inside r n limit (Pairs d ∷ outer) e long v o =
    let m = length r.nodes in
    record {
      nodes = v;
      brackets = (
        (
          omega (arith, length_push d.pairs (d.key, n), o.0.0),
          omega (arith, o.0.1),
          All-push (λ pair. (pair.0 < m) × (pair.1 < m)) d.pairs (d.key, n)
              (All-weaker (λ pair. (pair.0 < n) × (pair.1 < n))
              (λ pair. (pair.0 < m) × (pair.1 < m))
              (λ pair q. (omega (arith, q.0), omega (arith, q.1))) d.pairs o.0.2)
              (omega (arith, o.0.1), omega arith),
        ),
        open_more n m outer (omega arith) o.1,
      );
      phase = tt;
    }

value_ended-inside : (r : Reader) (at end limit : ℕ) (value : TreeValue) → Inside r limit
    → IsValueBy (length r.nodes) limit value → Inside (value_ended r at end value) limit
unfolding value_ended
value_ended-inside r at end limit value i v =
    ended_in-inside (with_node r at end value) (length r.nodes) limit r.brackets refl
    (length_push r.nodes (record { place = at; end = end; value = value }))
    (nodes_more r.nodes at end limit value i.nodes v) i.brackets

value_ended-same : (r : Reader) (at end : ℕ) (value : TreeValue)
    → Same (with_node r at end value) (value_ended r at end value)
unfolding value_ended
value_ended-same r at end value = ended_in-same (with_node r at end value) (length r.nodes)
    r.brackets refl

-- the place is behind what the value weighs
pub value_ended-sound : (r : Reader) (at end place : ℕ) (value : TreeValue) → Inside r place
    → IsValueBy (length r.nodes) place value
    → length r.nodes + 1 + length r.brackets + token_weight r.token ≤ place
    → length r.text + text_weight r.token ≤ place → length r.bytes ≤ place
    → Sound (value_ended r at end value) place
value_ended-sound r at end place value i v count text bytes =
    let same = value_ended-same r at end value in
    let s = value_ended r at end value in
    let nodes : length s.nodes ≡ length r.nodes + 1 = ap length same.nodes
    ∙ length_push r.nodes (record { place = at; end = end; value = value }) in
    record {
      count = omega (arith, nodes, same.brackets, ap token_weight same.token, count);
      text = omega (arith, ap length same.text, ap text_weight same.token, text);
      bytes = omega (arith, ap length same.bytes, bytes);
      inside = value_ended-inside r at end place value i v;
    }
