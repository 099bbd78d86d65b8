-- What must be left of a text behind each place, so that the whole has a tree: the grammar of the
-- rest, by what is open.
use Rattle.std.proofs.Common.{◌≡◌, ℕ, suc, ◌+◌, false, List, [], ◌∷◌, ◌++◌, length, refl, sym, ap}
use Rattle.std.proofs.Common.{subst, ◌∙◌, arith}
use Rattle.plist_reader.specs.declared.tree.Tree.{Tree}
use Rattle.plist_reader.specs.declared.tree.TreeNode.{TreeNode}
use Rattle.plist_reader.specs.declared.tree.TreeValue.TheVariants as tree
use Rattle.plist_reader.specs.declared.reader.Dictionary.{Dictionary}
use Rattle.plist_reader.specs.declared.reader.Open.{Open}
use Rattle.plist_reader.specs.declared.reader.Open.TheVariants.{Items, Pairs}
use Rattle.plist_reader.specs.Keys.{is_among}
use Rattle.plist_reader.specs.Grammar as grammar
use Rattle.plist_reader.specs.Grammar.{node, width, AreSpaces, IsText, IsTail, IsItem, IsEntry}
use Rattle.plist_reader.specs.Grammar.{AreNone, Spells, SpellItems, SpellEntries, inner_of, own_of}
use Rattle.plist_reader.specs.Grammar.{items_nodes, items_numbers, entries_nodes, entries_numbers}
use Rattle.plist_reader.proofs.GivenTokens.{width-append}
use Rattle.plist_reader.proofs.GivenTexts.{with_value, item_parts, entry_parts, items_on}
use Rattle.plist_reader.proofs.GivenTexts.{item_numbers_on, entries_on, entry_numbers_on}

-- what a rest must be where a value has ended: by the nodes, the value's number, the place and the
-- rest
abbrev pub Onward : Type 1
Onward = List TreeNode → ℕ → ℕ → List ℕ → Type 0

pub carry : (K : Onward) (m n : List TreeNode) (i j p q : ℕ) (rest : List ℕ) → m ≡ n → i ≡ j → p ≡ q
    → K m i p rest → K n j q rest
carry K m n i j p q rest e f g h =
    let A : List TreeNode → Type 0 = λ x. K x i p rest in
    let B : ℕ → Type 0 = λ x. K n x p rest in
    let C : ℕ → Type 0 = λ x. K n j x rest in
    subst C g (subst B f (subst A e h))

-- a list closes behind these values, a dictionary behind these entries
abbrev pub ListEnds : Onward → ℕ → List ℕ → List TreeNode → grammar.Values → ℕ → List ℕ → Type 0
ListEnds K at done nodes values place rest =
    K ((nodes ++ items_nodes values (length nodes))
    ++ node at (place + 1) (tree.Items (done ++ items_numbers values (length nodes))) ∷ [])
    (length (nodes ++ items_nodes values (length nodes))) (place + 1) rest

abbrev pub DictionaryEnds : Onward → Dictionary → List TreeNode → grammar.Entries → ℕ → List ℕ
    → Type 0
DictionaryEnds K d nodes entries place rest =
    K ((nodes ++ entries_nodes entries (length nodes))
    ++ node d.place (place + 1) (tree.Pairs (d.pairs ++ entries_numbers entries (length nodes)))
    ∷ []) (length (nodes ++ entries_nodes entries (length nodes))) (place + 1) rest

pub record ItemTail (K : Onward) (depth at : ℕ) (done : List ℕ) (nodes : List TreeNode) (place : ℕ)
    (cs : List ℕ) : Type 0 where
  pub values : grammar.Values
  pub after : List ℕ
  pub tail : List ℕ
  pub rest : List ℕ
  pub parts : cs ≡ after ++ (tail ++ 41 ∷ rest)
  pub spaces : AreSpaces after
  pub followed : IsTail (AreNone values) (λ p x. SpellItems values depth p x) (place + width after)
      tail
  pub onward : ListEnds K at done nodes values (place + width after + width tail) rest

pub record InItems (K : Onward) (depth at : ℕ) (done : List ℕ) (nodes : List TreeNode) (place : ℕ)
    (cs : List ℕ) : Type 0 where
  pub values : grammar.Values
  pub inner : List ℕ
  pub rest : List ℕ
  pub parts : cs ≡ inner ++ 41 ∷ rest
  pub spelled : SpellItems values depth place inner
  pub onward : ListEnds K at done nodes values (place + width inner) rest

pub record InEntries (K : Onward) (depth : ℕ) (d : Dictionary) (nodes : List TreeNode) (place : ℕ)
    (cs : List ℕ) : Type 0 where
  pub entries : grammar.Entries
  pub inner : List ℕ
  pub rest : List ℕ
  pub parts : cs ≡ inner ++ 125 ∷ rest
  pub spelled : SpellEntries entries depth d.keys place inner
  pub onward : DictionaryEnds K d nodes entries (place + width inner) rest

pub record EntryTail (K : Onward) (depth : ℕ) (d : Dictionary) (nodes : List TreeNode) (place : ℕ)
    (cs : List ℕ) : Type 0 where
  pub after : List ℕ
  pub rest : List ℕ
  pub parts : cs ≡ after ++ 59 ∷ rest
  pub spaces : AreSpaces after
  pub onward : InEntries K depth d nodes (place + width after + 1) rest

-- behind a value, by the brackets around it
abbrev pub After : List Open → Tree → Onward
After [] t nodes number place cs = AreSpaces cs × (t ≡ record { nodes = nodes; top = number })
After (Items at done ∷ outer) t nodes number place cs
    = ItemTail (After outer t) (suc (length outer)) at (done ++ number ∷ []) nodes place cs
After (Pairs d ∷ outer) t nodes number place cs
    = EntryTail (After outer t) (suc (length outer))
    (record d { pairs = d.pairs ++ (d.key, number) ∷ [] }) nodes place cs

-- before a value
pub record AtValue (K : Onward) (depth : ℕ) (nodes : List TreeNode) (place : ℕ) (cs : List ℕ)
    : Type 0 where
  pub value : grammar.Value
  pub gap : List ℕ
  pub text : List ℕ
  pub rest : List ℕ
  pub parts : cs ≡ gap ++ (text ++ rest)
  pub spaces : AreSpaces gap
  pub spelled : Spells value depth (place + width gap) text
  pub onward : K (with_value nodes value) (length nodes + length (inner_of value (length nodes)))
      (place + width gap + width text) rest

-- before the sign behind a key
pub record AtSign (K : Onward) (depth : ℕ) (nodes : List TreeNode) (place : ℕ) (cs : List ℕ)
    : Type 0 where
  pub gap : List ℕ
  pub rest : List ℕ
  pub parts : cs ≡ gap ++ 61 ∷ rest
  pub spaces : AreSpaces gap
  pub onward : AtValue K depth nodes (place + width gap + 1) rest

-- ---- a value of a list, and an entry

pub item-from_value : (outer : List Open) (t : Tree) (at : ℕ) (done : List ℕ)
    (nodes : List TreeNode) (place : ℕ) (cs : List ℕ)
    → AtValue (After (Items at done ∷ outer) t) (suc (length outer)) nodes place cs
    → InItems (After outer t) (suc (length outer)) at done nodes place cs
item-from_value outer t at done nodes place cs h =
    let v = h.value in
    let more = with_value nodes v in
    let number = length nodes + length (inner_of v (length nodes)) in
    let k = h.onward in
    let inner = h.gap ++ (h.text ++ (k.after ++ k.tail)) in
    let here = place + width h.gap + width h.text + width k.after + width k.tail in
    let w : width inner ≡ width h.gap + (width h.text + (width k.after + width k.tail))
    = omega (
      arith,
      width-append h.gap (h.text ++ (k.after ++ k.tail)),
      width-append h.text
          (k.after ++ k.tail),
      width-append k.after k.tail,
    ) in
    let all = items_on nodes v k.values in
    record {
      values = grammar.AndValue v k.values;
      inner = inner;
      rest = k.rest;
      parts = h.parts ∙ ap (λ x. h.gap ++ (h.text ++ x)) k.parts
          ∙ sym (item_parts h.gap h.text k.after k.tail (41 ∷ k.rest));
      spelled = record {
        gap = h.gap;
        text = h.text;
        after = k.after;
        tail = k.tail;
        parts
            = refl;
        gap_spaces = h.spaces;
        spelled = h.spelled;
        after_spaces = k.spaces;
        followed
            = k.followed;
      };
      onward = carry (After outer t) _ _ _ _ (here + 1) (place + width inner + 1) k.rest
          (ap (λ x. x ++ node at (here + 1) (tree.Items
          ((done ++ number ∷ []) ++ items_numbers k.values (length more))) ∷ []) all
          ∙ ap (λ x. (nodes ++ items_nodes (grammar.AndValue v k.values) (length nodes))
          ++ node at (here + 1) (tree.Items x) ∷ []) (item_numbers_on nodes v k.values done)
          ∙ ap (λ p. (nodes ++ items_nodes (grammar.AndValue v k.values) (length nodes))
          ++ node at p (tree.Items (done ++ items_numbers (grammar.AndValue v k.values)
          (length nodes))) ∷ []) (omega (arith, w)))
          (ap length all) (omega (arith, w)) k.onward;
    }

-- a key, its sign, its value and what follows
pub entry-from_key : (outer : List Open) (t : Tree) (d : Dictionary) (nodes : List TreeNode)
    (place : ℕ) (gap key_text key cs : List ℕ) → AreSpaces gap → IsText key_text key
    → is_among key d.keys ≡ false
    → AtSign (After (Pairs (record d { keys = d.keys ++ key ∷ []; key = length nodes }) ∷ outer) t)
    (suc (length outer)) (nodes ++ node (place + width gap) (place + width gap + width key_text)
    (tree.Text key) ∷ []) (place + width gap + width key_text) cs
    → InEntries (After outer t) (suc (length outer)) d nodes place (gap ++ (key_text ++ cs))
entry-from_key outer t d nodes place gap key_text key cs gs kt am h =
    let at = place + width gap in
    let end = at + width key_text in
    let keyed = nodes ++ node at end (tree.Text key) ∷ [] in
    let n = length nodes in
    let m = length keyed in
    let a = h.onward in
    let v = a.value in
    let number = m + length (inner_of v m) in
    let more = with_value keyed v in
    let k = a.onward in
    let e = k.onward in
    let inner = gap ++ (key_text ++ (h.gap ++ 61
    ∷ (a.gap ++ (a.text ++ (k.after ++ 59 ∷ e.inner))))) in
    let here = end + width h.gap + 1 + width a.gap + width a.text + width k.after + 1
    + width e.inner in
    let w : width inner ≡ width gap + (width key_text
    + (width h.gap + (1 + (width a.gap +
    (width a.text + (width k.after + (1 + width e.inner))))))) =
    omega (
      arith,
      width-append gap (key_text
          ++ (h.gap ++ 61 ∷ (a.gap ++ (a.text ++ (k.after ++ 59 ∷ e.inner))))),
      width-append key_text
          (h.gap ++ 61 ∷ (a.gap ++ (a.text ++ (k.after ++ 59 ∷ e.inner)))),
      width-append h.gap
          (61 ∷ (a.gap ++ (a.text ++ (k.after ++ 59 ∷ e.inner)))),
      width-append a.gap
          (a.text ++ (k.after ++ 59 ∷ e.inner)),
      width-append a.text (k.after ++ 59 ∷ e.inner),
      width-append k.after (59 ∷ e.inner),
    ) in
    let all = entries_on nodes at end key v e.entries in
    record {
      entries = grammar.AndEntry at end key v e.entries;
      inner = inner;
      rest = e.rest;
      parts = ap (λ x. gap ++ (key_text ++ x)) h.parts
          ∙ ap (λ x. gap ++ (key_text ++ (h.gap ++ 61 ∷ x))) a.parts
          ∙ ap (λ x. gap ++ (key_text ++ (h.gap ++ 61 ∷ (a.gap ++ (a.text ++ x))))) k.parts
          ∙ ap (λ x. gap ++ (key_text ++ (h.gap ++ 61
          ∷ (a.gap ++ (a.text ++ (k.after ++ 59 ∷ x)))))) e.parts
          ∙ sym (entry_parts gap key_text h.gap a.gap a.text k.after e.inner (125 ∷ e.rest));
      spelled = (
        am,
        record {
          gap = gap;
          key_text = key_text;
          before_sign = h.gap;
          behind_sign
              = a.gap;
          text = a.text;
          after = k.after;
          rest = e.inner;
          parts = refl;
          gap_spaces
              = gs;
          key_place_is = refl;
          key_end_is = refl;
          key_spelled = kt;
          before_spaces
              = h.spaces;
          behind_spaces = a.spaces;
          spelled = a.spelled;
          after_spaces
              = k.spaces;
          followed = e.spelled;
        },
      );
      onward = carry (After outer t) _ _ _ _ (here + 1) (place + width inner + 1) e.rest
          (ap (λ x. x ++ node d.place (here + 1)
          (tree.Pairs ((d.pairs ++ (n, number) ∷ [])
          ++ entries_numbers e.entries (length more))) ∷ []) all
          ∙ ap (λ x. (nodes ++ entries_nodes (grammar.AndEntry at end key v e.entries) n)
          ++ node d.place (here + 1) (tree.Pairs x) ∷ [])
          (entry_numbers_on nodes at end key v e.entries d.pairs)
          ∙ ap (λ p. (nodes ++ entries_nodes (grammar.AndEntry at end key v e.entries) n)
          ++ node d.place p (tree.Pairs (d.pairs
          ++ entries_numbers (grammar.AndEntry at end key v e.entries) n)) ∷ [])
          (omega (arith, w)))
          (ap length all) (omega (arith, w)) e.onward;
    }
