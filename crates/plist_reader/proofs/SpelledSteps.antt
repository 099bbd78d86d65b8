-- What is read is spelled by the grammar: each step back from a rest that fits is a rest that fits.
use Rattle.std.proofs.Common.{◌≡◌, ℕ, suc, ◌+◌, ◌*◌, ◌<◌, Bool, true, false, cond, List, [], ◌∷◌}
use Rattle.std.proofs.Common.{◌++◌, length, Some, Result, refl, sym, ap, subst, ◌∙◌, arith}
use Rattle.std.proofs.Common.{append_assoc, IfOk}
use Rattle.std.specs.List.{AllByRecursion}
use Rattle.std.proofs.lemmas.List.{length-append}
use Rattle.std.specs.Char.{len_utf8}
use lib.Utf8.{encode}
use Rattle.plist_reader.specs.declared.tree.Tree.{Tree}
use Rattle.plist_reader.specs.declared.tree.TreeNode.{TreeNode}
use Rattle.plist_reader.specs.declared.tree.TreeValue.TheVariants as tree
use Rattle.plist_reader.specs.declared.reader.Reader.{Reader}
use Rattle.plist_reader.specs.declared.reader.Phase.{Phase}
use Rattle.plist_reader.specs.declared.reader.Phase.TheVariants.{Value, Item, ItemEnd, Key, KeyEnd}
use Rattle.plist_reader.specs.declared.reader.Phase.TheVariants.{PairEnd, End}
use Rattle.plist_reader.specs.declared.reader.Token.{Token}
use Rattle.plist_reader.specs.declared.reader.Token.TheVariants.{Between, Word, Quoted, Escape}
use Rattle.plist_reader.specs.declared.reader.Token.TheVariants.{Bytes, Half}
use Rattle.plist_reader.specs.declared.reader.Open.{Open}
use Rattle.plist_reader.specs.declared.reader.Open.TheVariants.{Items, Pairs}
use Rattle.plist_reader.specs.Characters.{is_word, hex_value}
use Rattle.plist_reader.specs.Keys.{is_among}
use Rattle.plist_reader.specs.Grammar as grammar
use Rattle.plist_reader.specs.Grammar.{node, width, AreSpaces, IsText, IsWord, IsQuoted, IsHex}
use Rattle.plist_reader.specs.Grammar.{IsEscape, IsTail, IsItem, IsEntry, AreNone, Spells}
use Rattle.plist_reader.specs.Grammar.{SpellItems, SpellEntries, inner_of, own_of, items_nodes}
use Rattle.plist_reader.specs.Grammar.{items_numbers, entries_nodes, entries_numbers}
use Rattle.plist_reader.specs.Reading.{ended_in}
use Rattle.plist_reader.proofs.GivenTokens.{ready, settled, width-append, CanBegin, IsAwaiting}
use Rattle.plist_reader.proofs.GivenTexts.{opened}
use Rattle.plist_reader.proofs.SpelledEscapes.{Front}
use Rattle.plist_reader.proofs.SpelledRests.{Onward, carry, ItemTail, InItems, InEntries, EntryTail}
use Rattle.plist_reader.proofs.SpelledRests.{After, AtValue, AtSign, item-from_value}
use Rattle.plist_reader.proofs.SpelledRests.{entry-from_key}

-- ---- rests between tokens

abbrev pub RestItem : List Open → Tree → List TreeNode → ℕ → List ℕ → Type 0
RestItem [] t nodes place cs = ⊥
RestItem (Pairs d ∷ outer) t nodes place cs = ⊥
RestItem (Items at done ∷ outer) t nodes place cs
    = InItems (After outer t) (suc (length outer)) at done nodes place cs

abbrev pub RestItemEnd : List Open → Tree → List TreeNode → ℕ → List ℕ → Type 0
RestItemEnd [] t nodes place cs = ⊥
RestItemEnd (Pairs d ∷ outer) t nodes place cs = ⊥
RestItemEnd (Items at done ∷ outer) t nodes place cs
    = ItemTail (After outer t) (suc (length outer)) at done nodes place cs

abbrev pub RestKey : List Open → Tree → List TreeNode → ℕ → List ℕ → Type 0
RestKey [] t nodes place cs = ⊥
RestKey (Items at done ∷ outer) t nodes place cs = ⊥
RestKey (Pairs d ∷ outer) t nodes place cs
    = InEntries (After outer t) (suc (length outer)) d nodes place cs

abbrev pub RestKeyEnd : List Open → Tree → List TreeNode → ℕ → List ℕ → Type 0
RestKeyEnd [] t nodes place cs = ⊥
RestKeyEnd (Items at done ∷ outer) t nodes place cs = ⊥
RestKeyEnd (Pairs d ∷ outer) t nodes place cs
    = AtSign (After (Pairs d ∷ outer) t) (suc (length outer)) nodes place cs

abbrev pub RestPairEnd : List Open → Tree → List TreeNode → ℕ → List ℕ → Type 0
RestPairEnd [] t nodes place cs = ⊥
RestPairEnd (Items at done ∷ outer) t nodes place cs = ⊥
RestPairEnd (Pairs d ∷ outer) t nodes place cs
    = EntryTail (After outer t) (suc (length outer)) d nodes place cs

abbrev pub RestIn : Phase → List Open → Tree → List TreeNode → ℕ → List ℕ → Type 0
RestIn Value brackets t nodes place cs = AtValue (After brackets t) (length brackets) nodes place cs
RestIn Item brackets t nodes place cs = RestItem brackets t nodes place cs
RestIn ItemEnd brackets t nodes place cs = RestItemEnd brackets t nodes place cs
RestIn Key brackets t nodes place cs = RestKey brackets t nodes place cs
RestIn KeyEnd brackets t nodes place cs = RestKeyEnd brackets t nodes place cs
RestIn PairEnd brackets t nodes place cs = RestPairEnd brackets t nodes place cs
RestIn (End number) brackets t nodes place cs = After [] t nodes number place cs

-- behind a text
abbrev pub AfterKey : List Open → Tree → List TreeNode → ℕ → List ℕ → ℕ → List ℕ → Type 0
AfterKey [] t nodes at bytes place cs = ⊥
AfterKey (Items p done ∷ outer) t nodes at bytes place cs = ⊥
AfterKey (Pairs d ∷ outer) t nodes at bytes place cs =
    (is_among bytes d.keys ≡ false) × AtSign
    (After (Pairs (record d { keys = d.keys ++ bytes ∷ []; key = length nodes }) ∷ outer) t)
    (suc (length outer)) (nodes ++ node at place (tree.Text bytes) ∷ []) place cs

abbrev pub AfterText : Phase → List Open → Tree → List TreeNode → ℕ → List ℕ → ℕ → List ℕ → Type 0
AfterText Value brackets t nodes at bytes place cs
    = After brackets t (nodes ++ node at place (tree.Text bytes) ∷ []) (length nodes) place cs
AfterText Item brackets t nodes at bytes place cs
    = After brackets t (nodes ++ node at place (tree.Text bytes) ∷ []) (length nodes) place cs
AfterText Key brackets t nodes at bytes place cs = AfterKey brackets t nodes at bytes place cs
AfterText ItemEnd brackets t nodes at bytes place cs = ⊥
AfterText KeyEnd brackets t nodes at bytes place cs = ⊥
AfterText PairEnd brackets t nodes at bytes place cs = ⊥
AfterText (End n) brackets t nodes at bytes place cs = ⊥

-- ---- rests in tokens

pub record InWord (phase : Phase) (brackets : List Open) (nodes : List TreeNode) (text : List ℕ)
    (t : Tree) (at place : ℕ) (cs : List ℕ) : Type 0 where
  pub more : List ℕ
  pub rest : List ℕ
  pub parts : cs ≡ more ++ rest
  pub own : AllByRecursion (λ c. is_word c ≡ true) more
  pub onward : AfterText phase brackets t nodes at (text ++ more) (place + width more) rest

pub record InQuoted (phase : Phase) (brackets : List Open) (nodes : List TreeNode) (text : List ℕ)
    (t : Tree) (at place : ℕ) (cs : List ℕ) : Type 0 where
  pub more : List ℕ
  pub bytes : List ℕ
  pub rest : List ℕ
  pub parts : cs ≡ more ++ 34 ∷ rest
  pub quoted : IsQuoted more bytes
  pub onward : AfterText phase brackets t nodes at (text ++ bytes) (place + width more + 1) rest

pub record EscapeRest (phase : Phase) (brackets : List Open) (nodes : List TreeNode) (text : List ℕ)
    (t : Tree) (at place : ℕ) (front cs : List ℕ) : Type 0 where
  pub escape : List ℕ
  pub character : ℕ
  pub tail : List ℕ
  pub behind : ℕ
  pub parts : front ++ cs ≡ escape ++ tail
  pub known : IsEscape escape character
  pub behind_is : behind + width tail ≡ place + width cs
  pub onward : InQuoted phase brackets nodes (text ++ encode character) t at behind tail

pub record InBytes (brackets : List Open) (nodes : List TreeNode) (bytes : List ℕ) (t : Tree)
    (at place : ℕ) (cs : List ℕ) : Type 0 where
  pub more : List ℕ
  pub made : List ℕ
  pub rest : List ℕ
  pub parts : cs ≡ more ++ 62 ∷ rest
  pub hex : IsHex more made
  pub onward : After brackets t (nodes ++ node at (place + width more + 1)
      (tree.Bytes (bytes ++ made)) ∷ []) (length nodes) (place + width more + 1) rest

pub record InHalf (brackets : List Open) (nodes : List TreeNode) (bytes : List ℕ) (t : Tree)
    (at high place : ℕ) (cs : List ℕ) : Type 0 where
  pub gap : List ℕ
  pub digit : ℕ
  pub more : List ℕ
  pub made : List ℕ
  pub rest : List ℕ
  pub x : ℕ
  pub y : ℕ
  pub parts : cs ≡ gap ++ digit ∷ (more ++ 62 ∷ rest)
  pub spaces : AreSpaces gap
  pub first : hex_value high ≡ Some x
  pub second : hex_value digit ≡ Some y
  pub hex : IsHex more made
  pub onward : After brackets t (nodes ++ node at
      (place + width gap + len_utf8 digit + width more + 1)
      (tree.Bytes (bytes ++ (x * 16 + y) ∷ made)) ∷ []) (length nodes)
      (place + width gap + len_utf8 digit + width more + 1) rest

abbrev pub RestOf : Token → Reader → Tree → ℕ → List ℕ → Type 0
RestOf Between r t place cs = RestIn r.phase r.brackets t r.nodes place cs
RestOf (Word at) r t place cs = InWord r.phase r.brackets r.nodes r.text t at place cs
RestOf (Quoted at) r t place cs = InQuoted r.phase r.brackets r.nodes r.text t at place cs
RestOf (Escape at backslash escape) r t place cs = (front : List ℕ) → Front escape front
    → EscapeRest r.phase r.brackets r.nodes r.text t at place front cs
RestOf (Bytes at) r t place cs = InBytes r.brackets r.nodes r.bytes t at place cs
RestOf (Half at high) r t place cs = InHalf r.brackets r.nodes r.bytes t at high place cs

-- what must be left behind a place where this reader stands
abbrev pub Rest : Reader → Tree → ℕ → List ℕ → Type 0
Rest r t place cs = RestOf r.token r t place cs

-- ---- readers that agree with what is open

abbrev pub AgreesItem : List Open → Type 0
AgreesItem [] = ⊥
AgreesItem (Pairs d ∷ outer) = ⊥
AgreesItem (Items at done ∷ outer) = Unit {0}

abbrev pub AgreesKey : List Open → Type 0
AgreesKey [] = ⊥
AgreesKey (Items at done ∷ outer) = ⊥
AgreesKey (Pairs d ∷ outer) = Unit {0}

abbrev pub Agrees : Phase → List Open → Type 0
Agrees Value brackets = Unit {0}
Agrees Item brackets = AgreesItem brackets
Agrees ItemEnd brackets = AgreesItem brackets
Agrees Key brackets = AgreesKey brackets
Agrees KeyEnd brackets = AgreesKey brackets
Agrees PairEnd brackets = AgreesKey brackets
Agrees (End n) brackets = Unit {0}

abbrev pub GoodIn : Token → Reader → Type 0
GoodIn Between r = Agrees r.phase r.brackets × (r.text ≡ []) × (r.bytes ≡ [])
GoodIn (Word at) r = Agrees r.phase r.brackets × CanBegin r.phase × (r.bytes ≡ [])
GoodIn (Quoted at) r = Agrees r.phase r.brackets × CanBegin r.phase × (r.bytes ≡ [])
GoodIn (Escape at backslash escape) r = Agrees r.phase r.brackets × CanBegin r.phase
    × (r.bytes ≡ [])
GoodIn (Bytes at) r = Agrees r.phase r.brackets × IsAwaiting r.phase × (r.text ≡ [])
GoodIn (Half at high) r = Agrees r.phase r.brackets × IsAwaiting r.phase × (r.text ≡ [])

abbrev pub Good : Reader → Type 0
Good r = GoodIn r.token r

-- a step leads to a good reader, and a rest behind it is one before it
abbrev pub Back : Reader → ℕ → ℕ → Reader → Type 0
Back r place c s = Good s × ((t : Tree) (cs : List ℕ) → Rest s t (place + len_utf8 c) cs
    → Rest r t place (c ∷ cs))

-- ---- choices

pub if_ok-known : {A E : Type 0} (P : A → Type 0) (b : Bool) (x y : Result A E)
    → (b ≡ true → IfOk x P) → (b ≡ false → IfOk y P) → IfOk (cond b x y) P
if_ok-known P true x y h k = h refl
if_ok-known P false x y h k = k refl

-- ---- values that have ended

settled_in-good : (nodes : List TreeNode) (brackets around : List Open) (number : ℕ)
    → Good (ended_in (ready nodes brackets Value) number around)
settled_in-good nodes brackets [] number = (tt, refl, refl)
settled_in-good nodes brackets (Items at done ∷ outer) number = (tt, refl, refl)
settled_in-good nodes brackets (Pairs d ∷ outer) number = (tt, refl, refl)

pub settled-good : (nodes : List TreeNode) (brackets : List Open) (number : ℕ)
    → Good (settled nodes brackets number)
settled-good nodes brackets number = settled_in-good nodes brackets brackets number

settled_in-rest : (nodes : List TreeNode) (brackets around : List Open) (number : ℕ) (t : Tree)
    (place : ℕ) (cs : List ℕ)
    → Rest (ended_in (ready nodes brackets Value) number around) t place cs
    → After around t nodes number place cs
settled_in-rest nodes brackets [] number t place cs h = h
settled_in-rest nodes brackets (Items at done ∷ outer) number t place cs h = h
settled_in-rest nodes brackets (Pairs d ∷ outer) number t place cs h = h

pub settled-rest : (nodes : List TreeNode) (brackets : List Open) (number : ℕ) (t : Tree)
    (place : ℕ) (cs : List ℕ) → Rest (settled nodes brackets number) t place cs
    → After brackets t nodes number place cs
settled-rest nodes brackets number t place cs h
    = settled_in-rest nodes brackets brackets number t place cs h

-- ---- values that begin

pub awaiting-from_value : (phase : Phase) (brackets : List Open) → IsAwaiting phase
    → Agrees phase brackets → (t : Tree) (nodes : List TreeNode) (place : ℕ) (cs : List ℕ)
    → AtValue (After brackets t) (length brackets) nodes place cs
    → RestIn phase brackets t nodes place cs
awaiting-from_value Value brackets a g t nodes place cs h = h
awaiting-from_value Item [] a g t nodes place cs h = elim g [ ]
awaiting-from_value Item (Pairs d ∷ outer) a g t nodes place cs h = elim g [ ]
awaiting-from_value Item (Items at done ∷ outer) a g t nodes place cs h
    = item-from_value outer t at done nodes place cs h
awaiting-from_value Key brackets a g t nodes place cs h = elim a [ ]
awaiting-from_value ItemEnd brackets a g t nodes place cs h = elim a [ ]
awaiting-from_value KeyEnd brackets a g t nodes place cs h = elim a [ ]
awaiting-from_value PairEnd brackets a g t nodes place cs h = elim a [ ]
awaiting-from_value (End n) brackets a g t nodes place cs h = elim a [ ]

-- a text that is a value
text-value : (K : Onward) (depth : ℕ) (nodes : List TreeNode) (place : ℕ) (text bytes rest : List ℕ)
    → IsText text bytes
    → K (nodes ++ node place (place + width text) (tree.Text bytes) ∷ []) (length nodes)
    (place + width text) rest → AtValue K depth nodes place (text ++ rest)
text-value K depth nodes place text bytes rest w h = record {
  value = grammar.Text place (place + width text) bytes;
  gap = [];
  text = text;
  rest = rest;
  parts = refl;
  spaces = tt;
  spelled = (omega arith, omega arith, w);
  onward = carry K _ _ _ _ (place + width text) (place + 0 + width text) rest refl (omega arith)
      (omega arith) h;
}

-- a byte string
pub bytes-value : (K : Onward) (depth : ℕ) (nodes : List TreeNode) (place : ℕ)
    (inner bytes rest : List ℕ) → IsHex inner bytes
    → K (nodes ++ node place (place + 1 + width inner + 1) (tree.Bytes bytes) ∷ []) (length nodes)
    (place + 1 + width inner + 1) rest
    → AtValue K depth nodes place (60 ∷ (inner ++ 62 ∷ rest))
bytes-value K depth nodes place inner bytes rest q h =
    let text = 60 ∷ (inner ++ 62 ∷ []) in
    let w : width text ≡ 1 + (width inner + 1) = omega (arith, width-append inner (62 ∷ [])) in
    record {
      value = grammar.Bytes place (place + 1 + width inner + 1) bytes;
      gap = [];
      text = text;
      rest = rest;
      parts = ap (λ x. 60 ∷ x) (sym (append_assoc inner (62 ∷ []) rest));
      spaces = tt;
      spelled = (omega arith, omega (arith, w), inner, refl, q);
      onward = carry K _ _ _ _ (place + 1 + width inner + 1) (place + 0 + width text) rest refl
          (omega arith) (omega (arith, w)) h;
    }

-- a list
pub list-value : (K : Onward) (depth count : ℕ) (nodes : List TreeNode) (place : ℕ) (cs : List ℕ)
    → depth < 64 → count ≡ depth + 1 → InItems K count place [] nodes (place + 1) cs
    → AtValue K depth nodes place (40 ∷ cs)
list-value K depth count nodes place cs l e h =
    let text = 40 ∷ (h.inner ++ 41 ∷ []) in
    let n = length nodes in
    let inside = items_nodes h.values n in
    let w : width text ≡ 1 + (width h.inner + 1) = omega (arith, width-append h.inner (41 ∷ [])) in
    let S : ℕ → Type 0 = λ x. SpellItems h.values x (place + 1) h.inner in
    let U : ℕ → Type 0 = λ x. SpellItems h.values (depth + 1) x h.inner in
    let end = place + 1 + width h.inner + 1 in
    let own = node place end (tree.Items (items_numbers h.values n)) in
    let one : place + 1 ≡ place + 0 + 1 = omega arith in
    record {
      value = grammar.Items place end h.values;
      gap = [];
      text = text;
      rest = h.rest;
      parts = ap (λ x. 40 ∷ x) (h.parts ∙ sym (append_assoc h.inner (41 ∷ []) h.rest));
      spaces = tt;
      spelled = (
        omega arith,
        omega (arith, w),
        l,
        h.inner,
        refl,
        subst U one
            (subst S e h.spelled),
      );
      onward = carry K _ _ _ _ end (place + 0 + width text) h.rest
          (append_assoc nodes inside (own ∷ [])) (length-append nodes inside) (omega (arith, w))
          h.onward;
    }

-- a dictionary
pub dictionary-value : (K : Onward) (depth count : ℕ) (nodes : List TreeNode) (place : ℕ)
    (cs : List ℕ) → depth < 64 → count ≡ depth + 1
    → InEntries K count (opened place) nodes (place + 1) cs → AtValue K depth nodes place (123 ∷ cs)
dictionary-value K depth count nodes place cs l e h =
    let text = 123 ∷ (h.inner ++ 125 ∷ []) in
    let n = length nodes in
    let inside = entries_nodes h.entries n in
    let w : width text ≡ 1 + (width h.inner + 1) = omega (arith, width-append h.inner (125 ∷ [])) in
    let S : ℕ → Type 0 = λ x. SpellEntries h.entries x [] (place + 1) h.inner in
    let U : ℕ → Type 0 = λ x. SpellEntries h.entries (depth + 1) [] x h.inner in
    let end = place + 1 + width h.inner + 1 in
    let own = node place end (tree.Pairs (entries_numbers h.entries n)) in
    let one : place + 1 ≡ place + 0 + 1 = omega arith in
    record {
      value = grammar.Pairs place end h.entries;
      gap = [];
      text = text;
      rest = h.rest;
      parts = ap (λ x. 123 ∷ x) (h.parts ∙ sym (append_assoc h.inner (125 ∷ []) h.rest));
      spaces = tt;
      spelled = (
        omega arith,
        omega (arith, w),
        l,
        h.inner,
        refl,
        subst U one
            (subst S e h.spelled),
      );
      onward = carry K _ _ _ _ end (place + 0 + width text) h.rest
          (append_assoc nodes inside (own ∷ [])) (length-append nodes inside) (omega (arith, w))
          h.onward;
    }

-- a text where one can begin
pub begun-text : (phase : Phase) (brackets : List Open) → CanBegin phase → Agrees phase brackets
    → (t : Tree) (nodes : List TreeNode) (place : ℕ) (text bytes rest : List ℕ)
    → IsText text bytes → AfterText phase brackets t nodes place bytes (place + width text) rest
    → RestIn phase brackets t nodes place (text ++ rest)
begun-text Value brackets b g t nodes place text bytes rest w h
    = text-value (After brackets t) (length brackets) nodes place text bytes rest w h
begun-text Item [] b g t nodes place text bytes rest w h = elim g [ ]
begun-text Item (Pairs d ∷ outer) b g t nodes place text bytes rest w h = elim g [ ]
begun-text Item (Items at done ∷ outer) b g t nodes place text bytes rest w h =
    item-from_value outer t at done nodes place (text ++ rest)
    (text-value (After (Items at done ∷ outer) t) (suc (length outer)) nodes place text bytes
    rest w h)
begun-text Key [] b g t nodes place text bytes rest w h = elim g [ ]
begun-text Key (Items at done ∷ outer) b g t nodes place text bytes rest w h = elim g [ ]
begun-text Key (Pairs d ∷ outer) b g t nodes place text bytes rest w h =
    let P : ℕ → Type 0 = λ x. AtSign (After
    (Pairs (record d { keys = d.keys ++ bytes ∷ []; key = length nodes }) ∷ outer) t)
    (suc (length outer)) (nodes ++ node x (x + width text) (tree.Text bytes) ∷ [])
    (x + width text) rest in
    let none : place ≡ place + 0 = omega arith in
    entry-from_key outer t d nodes place [] text bytes rest tt w h.0 (subst P none h.1)
begun-text ItemEnd brackets b g t nodes place text bytes rest w h = elim b [ ]
begun-text KeyEnd brackets b g t nodes place text bytes rest w h = elim b [ ]
begun-text PairEnd brackets b g t nodes place text bytes rest w h = elim b [ ]
begun-text (End n) brackets b g t nodes place text bytes rest w h = elim b [ ]

-- the rest of a text is one with other names for its characters
pub rest_same : (phase : Phase) (brackets : List Open) (t : Tree) (nodes : List TreeNode)
    (place : ℕ) (cs ds : List ℕ) → cs ≡ ds → RestIn phase brackets t nodes place cs
    → RestIn phase brackets t nodes place ds
rest_same phase brackets t nodes place cs ds e h = let P : List ℕ
    → Type 0 = λ x. RestIn phase brackets t nodes place x in subst P e h
