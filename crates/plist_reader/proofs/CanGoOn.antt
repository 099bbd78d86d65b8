-- From each state that reading reaches some characters lead to a tree: what is open is finished,
-- and no bracket opens.
use Rattle.std.proofs.Common.{append_assoc, ◌≡◌, ℕ, zero, suc, ◌+◌, ◌<◌, Bool, true, false, ◌&&◌}
use Rattle.std.proofs.Common.{◌||◌, List, [], ◌∷◌, ◌++◌, length, Some, Ok, refl, sym, subst, ◌∙◌}
use Rattle.std.proofs.Common.{arith}
use Rattle.std.specs.Prelude.{nat_eq}
use Rattle.std.specs.Cmp.Lexicographic.{pointwise}
use Rattle.std.proofs.lemmas.List.{append-nil, length-append, length_push}
use Rattle.std.proofs.lemmas.Bool.{eqb-false}
use Rattle.std.proofs.lemmas.Str.{length-encode}
use Rattle.std.specs.Char.{IsScalar, len_utf8}
use lib.Utf8.{encode}
use Rattle.plist_reader.specs.declared.tree.Tree.{Tree}
use Rattle.plist_reader.specs.declared.tree.TreeNode.{TreeNode}
use Rattle.plist_reader.specs.declared.tree.TreeValue.TheVariants as tree
use Rattle.plist_reader.specs.declared.reader.Reader.{Reader}
use Rattle.plist_reader.specs.declared.reader.Dictionary.{Dictionary}
use Rattle.plist_reader.specs.declared.reader.Phase.{Phase}
use Rattle.plist_reader.specs.declared.reader.Phase.TheVariants.{Value, Item, ItemEnd, Key, KeyEnd}
use Rattle.plist_reader.specs.declared.reader.Phase.TheVariants.{PairEnd, End}
use Rattle.plist_reader.specs.declared.reader.Token.{Token}
use Rattle.plist_reader.specs.declared.reader.Token.TheVariants.{Between, Word, Quoted, Escape}
use Rattle.plist_reader.specs.declared.reader.Token.TheVariants.{Bytes, Half}
use Rattle.plist_reader.specs.declared.reader.Open.{Open}
use Rattle.plist_reader.specs.declared.reader.Open.TheVariants.{Items, Pairs}
use Rattle.plist_reader.specs.declared.escape.Escape.{Escape as EscapeState}
use Rattle.plist_reader.specs.Characters.{is_space, is_word, hex_value}
use Rattle.plist_reader.specs.Keys.{is_among}
use Rattle.plist_reader.specs.Grammar.{node, width}
use Rattle.plist_reader.specs.Reading.{text_ended, step, whole, finish, run}
use Rattle.plist_reader.proofs.RunLemmas.{run_step}
use Rattle.plist_reader.proofs.GivenTokens.{ready, in_token, settled, settled-between, step-space}
use Rattle.plist_reader.proofs.GivenTokens.{step-word, CanBegin, IsAwaiting}
use Rattle.plist_reader.proofs.GivenEscapes.{run-escape}
use Rattle.plist_reader.proofs.GivenStrings.{step-plain, step-angle_begun, step-angle_end}
use Rattle.plist_reader.proofs.GivenStrings.{step-second_digit, step-word_end, step-quote_end}
use Rattle.plist_reader.proofs.GivenStrings.{text-ended}
use Rattle.plist_reader.proofs.GivenTexts.{step-list_end, step-dictionary_end, step-equals}
use Rattle.plist_reader.proofs.GivenTexts.{step-semicolon, finish-end, key_end, key-ended}
use Rattle.plist_reader.proofs.SpelledEscapes.{Front}
use Rattle.plist_reader.proofs.SpelledSteps.{Agrees, GoodIn, Good}
use Rattle.plist_reader.proofs.CanGoOnEscapes.{Finishes, finishes, finished-escape}
use Rattle.plist_reader.proofs.Scalars.{AreScalars, all-append, all-parts, escape-scalars}

-- characters with which a reader comes to a tree
pub record Completes (r : Reader) (place : ℕ) : Type 0 where
  pub rest : List ℕ
  pub scalars : AreScalars rest
  pub tree : Tree
  pub runs : run r place rest ≡ Ok tree

completes-step : (r s : Reader) (place c : ℕ) → IsScalar c → step r place c ≡ Ok s
    → Completes s (place + len_utf8 c) → Completes r place
completes-step r s place c i e h = record {
  rest = c ∷ h.rest;
  scalars = (i, h.scalars);
  tree = h.tree;
  runs
      = run_step r s place c h.rest e ∙ h.runs;
}

-- ---- brackets are closed

-- characters with which the brackets around a value close; the tree has more values behind these
pub record Extends (r : Reader) (place : ℕ) (nodes : List TreeNode) : Type 0 where
  pub whole : Completes r place
  pub more : List TreeNode
  pub grows : whole.tree.nodes ≡ nodes ++ more

extends-step : (r s : Reader) (place c : ℕ) (nodes : List TreeNode) (n : TreeNode) → IsScalar c
    → step r place c ≡ Ok s → Extends s (place + len_utf8 c) (nodes ++ n ∷ [])
    → Extends r place nodes
unfolding completes-step
extends-step r s place c nodes n i e h = record {
  whole = completes-step r s place c i e h.whole;
  more = n ∷ h.more;
  grows = h.grows
      ∙ append_assoc nodes (n ∷ []) h.more;
}

extends-same : (r s : Reader) (place c : ℕ) (nodes : List TreeNode) → IsScalar c
    → step r place c ≡ Ok s → Extends s (place + len_utf8 c) nodes → Extends r place nodes
unfolding completes-step
extends-same r s place c nodes i e h = record
    { whole = completes-step r s place c i e h.whole; more = h.more; grows = h.grows }

pub extends-settled : (brackets : List Open) (nodes : List TreeNode) (number place : ℕ)
    → Extends (settled nodes brackets number) place nodes
extends-settled [] nodes number place = record {
  whole = record {
    rest = [];
    scalars = tt;
    tree = record { nodes = nodes; top = number };
    runs
        = finish-end nodes number place;
  };
  more = [];
  grows = sym (append-nil nodes);
}
extends-settled (Items at done ∷ outer) nodes number place =
    let all = done ++ number ∷ [] in
    let n = node at (place + 1) (tree.Items all) in
    extends-step _ _ place 41 nodes n refl (step-list_end nodes at place all outer)
    (extends-settled outer (nodes ++ n ∷ []) (length nodes) (place + 1))
extends-settled (Pairs d ∷ outer) nodes number place =
    let all : Dictionary = record d { pairs = d.pairs ++ (d.key, number) ∷ [] } in
    let n = node d.place (place + 1 + 1) (tree.Pairs all.pairs) in
    extends-same _ _ place 59 nodes refl (step-semicolon nodes (Pairs all ∷ outer) place)
    (extends-step _ _ (place + 1) 125 nodes n refl (step-dictionary_end nodes (place + 1) all outer)
    (extends-settled outer (nodes ++ n ∷ []) (length nodes) (place + 1 + 1)))

completes-settled : (brackets : List Open) (nodes : List TreeNode) (number place : ℕ)
    → Completes (settled nodes brackets number) place
completes-settled brackets nodes number place = (extends-settled brackets nodes number place).whole

-- ---- byte strings

completes-bytes : (nodes : List TreeNode) (brackets : List Open) (phase : Phase) (at place : ℕ)
    (bytes : List ℕ) → Completes (in_token nodes brackets phase (Bytes at) [] bytes) place
completes-bytes nodes brackets phase at place bytes =
    completes-step _ _ place 62 refl (step-angle_end nodes brackets phase at place bytes)
    (completes-settled brackets (nodes ++ node at (place + 1) (tree.Bytes bytes) ∷ [])
    (length nodes) (place + 1))

zero_digit : hex_value 48 ≡ Some 0
unfolding hex_value
zero_digit = refl

completes-half : (nodes : List TreeNode) (brackets : List Open) (phase : Phase)
    (at high x place : ℕ) (bytes : List ℕ) → hex_value high ≡ Some x
    → Completes (in_token nodes brackets phase (Half at high) [] bytes) place
completes-half nodes brackets phase at high x place bytes h =
    completes-step _ _ place 48 refl (step-second_digit nodes brackets phase at high place 48 x 0
    bytes h zero_digit) (completes-bytes nodes brackets phase at (place + 1) _)

-- ---- values and signs

completes-value : (nodes : List TreeNode) (brackets : List Open) (phase : Phase) (place : ℕ)
    → IsAwaiting phase → Completes (ready nodes brackets phase) place
completes-value nodes brackets phase place a
    = completes-step _ _ place 60 refl (step-angle_begun nodes brackets phase place a)
    (completes-bytes nodes brackets phase place (place + 1) [])

completes-sign : (nodes : List TreeNode) (brackets : List Open) (place : ℕ)
    → Completes (ready nodes brackets KeyEnd) place
completes-sign nodes brackets place = completes-step _ _ place 61 refl
    (step-equals nodes brackets place) (completes-value nodes brackets Value (place + 1) tt)

pub finish_whole : (nodes : List TreeNode) (brackets : List Open) (n place : ℕ)
    → finish (ready nodes brackets (End n)) place ≡ Ok (record { nodes = nodes; top = n })
unfolding finish whole
finish_whole nodes brackets n place = refl

completes-ready : (nodes : List TreeNode) (brackets : List Open) (phase : Phase) (place : ℕ)
    → Agrees phase brackets → Completes (ready nodes brackets phase) place
completes-ready nodes brackets Value place g = completes-value nodes brackets Value place tt
completes-ready nodes brackets Item place g = completes-value nodes brackets Item place tt
completes-ready nodes [] ItemEnd place g = absurd g
completes-ready nodes (Pairs d ∷ outer) ItemEnd place g = absurd g
completes-ready nodes (Items at done ∷ outer) ItemEnd place g =
    completes-step _ _ place 41 refl (step-list_end nodes at place done outer)
    (completes-settled outer (nodes ++ node at (place + 1) (tree.Items done) ∷ [])
    (length nodes) (place + 1))
completes-ready nodes [] Key place g = absurd g
completes-ready nodes (Items at done ∷ outer) Key place g = absurd g
completes-ready nodes (Pairs d ∷ outer) Key place g =
    completes-step _ _ place 125 refl (step-dictionary_end nodes place d outer)
    (completes-settled outer (nodes ++ node d.place (place + 1) (tree.Pairs d.pairs) ∷ [])
    (length nodes) (place + 1))
completes-ready nodes brackets KeyEnd place g = completes-sign nodes brackets place
completes-ready nodes [] PairEnd place g = absurd g
completes-ready nodes (Items at done ∷ outer) PairEnd place g = absurd g
completes-ready nodes (Pairs d ∷ outer) PairEnd place g =
    completes-step _ _ place 59 refl (step-semicolon nodes (Pairs d ∷ outer) place)
    (completes-step _ _ (place + 1) 125 refl (step-dictionary_end nodes (place + 1) d outer)
    (completes-settled outer (nodes ++ node d.place (place + 1 + 1) (tree.Pairs d.pairs) ∷ [])
    (length nodes) (place + 1 + 1)))
completes-ready nodes brackets (End n) place g
    = record {
      rest = [];
      scalars = tt;
      tree = record { nodes = nodes; top = n };
      runs
          = finish_whole nodes brackets n place;
    }

-- ---- a key that is longer than all others

-- how long the keys are together
abbrev reach : List (List ℕ) → ℕ
reach [] = 0
reach (k ∷ ks) = length k + reach ks

longer-apart : (text key : List ℕ) → length key < length text → pointwise nat_eq text key ≡ false
longer-apart [] key h = absurd (omega (arith, h))
longer-apart (x ∷ text) [] h = refl
longer-apart (x ∷ text) (y ∷ key) h = at_head (nat_eq x y)
    (longer-apart text key (omega (arith, h)))
  where
    at_head : (b : Bool) → pointwise nat_eq text key ≡ false
        → (b && pointwise nat_eq text key) ≡ false
    at_head true e = e
    at_head false e = refl

longer-new : (text : List ℕ) (keys : List (List ℕ)) → reach keys < length text
    → is_among text keys ≡ false
longer-new text [] h = refl
longer-new text (k ∷ ks) h = neither (pointwise nat_eq text k) (is_among text ks)
    (longer-apart text k (omega (arith, h))) (longer-new text ks (omega (arith, h)))
  where
    neither : (a b : Bool) → a ≡ false → b ≡ false → (a || b) ≡ false
    neither a b e f = rw (e, f) refl

-- ---- words

plain_letter : (is_word 97 ≡ true) × (is_word 32 ≡ false) × (is_space 32 ≡ true)
unfolding is_word is_space
plain_letter = (refl, refl, refl)

completes-key_end : (nodes : List TreeNode) (d : Dictionary) (outer : List Open) (at end place : ℕ)
    (text : List ℕ) → Completes (key_end nodes d outer at end text) place
completes-key_end nodes d outer at end place text
    = completes-sign (nodes ++ node at end (tree.Text text) ∷ [])
    (Pairs (record d { keys = d.keys ++ text ∷ []; key = length nodes }) ∷ outer) place

-- a word ends at a space
step-word_space : (r s : Reader) (at place : ℕ) → r.token ≡ Word at → text_ended r at place ≡ Ok s
    → s.token ≡ Between → step r place 32 ≡ Ok s
step-word_space r s at place e h k = step-word_end r s at place 32 e plain_letter.1 h k
    ∙ step-space s place 32 k plain_letter.2

completes-word : (nodes : List TreeNode) (brackets : List Open) (phase : Phase) (at place : ℕ)
    (text : List ℕ) → IsAwaiting phase → Completes (in_token nodes brackets phase (Word at) text [])
    place
completes-word nodes brackets phase at place text a =
    let made = nodes ++ node at place (tree.Text text) ∷ [] in
    completes-step _ _ place 32 refl
    (step-word_space (in_token nodes brackets phase (Word at) text [])
    (settled made brackets (length nodes)) at place refl
    (text-ended nodes brackets phase (Word at) at place text a)
    (settled-between made brackets (length nodes)))
    (completes-settled brackets made (length nodes) (place + 1))

-- characters that finish a key so that its dictionary has no such key yet
pub record KeyWay (nodes : List TreeNode) (d : Dictionary) (outer : List Open) (at : ℕ) (r : Reader)
    (place : ℕ) : Type 0 where
  pub characters : List ℕ
  pub scalars : AreScalars characters
  pub end : ℕ
  pub key : List ℕ
  pub next : ℕ
  pub leads : (more : List ℕ) → run r place (characters ++ more)
      ≡ run (key_end nodes d outer at end key) next more

way-step : (nodes : List TreeNode) (d : Dictionary) (outer : List Open) (at : ℕ) (r s : Reader)
    (place c : ℕ) → IsScalar c → step r place c ≡ Ok s
    → KeyWay nodes d outer at s (place + len_utf8 c) → KeyWay nodes d outer at r place
way-step nodes d outer at r s place c i e w
    = record {
      characters = c ∷ w.characters;
      scalars = (i, w.scalars);
      end = w.end;
      key
          = w.key;
      next = w.next;
      leads = λ more. run_step r s place c (w.characters ++ more) e
          ∙ w.leads more;
    }

way-end : (nodes : List TreeNode) (d : Dictionary) (outer : List Open) (at end : ℕ) (key : List ℕ)
    (r : Reader) (place c : ℕ) → IsScalar c
    → step r place c ≡ Ok (key_end nodes d outer at end key) → KeyWay nodes d outer at r place
way-end nodes d outer at end key r place c i e
    = record {
      characters = c ∷ [];
      scalars = (i, tt);
      end = end;
      key = key;
      next = place
          + len_utf8 c;
      leads = λ more. run_step r (key_end nodes d outer at end key) place c more e;
    }

way-word : (n : ℕ) (nodes : List TreeNode) (d : Dictionary) (outer : List Open) (at place : ℕ)
    (text : List ℕ) → reach d.keys < length text + n
    → KeyWay nodes d outer at (in_token nodes (Pairs d ∷ outer) Key (Word at) text []) place
way-word zero nodes d outer at place text h = way-end nodes d outer at place text _ place 32 refl
    (step-word_space (in_token nodes (Pairs d ∷ outer) Key (Word at) text [])
    (key_end nodes d outer at place text) at place refl
    (key-ended nodes d outer (Word at) at place text
    (longer-new text d.keys (omega (arith, h)))) refl)
way-word (suc n) nodes d outer at place text h
    = way-step nodes d outer at _ _ place 97 refl
    (step-word nodes (Pairs d ∷ outer) Key at place 97 text plain_letter.0)
    (way-word n nodes d outer at (place + 1) (text ++ 97 ∷ [])
    (omega (arith, h, length_push text 97)))

pub way-any_word : (nodes : List TreeNode) (d : Dictionary) (outer : List Open) (at place : ℕ)
    (text : List ℕ) → KeyWay nodes d outer at
    (in_token nodes (Pairs d ∷ outer) Key (Word at) text []) place
way-any_word nodes d outer at place text
    = way-word (suc (reach d.keys)) nodes d outer at place text (omega arith)

completes-way : (nodes : List TreeNode) (d : Dictionary) (outer : List Open) (at : ℕ) (r : Reader)
    (place : ℕ) → KeyWay nodes d outer at r place → Completes r place
completes-way nodes d outer at r place w =
    let h = completes-key_end nodes d outer at w.end w.next w.key in
    record {
      rest = w.characters ++ h.rest;
      scalars
          = all-append IsScalar w.characters h.rest w.scalars h.scalars;
      tree = h.tree;
      runs
          = w.leads h.rest ∙ h.runs;
    }

-- ---- quoted strings

completes-string : (nodes : List TreeNode) (brackets : List Open) (phase : Phase) (at place : ℕ)
    (text : List ℕ) → IsAwaiting phase
    → Completes (in_token nodes brackets phase (Quoted at) text []) place
completes-string nodes brackets phase at place text a =
    let made = nodes ++ node at (place + 1) (tree.Text text) ∷ [] in
    completes-step _ _ place 34 refl (step-quote_end nodes brackets phase at place text
    ∙ text-ended nodes brackets phase (Quoted at) at (place + 1) text a)
    (completes-settled brackets made (length nodes) (place + 1))

letter_no_mark : (¬ (◌≡◌ {A = ℕ} 97 34)) × (¬ (◌≡◌ {A = ℕ} 97 92))
letter_no_mark = (eqb-false 97 34 refl, eqb-false 97 92 refl)

way-string : (n : ℕ) (nodes : List TreeNode) (d : Dictionary) (outer : List Open) (at place : ℕ)
    (text : List ℕ) → reach d.keys < length text + n
    → KeyWay nodes d outer at (in_token nodes (Pairs d ∷ outer) Key (Quoted at) text []) place
way-string zero nodes d outer at place text h
    = way-end nodes d outer at (place + 1) text _ place 34 refl
    (step-quote_end nodes (Pairs d ∷ outer) Key at place text
    ∙ key-ended nodes d outer (Quoted at) at (place + 1) text
    (longer-new text d.keys (omega (arith, h))))
way-string (suc n) nodes d outer at place text h
    = way-step nodes d outer at _ _ place 97 refl
    (step-plain nodes (Pairs d ∷ outer) Key at place 97 text letter_no_mark.0 letter_no_mark.1)
    (way-string n nodes d outer at (place + 1) (text ++ encode 97)
    (omega (arith, h, length-append text (encode 97), one_byte)))
  where
    one_byte : length (encode 97) ≡ 1
    one_byte = length-encode 97

pub way-any_string : (nodes : List TreeNode) (d : Dictionary) (outer : List Open) (at place : ℕ)
    (text : List ℕ)
    → KeyWay nodes d outer at (in_token nodes (Pairs d ∷ outer) Key (Quoted at) text []) place
way-any_string nodes d outer at place text
    = way-string (suc (reach d.keys)) nodes d outer at place text (omega arith)

-- ---- texts

completes-any_word : (nodes : List TreeNode) (brackets : List Open) (phase : Phase) (at place : ℕ)
    (text : List ℕ) → CanBegin phase → Agrees phase brackets
    → Completes (in_token nodes brackets phase (Word at) text []) place
completes-any_word nodes brackets Value at place text b g
    = completes-word nodes brackets Value at place text tt
completes-any_word nodes brackets Item at place text b g
    = completes-word nodes brackets Item at place text tt
completes-any_word nodes [] Key at place text b g = absurd g
completes-any_word nodes (Items p done ∷ outer) Key at place text b g = absurd g
completes-any_word nodes (Pairs d ∷ outer) Key at place text b g
    = completes-way nodes d outer at _ place (way-any_word nodes d outer at place text)
completes-any_word nodes brackets ItemEnd at place text b g = absurd b
completes-any_word nodes brackets KeyEnd at place text b g = absurd b
completes-any_word nodes brackets PairEnd at place text b g = absurd b
completes-any_word nodes brackets (End n) at place text b g = absurd b

completes-any_string : (nodes : List TreeNode) (brackets : List Open) (phase : Phase) (at place : ℕ)
    (text : List ℕ) → CanBegin phase → Agrees phase brackets
    → Completes (in_token nodes brackets phase (Quoted at) text []) place
completes-any_string nodes brackets Value at place text b g
    = completes-string nodes brackets Value at place text tt
completes-any_string nodes brackets Item at place text b g
    = completes-string nodes brackets Item at place text tt
completes-any_string nodes [] Key at place text b g = absurd g
completes-any_string nodes (Items p done ∷ outer) Key at place text b g = absurd g
completes-any_string nodes (Pairs d ∷ outer) Key at place text b g
    = completes-way nodes d outer at _ place (way-any_string nodes d outer at place text)
completes-any_string nodes brackets ItemEnd at place text b g = absurd b
completes-any_string nodes brackets KeyEnd at place text b g = absurd b
completes-any_string nodes brackets PairEnd at place text b g = absurd b
completes-any_string nodes brackets (End n) at place text b g = absurd b

completes-escape : (nodes : List TreeNode) (brackets : List Open) (phase : Phase)
    (at backslash place : ℕ) (escape : EscapeState) (text : List ℕ) → CanBegin phase
    → Agrees phase brackets → (f : Finishes escape) → AreScalars f.0
    → Completes (in_token nodes brackets phase (Escape at backslash escape) text []) place
completes-escape nodes brackets phase at backslash place escape text b g f i =
    let h = completes-any_string nodes brackets phase at (place + width f.0) (text ++ encode f.1) b
    g in
    record {
      rest = f.0 ++ h.rest;
      scalars = all-append IsScalar f.0 h.rest i h.scalars;
      tree
          = h.tree;
      runs = run-escape f.0 nodes brackets phase at backslash place escape f.1 text
          h.rest f.2 ∙ h.runs;
    }

-- ---- any state

-- what is read of an escape begins one, and what is read of a byte is a digit
abbrev pub IsLively : Token → Type 0
IsLively Between = Unit {0}
IsLively (Word at) = Unit {0}
IsLively (Quoted at) = Unit {0}
IsLively (Escape at backslash escape) = (front : List ℕ) × Front escape front
IsLively (Bytes at) = Unit {0}
IsLively (Half at high) = (x : ℕ) × (hex_value high ≡ Some x)

completes-token : (nodes : List TreeNode) (brackets : List Open) (phase : Phase) (token : Token)
    (text bytes : List ℕ) (place : ℕ)
    → GoodIn token (in_token nodes brackets phase token text bytes) → IsLively token
    → Completes (in_token nodes brackets phase token text bytes) place
completes-token nodes brackets phase Between text bytes place g l =
    let P : List ℕ → List ℕ → Type 0 = λ x y. Completes (in_token nodes brackets phase Between x y)
    place in
    subst (λ (x : List ℕ). P x bytes) (sym g.1)
    (subst (λ (y : List ℕ). P [] y) (sym g.2) (completes-ready nodes brackets phase place g.0))
completes-token nodes brackets phase (Word at) text bytes place g l =
    let P : List ℕ → Type 0 = λ y. Completes (in_token nodes brackets phase (Word at) text y) place
    in
    subst P (sym g.2) (completes-any_word nodes brackets phase at place text g.1 g.0)
completes-token nodes brackets phase (Quoted at) text bytes place g l =
    let P : List ℕ → Type 0 = λ y. Completes (in_token nodes brackets phase (Quoted at) text y)
    place in
    subst P (sym g.2) (completes-any_string nodes brackets phase at place text g.1 g.0)
completes-token nodes brackets phase (Escape at backslash escape) text bytes place g l =
    let P : List ℕ → Type 0 = λ y. Completes
    (in_token nodes brackets phase (Escape at backslash escape) text y) place in
    let f = finishes escape l.0 l.1 in
    let i = escape-scalars (l.0 ++ f.0) f.1 (finished-escape escape l.0 f.0 f.1 l.1 f.2) in
    subst P (sym g.2) (completes-escape nodes brackets phase at backslash place escape text g.1 g.0
    f (all-parts IsScalar l.0 f.0 i).1)
completes-token nodes brackets phase (Bytes at) text bytes place g l =
    let P : List ℕ → Type 0 = λ x. Completes (in_token nodes brackets phase (Bytes at) x bytes)
    place in
    subst P (sym g.2) (completes-bytes nodes brackets phase at place bytes)
completes-token nodes brackets phase (Half at high) text bytes place g l =
    let P : List ℕ → Type 0 = λ x. Completes (in_token nodes brackets phase (Half at high) x bytes)
    place in
    subst P (sym g.2) (completes-half nodes brackets phase at high l.0 place bytes l.1)

pub completes : (r : Reader) (place : ℕ) → Good r → IsLively r.token → Completes r place
completes r place g l = completes-token r.nodes r.brackets r.phase r.token r.text r.bytes place g l
