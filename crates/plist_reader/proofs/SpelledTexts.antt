-- What is read is spelled by the grammar: steps in tokens, and whole texts.
use Rattle.std.proofs.Common.{◌≡◌, ℕ, ◌+◌, ◌*◌, Bool, true, false, cond, eqb, List, [], ◌∷◌, ◌++◌}
use Rattle.std.proofs.Common.{length, Option, Some, None, Result, Ok, Err, refl, sym, ap, subst}
use Rattle.std.proofs.Common.{◌∙◌, arith, append_assoc, IfOk}
use Rattle.std.specs.Prelude.{option_and_then}
use Rattle.std.proofs.lemmas.Bool.{eqb-false}
use Rattle.std.proofs.lemmas.List.{append-nil}
use Rattle.std.proofs.lemmas.Result.{IfOk-weaker}
use Rattle.std.proofs.lemmas.Str.{encode_ascii, IsUtf8-from_is_utf8}
use Rattle.std.specs.Char.{IsScalar, len_utf8}
use Rattle.std.specs.Str.{is_utf8, chars}
use Rattle.std.specs.Str.Lossy.{utf8_valid_len}
use lib.Utf8.{encode}
use Rattle.refusal_codes.specs.declared.refusal.Refusal.{Refusal}
use Rattle.refusal_codes.specs.declared.rule.Rule.TheVariants.{NotUtf8}
use Rattle.plist_reader.specs.declared.tree.Tree.{Tree}
use Rattle.plist_reader.specs.declared.tree.TreeNode.{TreeNode}
use Rattle.plist_reader.specs.declared.tree.TreeValue.TheVariants as tree
use Rattle.plist_reader.specs.declared.reader.Reader.{Reader}
use Rattle.plist_reader.specs.declared.reader.Phase.{Phase}
use Rattle.plist_reader.specs.declared.reader.Phase.TheVariants.{Value, Item, ItemEnd, Key, KeyEnd}
use Rattle.plist_reader.specs.declared.reader.Phase.TheVariants.{PairEnd, End}
use Rattle.plist_reader.specs.declared.reader.Token.{Token}
use Rattle.plist_reader.specs.declared.reader.Token.TheVariants.{Between, Word, Quoted, Escape}
use Rattle.plist_reader.specs.declared.reader.Token.TheVariants.{Bytes, Half}
use Rattle.plist_reader.specs.declared.reader.Open.{Open}
use Rattle.plist_reader.specs.declared.reader.Open.TheVariants.{Items, Pairs}
use Rattle.plist_reader.specs.declared.escape.Escape.{Escape as EscapeState}
use Rattle.plist_reader.specs.declared.escape.Escape.TheVariants.{Begun}
use Rattle.plist_reader.specs.declared.escape.Escaped.{Escaped}
use Rattle.plist_reader.specs.declared.escape.Escaped.TheVariants.{More, Whole, Wrong}
use Rattle.plist_reader.specs.Characters.{is_space, is_word, hex_value, byte_of}
use Rattle.plist_reader.specs.Escapes.{escape_next}
use Rattle.plist_reader.specs.Keys.{is_among}
use Rattle.plist_reader.specs.Grammar as grammar
use Rattle.plist_reader.specs.Grammar.{Spells, inner_of, own_of, node, width, AreSpaces, IsQuoted}
use Rattle.plist_reader.specs.Grammar.{no_more, plain, escaped, IsHex, no_digits, space, digits}
use Rattle.plist_reader.specs.Grammar.{IsEscape, IsTextOf, HasTree, tree_of}
use Rattle.plist_reader.specs.Refusals.{refusal}
use Rattle.refusal_codes.specs.Gives.{◌>>=◌}
use Rattle.plist_reader.specs.Reading.{start, value_ended, key_ended, text_ended, between, in_word}
use Rattle.plist_reader.specs.Reading.{in_quoted, after_escape, after_hex, after_half, in_bytes}
use Rattle.plist_reader.specs.Reading.{in_half, step_in, step, whole_in, whole, finish_in, finish}
use Rattle.plist_reader.specs.Reading.{run, read_of}
use Rattle.plist_reader.proofs.GivenTokens.{ready, in_token, settled, settled_any, settled-between}
use Rattle.plist_reader.proofs.GivenTokens.{width-append, word-ascii, CanBegin, IsAwaiting}
use Rattle.plist_reader.proofs.GivenStrings.{text-ended}
use Rattle.plist_reader.proofs.Scalars.{AreScalars, source-scalars}
use Rattle.plist_reader.proofs.SpelledEscapes.{Front, begun, Means, means-next}
use Rattle.plist_reader.proofs.SpelledRests.{After}
use Rattle.plist_reader.proofs.SpelledSteps.{RestIn, RestOf, AfterText, InWord, InQuoted}
use Rattle.plist_reader.proofs.SpelledSteps.{EscapeRest, Rest, Agrees, GoodIn, Good, Back}
use Rattle.plist_reader.proofs.SpelledSteps.{if_ok-known, settled-good, settled-rest}
use Rattle.plist_reader.proofs.SpelledRuns.{after_text_same, at_char, back-between}

-- ---- readers between tokens

ready_is : (r : Reader) → r.token ≡ Between → r.text ≡ [] → r.bytes ≡ []
    → ready r.nodes r.brackets r.phase ≡ r
ready_is r e f g =
    ap (λ x. in_token r.nodes r.brackets r.phase x [] []) (sym e)
    ∙ ap (λ x. in_token r.nodes r.brackets r.phase r.token x []) (sym f)
    ∙ ap (λ x. in_token r.nodes r.brackets r.phase r.token r.text x) (sym g)

back-between_any : (r : Reader) (place c : ℕ) → Good r → r.token ≡ Between
    → IfOk (between r place c) (Back r place c)
back-between_any r place c g e =
    let G : Token → Type 0 = λ x. GoodIn x r in
    let h : GoodIn Between r = subst G e g in
    let P : Reader → Type 0 = λ x. IfOk (between x place c) (Back x place c) in
    subst P (ready_is r e h.1 h.2) (back-between r.nodes r.brackets r.phase place c h.0)

if_ok-bind : {A B : Type 0} (P : A → Type 0) (Q : B → Type 0) (d : Result A Refusal)
    (f : A → Result B Refusal) → IfOk d P → ((x : A) → P x → IfOk (f x) Q) → IfOk (d >>= f) Q
if_ok-bind P Q (Ok x) f h k = k x h
if_ok-bind P Q (Err e) f h k = tt

-- ---- texts that end

-- what the end of a text leaves
abbrev pub EndsText : List TreeNode → List Open → Phase → ℕ → ℕ → List ℕ → Reader → Type 0
EndsText nodes brackets phase at end text s = Good s × (s.token ≡ Between)
    × ((t : Tree) (cs : List ℕ) → Rest s t end cs → AfterText phase brackets t nodes at text end cs)

ends_value : (nodes : List TreeNode) (brackets : List Open) (at end : ℕ) (text : List ℕ)
    → Good (settled (nodes ++ node at end (tree.Text text) ∷ []) brackets (length nodes))
    × ((settled (nodes ++ node at end (tree.Text text) ∷ []) brackets (length nodes)).token
    ≡ Between) × ((t : Tree) (cs : List ℕ)
    → Rest (settled (nodes ++ node at end (tree.Text text) ∷ []) brackets (length nodes)) t end
    cs → After brackets t (nodes ++ node at end (tree.Text text) ∷ []) (length nodes) end cs)
ends_value nodes brackets at end text =
    let made = nodes ++ node at end (tree.Text text) ∷ [] in (
      settled-good made brackets (length nodes),
      settled-between made brackets (length nodes),
      λ t cs
          h. settled-rest made brackets (length nodes) t end cs h,
    )

back-key_ended : (nodes : List TreeNode) (brackets : List Open) (token : Token) (at end : ℕ)
    (text : List ℕ) → Agrees Key brackets
    → IfOk (text_ended (in_token nodes brackets Key token text []) at end)
    (EndsText nodes brackets Key at end text)
unfolding text_ended key_ended
back-key_ended nodes [] token at end text g = tt
back-key_ended nodes (Items p done ∷ outer) token at end text g = tt
back-key_ended nodes (Pairs d ∷ outer) token at end text g =
    if_ok-known (EndsText nodes (Pairs d ∷ outer) Key at end text) (is_among text d.keys) _ _
    (λ _. tt) (λ e. ((tt, refl, refl), refl, λ t cs h. (e, h)))

pub back-text_ended : (nodes : List TreeNode) (brackets : List Open) (phase : Phase) (token : Token)
    (at end : ℕ) (text : List ℕ) → CanBegin phase → Agrees phase brackets
    → IfOk (text_ended (in_token nodes brackets phase token text []) at end)
    (EndsText nodes brackets phase at end text)
back-text_ended nodes brackets Value token at end text b g =
    let P : Result Reader Refusal → Type 0 = λ d. IfOk d (EndsText nodes brackets Value at end text)
    in
    subst P (sym (text-ended nodes brackets Value token at end text tt))
    (ends_value nodes brackets at end text)
back-text_ended nodes brackets Item token at end text b g =
    let P : Result Reader Refusal → Type 0 = λ d. IfOk d (EndsText nodes brackets Item at end text)
    in
    subst P (sym (text-ended nodes brackets Item token at end text tt))
    (ends_value nodes brackets at end text)
back-text_ended nodes brackets Key token at end text b g
    = back-key_ended nodes brackets token at end text g
back-text_ended nodes brackets ItemEnd token at end text b g = elim b [ ]
back-text_ended nodes brackets KeyEnd token at end text b g = elim b [ ]
back-text_ended nodes brackets PairEnd token at end text b g = elim b [ ]
back-text_ended nodes brackets (End n) token at end text b g = elim b [ ]

-- ---- words

word_end : (nodes : List TreeNode) (brackets : List Open) (phase : Phase) (at place : ℕ)
    (text : List ℕ) (t : Tree) (cs : List ℕ)
    → AfterText phase brackets t nodes at text place cs
    → InWord phase brackets nodes text t at place cs
word_end nodes brackets phase at place text t cs h
    = record {
      more = [];
      rest = cs;
      parts = refl;
      own = tt;
      onward
          = after_text_same phase brackets t nodes at text (text ++ []) place (place + 0) cs
          (sym (append-nil text)) (omega arith) h;
    }

back-in_word : (nodes : List TreeNode) (brackets : List Open) (phase : Phase) (at place c : ℕ)
    (text : List ℕ) → CanBegin phase → Agrees phase brackets
    → IfOk (in_word (in_token nodes brackets phase (Word at) text []) at place c)
    (Back (in_token nodes brackets phase (Word at) text []) place c)
unfolding in_word
back-in_word nodes brackets phase at place c text b g =
    let r = in_token nodes brackets phase (Word at) text [] in
    if_ok-known (Back r place c) (is_word c) _ _
    (λ w. ((g, b, refl), λ t cs h. word_more w t cs h))
    (λ _. if_ok-bind (EndsText nodes brackets phase at place text) (Back r place c)
    (text_ended r at place) (λ s. between s place c)
    (back-text_ended nodes brackets phase (Word at) at place text b g)
    (λ s k. IfOk-weaker (between s place c) (Back s place c) (Back r place c)
    (λ u h. (
      h.0,
      λ t cs q. word_end nodes brackets phase at place text t (c ∷ cs)
          (k.2 t (c ∷ cs) (between_rest s place t (c ∷ cs) (h.1 t cs q))),
    ))
    (back-between_any s place c k.0 k.1)))
  where
    word_more : is_word c ≡ true → (t : Tree) (cs : List ℕ)
        → InWord phase brackets nodes (text ++ encode c) t at (place + len_utf8 c) cs
        → InWord phase brackets nodes text t at place (c ∷ cs)
    word_more w t cs h =
        let one : encode c ≡ c ∷ [] = encode_ascii c (word-ascii c w) in
        record {
          more = c ∷ h.more;
          rest = h.rest;
          parts = ap (λ x. c ∷ x) h.parts;
          own = (w, h.own);
          onward = after_text_same phase brackets t nodes at ((text ++ encode c) ++ h.more)
              (text ++ c ∷ h.more) (place + len_utf8 c + width h.more)
              (place + (len_utf8 c + width h.more)) h.rest
              (append_assoc text (encode c) h.more ∙ ap (λ x. text ++ (x ++ h.more)) one)
              (omega arith) h.onward;
        }

    between_rest : (s : Reader) (place : ℕ) (t : Tree) (cs : List ℕ) → Rest s t place cs
        → Rest s t place cs
    between_rest s place t cs h = h

-- ---- quoted strings

back-in_quoted : (nodes : List TreeNode) (brackets : List Open) (phase : Phase) (at place c : ℕ)
    (text : List ℕ) → IsScalar c → CanBegin phase → Agrees phase brackets
    → IfOk (in_quoted (in_token nodes brackets phase (Quoted at) text []) at place c)
    (Back (in_token nodes brackets phase (Quoted at) text []) place c)
unfolding in_quoted
back-in_quoted nodes brackets phase at place c text i b g =
    let r = in_token nodes brackets phase (Quoted at) text [] in
    if_ok-known (Back r place c) (eqb c 34) _ _
    (λ e. IfOk-weaker (text_ended r at (place + 1))
    (EndsText nodes brackets phase at (place + 1) text) (Back r place c)
    (λ s k. (k.0, at_char r s place c 34 e (λ t cs h. string_end t cs (k.2 t cs h))))
    (back-text_ended nodes brackets phase (Quoted at) at (place + 1) text b g))
    (λ n. if_ok-known (Back r place c) (eqb c 92) _ _
    (λ e. (
      (g, b, refl),
      at_char r (in_token nodes brackets phase (Escape at place Begun) text [])
          place c 92 e (λ t cs h. escape_begins t cs (h [] begun)),
    ))
    (λ m. ((g, b, refl), λ t cs h. plain_more n m t cs h)))
  where
    string_end : (t : Tree) (cs : List ℕ) → AfterText phase brackets t nodes at text (place + 1) cs
        → InQuoted phase brackets nodes text t at place (34 ∷ cs)
    string_end t cs h = record {
      more = [];
      bytes = [];
      rest = cs;
      parts = refl;
      quoted
          = no_more;
      onward = after_text_same phase brackets t nodes at text (text ++ []) (place + 1)
          (place + 0 + 1) cs (sym (append-nil text)) (omega arith) h;
    }

    escape_begins : (t : Tree) (cs : List ℕ)
        → EscapeRest phase brackets nodes text t at (place + 1) [] cs
        → InQuoted phase brackets nodes text t at place (92 ∷ cs)
    escape_begins t cs k =
        let q = k.onward in
        let all : cs ≡ k.escape ++ (q.more ++ 34 ∷ q.rest) = k.parts
        ∙ ap (λ x. k.escape ++ x) q.parts in
        let w : width cs ≡ width k.escape + width k.tail = ap width k.parts
        ∙ width-append k.escape k.tail in
        record {
          more = 92 ∷ (k.escape ++ q.more);
          bytes = encode k.character ++ q.bytes;
          rest = q.rest;
          parts = ap (λ x. 92 ∷ x) (all ∙ sym (append_assoc k.escape q.more (34 ∷ q.rest)));
          quoted = escaped k.character k.escape q.more q.bytes k.known q.quoted;
          onward = after_text_same phase brackets t nodes at
              ((text ++ encode k.character) ++ q.bytes) (text ++ (encode k.character ++ q.bytes))
              (k.behind + width q.more + 1) (place + (1 + width (k.escape ++ q.more)) + 1) q.rest
              (append_assoc text (encode k.character) q.bytes)
              (omega (arith, w, k.behind_is, width-append k.escape q.more)) q.onward;
        }

    plain_more : eqb c 34 ≡ false → eqb c 92 ≡ false → (t : Tree) (cs : List ℕ)
        → InQuoted phase brackets nodes (text ++ encode c) t at (place + len_utf8 c) cs
        → InQuoted phase brackets nodes text t at place (c ∷ cs)
    plain_more n m t cs h = record {
      more = c ∷ h.more;
      bytes = encode c ++ h.bytes;
      rest = h.rest;
      parts = ap (λ x. c ∷ x) h.parts;
      quoted = plain c h.more h.bytes i (eqb-false c 34 n) (eqb-false c 92 m) h.quoted;
      onward = after_text_same phase brackets t nodes at ((text ++ encode c) ++ h.bytes)
          (text ++ (encode c ++ h.bytes)) (place + len_utf8 c + width h.more + 1)
          (place + (len_utf8 c + width h.more) + 1) h.rest
          (append_assoc text (encode c) h.bytes) (omega arith) h.onward;
    }

back-after_escape : (nodes : List TreeNode) (brackets : List Open) (phase : Phase)
    (at backslash place c : ℕ) (escape : EscapeState) (text : List ℕ) (out : Escaped)
    → CanBegin phase → Agrees phase brackets
    → ((front : List ℕ) → Front escape front → Means (front ++ c ∷ []) out)
    → IfOk (after_escape (in_token nodes brackets phase (Escape at backslash escape) text []) at
    backslash out) (Back (in_token nodes brackets phase (Escape at backslash escape) text [])
    place c)
back-after_escape nodes brackets phase at backslash place c escape text (More next) b g m
    = ((g, b, refl), λ t cs h front f. goes_on t cs front (h (front ++ c ∷ []) (m front f)))
  where
    goes_on : (t : Tree) (cs front : List ℕ)
        → EscapeRest phase brackets nodes text t at (place + len_utf8 c) (front ++ c ∷ []) cs
        → EscapeRest phase brackets nodes text t at place front (c ∷ cs)
    goes_on t cs front k = record {
      escape = k.escape;
      character = k.character;
      tail
          = k.tail;
      behind = k.behind;
      parts = sym (append_assoc front (c ∷ []) cs)
          ∙ k.parts;
      known = k.known;
      behind_is = k.behind_is ∙ omega arith;
      onward = k.onward;
    }
back-after_escape nodes brackets phase at backslash place c escape text (Whole character) b g m = (
  (g, b, refl),
  λ t cs h front f. record {
    escape = front ++ c ∷ [];
    character = character;
    tail = cs;
    behind = place
        + len_utf8 c;
    parts = sym (append_assoc front (c ∷ []) cs);
    known = m front f;
    behind_is
        = omega arith;
    onward = h;
  },
)
back-after_escape nodes brackets phase at backslash place c escape text Wrong b g m = tt

-- ---- byte strings

after_bytes_same : (brackets : List Open) (t : Tree) (nodes : List TreeNode) (at : ℕ)
    (xs ys : List ℕ) (p q : ℕ) (rest : List ℕ) → xs ≡ ys → p ≡ q
    → After brackets t (nodes ++ node at p (tree.Bytes xs) ∷ []) (length nodes) p rest
    → After brackets t (nodes ++ node at q (tree.Bytes ys) ∷ []) (length nodes) q rest
after_bytes_same brackets t nodes at xs ys p q rest e f h =
    let A : List ℕ → Type 0 = λ x. After brackets t (nodes ++ node at p (tree.Bytes x) ∷ [])
    (length nodes) p rest in
    let B : ℕ → Type 0 = λ x. After brackets t (nodes ++ node at x (tree.Bytes ys) ∷ [])
    (length nodes) x rest in
    subst B f (subst A e h)

back-after_hex : (nodes : List TreeNode) (brackets : List Open) (phase : Phase) (at place c : ℕ)
    (bytes : List ℕ) (o : Option ℕ) → hex_value c ≡ o → IsAwaiting phase
    → Agrees phase brackets → IfOk (after_hex (in_token nodes brackets phase (Bytes at) [] bytes) at
    place c o) (Back (in_token nodes brackets phase (Bytes at) [] bytes) place c)
back-after_hex nodes brackets phase at place c bytes None e a g = tt
back-after_hex nodes brackets phase at place c bytes (Some v) e a g = (
  (g, a, refl),
  λ t cs h. (let w = width-append h.gap (h.digit ∷ h.more) in record {
    more = c ∷ (h.gap ++ h.digit ∷ h.more);
    made = (h.x * 16 + h.y) ∷ h.made;
    rest = h.rest;
    parts = ap (λ x. c ∷ x) (h.parts ∙ sym (append_assoc h.gap (h.digit ∷ h.more) (62 ∷ h.rest)));
    hex = digits c h.digit h.x h.y h.gap h.more h.made h.first h.spaces h.second h.hex;
    onward = after_bytes_same brackets t nodes at (bytes ++ (h.x * 16 + h.y) ∷ h.made)
        (bytes ++ (h.x * 16 + h.y) ∷ h.made)
        (place + len_utf8 c + width h.gap + len_utf8 h.digit + width h.more + 1)
        (place + (len_utf8 c + width (h.gap ++ h.digit ∷ h.more)) + 1) h.rest refl
        (omega (arith, w)) h.onward;
  }),
)

back-in_bytes : (nodes : List TreeNode) (brackets : List Open) (phase : Phase) (at place c : ℕ)
    (bytes : List ℕ) → IsAwaiting phase → Agrees phase brackets
    → IfOk (in_bytes (in_token nodes brackets phase (Bytes at) [] bytes) at place c)
    (Back (in_token nodes brackets phase (Bytes at) [] bytes) place c)
unfolding in_bytes value_ended
back-in_bytes nodes brackets phase at place c bytes a g =
    let r = in_token nodes brackets phase (Bytes at) [] bytes in
    let made = nodes ++ node at (place + 1) (tree.Bytes bytes) ∷ [] in
    let B : Reader → Type 0 = λ s. Back r place c s in
    if_ok-known (Back r place c) (is_space c) _ _
    (λ e. (
      (g, a, refl),
      λ t cs h. record {
        more = c ∷ h.more;
        made = h.made;
        rest = h.rest;
        parts = ap (λ x. c ∷ x) h.parts;
        hex = space c h.more h.made e h.hex;
        onward = after_bytes_same brackets t nodes at (bytes ++ h.made) (bytes ++ h.made)
            (place + len_utf8 c + width h.more + 1) (place + (len_utf8 c + width h.more) + 1) h.rest
            refl (omega arith) h.onward;
      },
    ))
    (λ _. if_ok-known (Back r place c) (eqb c 62) _ _
    (λ e. subst B (sym (settled_any made brackets brackets phase (length nodes))) (
      settled-good made brackets (length nodes),
      at_char r (settled made brackets (length nodes)) place c 62 e (λ t cs h. record {
        more = [];
        made = [];
        rest = cs;
        parts = refl;
        hex = no_digits;
        onward = after_bytes_same brackets t nodes at bytes (bytes ++ []) (place + 1)
            (place + 0 + 1) cs (sym (append-nil bytes)) (omega arith)
            (settled-rest made brackets (length nodes) t (place + 1) cs h);
      }),
    ))
    (λ _. back-after_hex nodes brackets phase at place c bytes (hex_value c) refl a g))

no_value : (v : ℕ) (o : Option ℕ) → o ≡ None → o ≡ Some v → ⊥
no_value v o e f = cc

some_same : (m n : ℕ) (o : Option ℕ) → o ≡ Some m → o ≡ Some n → m ≡ n
some_same m n o e f = cc

both_digits : (o p : Option ℕ) (v : ℕ) → option_and_then
    (λ a. option_and_then (λ b. Some (a * 16 + b)) p) o ≡ Some v
    → (x : ℕ) × (y : ℕ) × (o ≡ Some x) × (p ≡ Some y) × (x * 16 + y ≡ v)
both_digits None p v e = absurd (no_value v None refl e)
both_digits (Some x) None v e = absurd (no_value v None refl e)
both_digits (Some x) (Some y) v e = (
  x,
  y,
  refl,
  refl,
  some_same (x * 16 + y) v (Some (x * 16 + y))
      refl e,
)

back-after_half : (nodes : List TreeNode) (brackets : List Open) (phase : Phase)
    (at high place c : ℕ) (bytes : List ℕ) (o : Option ℕ) → byte_of high c ≡ o → IsAwaiting phase
    → Agrees phase brackets
    → IfOk (after_half (in_token nodes brackets phase (Half at high) [] bytes) at place c o)
    (Back (in_token nodes brackets phase (Half at high) [] bytes) place c)
unfolding byte_of
back-after_half nodes brackets phase at high place c bytes None e a g = tt
back-after_half nodes brackets phase at high place c bytes (Some v) e a g = (
  (g, a, refl),
  λ t cs h.
      (let d = both_digits (hex_value high) (hex_value c) v e in record {
        gap = [];
        digit = c;
        more = h.more;
        made = h.made;
        rest = h.rest;
        x = d.0;
        y = d.1;
        parts = ap (λ x. c ∷ x) h.parts;
        spaces = tt;
        first = d.2;
        second = d.3;
        hex = h.hex;
        onward = after_bytes_same brackets t nodes at ((bytes ++ v ∷ []) ++ h.made)
            (bytes ++ (d.0 * 16 + d.1) ∷ h.made) (place + len_utf8 c + width h.more + 1)
            (place + 0 + len_utf8 c + width h.more + 1) h.rest
            (append_assoc bytes (v ∷ []) h.made ∙ ap (λ x. bytes ++ x ∷ h.made) (sym d.4))
            (omega arith) h.onward;
      }),
)

back-in_half : (nodes : List TreeNode) (brackets : List Open) (phase : Phase) (at high place c : ℕ)
    (bytes : List ℕ) → IsAwaiting phase → Agrees phase brackets
    → IfOk (in_half (in_token nodes brackets phase (Half at high) [] bytes) at high place c)
    (Back (in_token nodes brackets phase (Half at high) [] bytes) place c)
unfolding in_half
back-in_half nodes brackets phase at high place c bytes a g =
    let r = in_token nodes brackets phase (Half at high) [] bytes in
    if_ok-known (Back r place c) (is_space c) _ _
    (λ e. (
      (g, a, refl),
      λ t cs h. record {
        gap = c ∷ h.gap;
        digit = h.digit;
        more = h.more;
        made = h.made;
        rest = h.rest;
        x = h.x;
        y = h.y;
        parts = ap (λ x. c ∷ x) h.parts;
        spaces = (e, h.spaces);
        first = h.first;
        second = h.second;
        hex = h.hex;
        onward = after_bytes_same brackets t nodes at (bytes ++ (h.x * 16 + h.y) ∷ h.made)
            (bytes ++ (h.x * 16 + h.y) ∷ h.made)
            (place + len_utf8 c + width h.gap + len_utf8 h.digit + width h.more + 1)
            (place + (len_utf8 c + width h.gap) + len_utf8 h.digit + width h.more + 1) h.rest refl
            (omega arith) h.onward;
      },
    ))
    (λ _. back-after_half nodes brackets phase at high place c bytes (byte_of high c) refl a g)

-- ---- any step

-- the text of a token that has none, and the bytes of one that has none
with_no_bytes : (nodes : List TreeNode) (brackets : List Open) (phase : Phase) (token : Token)
    (text bytes : List ℕ) (place c : ℕ) → bytes ≡ []
    → IfOk (step_in (in_token nodes brackets phase token text []) place c token)
    (Back (in_token nodes brackets phase token text []) place c)
    → IfOk (step_in (in_token nodes brackets phase token text bytes) place c token)
    (Back (in_token nodes brackets phase token text bytes) place c)
with_no_bytes nodes brackets phase token text bytes place c e h =
    let P : List ℕ → Type 0 = λ x. IfOk (step_in (in_token nodes brackets phase token text x) place
    c token) (Back (in_token nodes brackets phase token text x) place c) in subst P (sym e) h

with_no_text : (nodes : List TreeNode) (brackets : List Open) (phase : Phase) (token : Token)
    (text bytes : List ℕ) (place c : ℕ) → text ≡ []
    → IfOk (step_in (in_token nodes brackets phase token [] bytes) place c token)
    (Back (in_token nodes brackets phase token [] bytes) place c)
    → IfOk (step_in (in_token nodes brackets phase token text bytes) place c token)
    (Back (in_token nodes brackets phase token text bytes) place c)
with_no_text nodes brackets phase token text bytes place c e h =
    let P : List ℕ → Type 0 = λ x. IfOk (step_in (in_token nodes brackets phase token x bytes) place
    c token) (Back (in_token nodes brackets phase token x bytes) place c) in subst P (sym e) h

back-step_in : (nodes : List TreeNode) (brackets : List Open) (phase : Phase) (token : Token)
    (text bytes : List ℕ) (place c : ℕ) → IsScalar c
    → Good (in_token nodes brackets phase token text bytes)
    → IfOk (step_in (in_token nodes brackets phase token text bytes) place c token)
    (Back (in_token nodes brackets phase token text bytes) place c)
back-step_in nodes brackets phase Between text bytes place c i g
    = back-between_any (in_token nodes brackets phase Between text bytes) place c g refl
back-step_in nodes brackets phase (Word at) text bytes place c i g
    = with_no_bytes nodes brackets phase (Word at) text bytes place c g.2
    (back-in_word nodes brackets phase at place c text g.1 g.0)
back-step_in nodes brackets phase (Quoted at) text bytes place c i g =
    with_no_bytes nodes brackets phase (Quoted at) text bytes place c g.2
    (back-in_quoted nodes brackets phase at place c text i g.1 g.0)
back-step_in nodes brackets phase (Escape at backslash escape) text bytes place c i g
    = with_no_bytes nodes brackets phase (Escape at backslash escape) text bytes place c g.2
    (back-after_escape nodes brackets phase at backslash place c escape text (escape_next escape c)
    g.1 g.0 (λ front f. means-next escape front f c))
back-step_in nodes brackets phase (Bytes at) text bytes place c i g
    = with_no_text nodes brackets phase (Bytes at) text bytes place c g.2
    (back-in_bytes nodes brackets phase at place c bytes g.1 g.0)
back-step_in nodes brackets phase (Half at high) text bytes place c i g =
    with_no_text nodes brackets phase (Half at high) text bytes place c g.2
    (back-in_half nodes brackets phase at high place c bytes g.1 g.0)

pub back-step : (r : Reader) (place c : ℕ) → IsScalar c → Good r
    → IfOk (step r place c) (Back r place c)
unfolding step
back-step r place c i g = back-step_in r.nodes r.brackets r.phase r.token r.text r.bytes place c i g

-- ---- whole texts

whole_in-rest : (r : Reader) (place : ℕ) (phase : Phase) → r.phase ≡ phase
    → IfOk (whole_in r place phase) (λ t. RestIn phase r.brackets t r.nodes place [])
whole_in-rest r place (End n) e = (tt, refl)
whole_in-rest r place Value e = tt
whole_in-rest r place Item e = tt
whole_in-rest r place ItemEnd e = tt
whole_in-rest r place Key e = tt
whole_in-rest r place KeyEnd e = tt
whole_in-rest r place PairEnd e = tt

whole-rest : (r : Reader) (place : ℕ) → IfOk (whole r place)
    (λ t. RestIn r.phase r.brackets t r.nodes place [])
unfolding whole
whole-rest r place = whole_in-rest r place r.phase refl

whole_any-rest : (s : Reader) (place : ℕ) → s.token ≡ Between
    → IfOk (whole s place) (λ t. Rest s t place [])
whole_any-rest s place e =
    IfOk-weaker (whole s place) (λ t. RestIn s.phase s.brackets t s.nodes place [])
    (λ t. Rest s t place []) (λ t h. between_is s t place e h) (whole-rest s place)
  where
    between_is : (s : Reader) (t : Tree) (place : ℕ) → s.token ≡ Between
        → RestIn s.phase s.brackets t s.nodes place [] → Rest s t place []
    between_is s t place e h = let P : Token → Type 0 = λ x. RestOf x s t place []
        in subst P (sym e) h

finish_in-rest : (nodes : List TreeNode) (brackets : List Open) (phase : Phase) (token : Token)
    (text bytes : List ℕ) (place : ℕ)
    → Good (in_token nodes brackets phase token text bytes)
    → IfOk (finish_in (in_token nodes brackets phase token text bytes) place token)
    (λ t. Rest (in_token nodes brackets phase token text bytes) t place [])
finish_in-rest nodes brackets phase Between text bytes place g
    = whole-rest (in_token nodes brackets phase Between text bytes) place
finish_in-rest nodes brackets phase (Word at) text bytes place g =
    let P : List ℕ → Type 0 = λ x. IfOk (finish_in (in_token nodes brackets phase (Word at) text x)
    place (Word at)) (λ t. Rest (in_token nodes brackets phase (Word at) text x) t place []) in
    let r = in_token nodes brackets phase (Word at) text [] in
    subst P (sym g.2)
    (if_ok-known (λ t. Rest r t place []) (eqb (length brackets) 0) _ _
    (λ _. if_ok-bind (EndsText nodes brackets phase at place text) (λ t. Rest r t place [])
    (text_ended r at place) (λ s. whole s place)
    (back-text_ended nodes brackets phase (Word at) at place text g.1 g.0)
    (λ s k. IfOk-weaker (whole s place) (λ t. Rest s t place []) (λ t. Rest r t place [])
    (λ t h. word_end nodes brackets phase at place text t [] (k.2 t [] h))
    (whole_any-rest s place k.1)))
    (λ _. tt))
finish_in-rest nodes brackets phase (Quoted at) text bytes place g = tt
finish_in-rest nodes brackets phase (Escape at backslash escape) text bytes place g = tt
finish_in-rest nodes brackets phase (Bytes at) text bytes place g = tt
finish_in-rest nodes brackets phase (Half at high) text bytes place g = tt

finish-rest : (r : Reader) (place : ℕ) → Good r → IfOk (finish r place) (λ t. Rest r t place [])
unfolding finish
finish-rest r place g = finish_in-rest r.nodes r.brackets r.phase r.token r.text r.bytes place g

run-rest : (cs : List ℕ) (r : Reader) (place : ℕ) → AreScalars cs → Good r
    → IfOk (run r place cs) (λ t. Rest r t place cs)
run-rest [] r place i g = finish-rest r place g
run-rest (c ∷ cs) r place i g = if_ok-bind (Back r place c) (λ t. Rest r t place (c ∷ cs))
    (step r place c) (λ s. run s (place + len_utf8 c) cs) (back-step r place c i.0 g)
    (λ s b. IfOk-weaker (run s (place + len_utf8 c) cs) (λ t. Rest s t (place + len_utf8 c) cs)
    (λ t. Rest r t place (c ∷ cs)) (λ t h. b.1 t cs h)
    (run-rest cs s (place + len_utf8 c) i.1 b.0))

-- a text with a tree
abbrev pub Spelled : List ℕ → Tree → Type 0
Spelled cs t = (v : grammar.Value) × IsTextOf v cs × (t ≡ tree_of v)

from_zero : (v : grammar.Value) (gap text : List ℕ) → Spells v 0 (0 + width gap) text
    → Spells v 0 (width gap) text
from_zero v gap text h = let P : ℕ → Type 0 = λ x. Spells v 0 x text
    in let e : 0 + width gap ≡ width gap = omega arith in subst P e h

pub run-spelled : (cs : List ℕ) → AreScalars cs → IfOk (run start 0 cs) (Spelled cs)
unfolding start
run-spelled cs i = IfOk-weaker (run (ready [] [] Value) 0 cs) (λ t. Rest (ready [] [] Value) t 0 cs)
    (Spelled cs)
    (λ t h. (
      h.value,
      record {
        gap = h.gap;
        text = h.text;
        after = h.rest;
        parts
            = h.parts;
        gap_spaces = h.spaces;
        spelled
            = from_zero h.value h.gap h.text h.spelled;
        after_spaces = h.onward.0;
      },
      h.onward.1
          ∙ ap (λ n. record { nodes = inner_of h.value 0 ++ own_of h.value 0 ∷ []; top = n })
          (omega arith),
    ))
    (run-rest cs (ready [] [] Value) 0 i (tt, refl, refl))

read_of-spelled_if : (source : List ℕ) (b : Bool) → is_utf8 source ≡ b
    → IfOk (cond b (run start 0 (chars source)) (Err (refusal NotUtf8 (utf8_valid_len source))))
    (HasTree source)
read_of-spelled_if source true e =
    IfOk-weaker (run start 0 (chars source)) (Spelled (chars source)) (HasTree source)
    (λ t h. record {
      utf8 = IsUtf8-from_is_utf8 source e;
      value = h.0;
      spelled = h.1;
      numbered
          = h.2;
    }) (run-spelled (chars source) (source-scalars source (IsUtf8-from_is_utf8 source e)))
read_of-spelled_if source false e = tt

-- what a source gives is spelled so
pub read_of-spelled : (source : List ℕ) → IfOk (read_of source) (HasTree source)
unfolding read_of
read_of-spelled source = read_of-spelled_if source (is_utf8 source) refl
