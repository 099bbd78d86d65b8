-- What a reader knows of the characters that led to it: which token is open at their end, and what
-- stands in it.
use Rattle.std.proofs.Common.{◌≡◌, ℕ, ◌+◌, ◌<◌, true, List, [], ◌∷◌, ◌++◌, length, Some, refl, sym}
use Rattle.std.proofs.Common.{ap, subst, ◌∙◌, arith, append_assoc}
use Rattle.std.specs.Char.{IsScalar}
use Rattle.std.proofs.lemmas.List.{append-nil, length_push}
use Rattle.std.proofs.lemmas.Str.{len_utf8_bounds}
use lib.Utf8.{encode}
use Rattle.plist_reader.specs.declared.tree.TreeNode.{TreeNode}
use Rattle.plist_reader.specs.declared.tree.TreeValue.TheVariants as tree
use Rattle.plist_reader.specs.declared.reader.Reader.{Reader}
use Rattle.plist_reader.specs.declared.reader.Phase.{Phase}
use Rattle.plist_reader.specs.declared.reader.Token.{Token}
use Rattle.plist_reader.specs.declared.reader.Token.TheVariants.{Between, Word, Quoted, Escape}
use Rattle.plist_reader.specs.declared.reader.Token.TheVariants.{Bytes, Half}
use Rattle.plist_reader.specs.declared.reader.Open.{Open}
use Rattle.plist_reader.specs.declared.escape.Escape.{Escape as EscapeState}
use Rattle.plist_reader.specs.declared.escape.Escape.TheVariants.{Begun}
use Rattle.plist_reader.specs.declared.escape.Escaped.{Escaped}
use Rattle.plist_reader.specs.declared.escape.Escaped.TheVariants.{More, Whole}
use Rattle.plist_reader.specs.Characters.{is_word, hex_value}
use Rattle.plist_reader.specs.Escapes.{escape_next}
use Rattle.plist_reader.specs.Grammar.{node, width, IsWord, IsQuoted, no_more, plain, escaped}
use Rattle.plist_reader.specs.Grammar.{IsEscape}
use Rattle.plist_reader.proofs.GivenTokens.{settled, settled-between, width-append}
use Rattle.plist_reader.proofs.Scalars.{all-append}
use Rattle.plist_reader.proofs.SpelledEscapes.{Front, begun, Means, means-next}
use Rattle.plist_reader.proofs.Moves.{TextEnds, as_value, as_key, Moves, space_between}
use Rattle.plist_reader.proofs.Moves.{string_begins, word_begins, bytes_begin, list_begins}
use Rattle.plist_reader.proofs.Moves.{dictionary_begins, comma, equals, semicolon, list_ends}
use Rattle.plist_reader.proofs.Moves.{dictionary_ends, word_more, word_ends, string_more}
use Rattle.plist_reader.proofs.Moves.{string_ends, escape_begins, escape_more, escape_ends}
use Rattle.plist_reader.proofs.Moves.{space_in_bytes, first_digit, space_in_half, second_digit}
use Rattle.plist_reader.proofs.Moves.{bytes_end}
use Rattle.plist_reader.proofs.CanGoOn.{IsLively}

-- ---- tokens at the end of a front

pub record WordIn (front : List ℕ) (at : ℕ) (text : List ℕ) : Type 0 where
  pub before : List ℕ
  pub word : List ℕ
  pub parts : front ≡ before ++ word
  pub place : at ≡ width before
  pub own : IsWord word text

pub record StringIn (front : List ℕ) (at : ℕ) (text : List ℕ) : Type 0 where
  pub before : List ℕ
  pub inner : List ℕ
  pub parts : front ≡ before ++ 34 ∷ inner
  pub place : at ≡ width before
  pub quoted : IsQuoted inner text

pub record EscapeIn (front : List ℕ) (at backslash : ℕ) (escape : EscapeState) (text : List ℕ)
    : Type 0 where
  pub before : List ℕ
  pub inner : List ℕ
  pub first : List ℕ
  pub parts : front ≡ (before ++ 34 ∷ inner) ++ 92 ∷ first
  pub place : at ≡ width before
  pub back : backslash ≡ width (before ++ 34 ∷ inner)
  pub quoted : IsQuoted inner text
  pub fits : Front escape first

abbrev pub TokenIn : Token → List ℕ → List ℕ → Type 0
TokenIn Between front text = Unit {0}
TokenIn (Word at) front text = WordIn front at text
TokenIn (Quoted at) front text = StringIn front at text
TokenIn (Escape at backslash escape) front text = EscapeIn front at backslash escape text
TokenIn (Bytes at) front text = at < width front
TokenIn (Half at high) front text = (at < width front) × (x : ℕ) × (hex_value high ≡ Some x)

pub lively-in : (token : Token) (front text : List ℕ) → TokenIn token front text → IsLively token
lively-in Between front text h = tt
lively-in (Word at) front text h = tt
lively-in (Quoted at) front text h = tt
lively-in (Escape at backslash escape) front text h = (h.first, h.fits)
lively-in (Bytes at) front text h = tt
lively-in (Half at high) front text h = (h.1, h.2)

between-in : (s : Reader) (front : List ℕ) → s.token ≡ Between → TokenIn s.token front s.text
between-in s front e = let P : Token → Type 0 = λ x. TokenIn x front s.text in subst P (sym e) tt

settled-in : (nodes : List TreeNode) (brackets : List Open) (number : ℕ) (front : List ℕ)
    → TokenIn (settled nodes brackets number).token front (settled nodes brackets number).text
settled-in nodes brackets number front = between-in (settled nodes brackets number) front
    (settled-between nodes brackets number)

-- ---- one more character

quoted-append : (xs a ys b : List ℕ) → IsQuoted xs a → IsQuoted ys b → IsQuoted (xs ++ ys) (a ++ b)
quoted-append _ _ ys b no_more k = k
quoted-append _ _ ys b (plain c cs bytes i n m q) k =
    let P : List ℕ → Type 0 = λ x. IsQuoted ((c ∷ cs) ++ ys) x in
    subst P (sym (append_assoc (encode c) bytes b))
    (plain c (cs ++ ys) (bytes ++ b) i n m (quoted-append cs bytes ys b q k))
quoted-append _ _ ys b (escaped c escape cs bytes e q) k =
    let P : List ℕ → List ℕ → Type 0 = λ x y. IsQuoted (92 ∷ x) y in
    subst (λ (y : List ℕ). P ((escape ++ cs) ++ ys) y) (sym (append_assoc (encode c) bytes b))
    (subst (λ (x : List ℕ). P x (encode c ++ (bytes ++ b))) (sym (append_assoc escape cs ys))
    (escaped c escape (cs ++ ys) (bytes ++ b) e (quoted-append cs bytes ys b q k)))

one-plain : (c : ℕ) → IsScalar c → ¬ (c ≡ 34) → ¬ (c ≡ 92) → IsQuoted (c ∷ []) (encode c)
one-plain c i n m = let P : List ℕ → Type 0 = λ x. IsQuoted (c ∷ []) x
    in subst P (append-nil (encode c)) (plain c [] [] i n m no_more)

one-escaped : (c : ℕ) (escape : List ℕ) → IsEscape escape c → IsQuoted (92 ∷ escape) (encode c)
one-escaped c escape e =
    let P : List ℕ → List ℕ → Type 0 = λ x y. IsQuoted (92 ∷ x) y in
    subst (λ (y : List ℕ). P escape y) (append-nil (encode c))
    (subst (λ (x : List ℕ). P x (encode c ++ [])) (append-nil escape)
    (escaped c escape [] [] e no_more))

wider : (front : List ℕ) (c : ℕ) → width front < width (front ++ c ∷ [])
wider front c = omega (arith, width-append front (c ∷ []), len_utf8_bounds c)

still_wider : (front : List ℕ) (c at : ℕ) → at < width front → at < width (front ++ c ∷ [])
still_wider front c at h = omega (arith, h, width-append front (c ∷ []))

word_begun-in : (front : List ℕ) (place c : ℕ) → place ≡ width front → is_word c ≡ true
    → WordIn (front ++ c ∷ []) place (c ∷ [])
word_begun-in front place c e w = record {
  before = front;
  word = c ∷ [];
  parts = refl;
  place = e;
  own
      = record { some = omega arith; own = (w, tt); same = refl };
}

word_more-in : (front text : List ℕ) (at c : ℕ) → is_word c ≡ true → WordIn front at text
    → WordIn (front ++ c ∷ []) at (text ++ c ∷ [])
word_more-in front text at c w h = record {
  before = h.before;
  word = h.word ++ c ∷ [];
  parts = ap (λ x. x ++ c ∷ []) h.parts ∙ append_assoc h.before h.word (c ∷ []);
  place = h.place;
  own = record {
    some = omega (arith, length_push h.word c);
    own
        = all-append (λ x. is_word x ≡ true) h.word (c ∷ []) h.own.own (w, tt);
    same
        = ap (λ x. x ++ c ∷ []) h.own.same;
  };
}

string_begun-in : (front : List ℕ) (place c : ℕ) → place ≡ width front → c ≡ 34
    → StringIn (front ++ c ∷ []) place []
string_begun-in front place c e f = record
    { before = front; inner = []; parts = ap (λ x. front ++ x ∷ []) f; place = e; quoted = no_more }

string_more-in : (front text : List ℕ) (at c : ℕ) → IsScalar c → ¬ (c ≡ 34) → ¬ (c ≡ 92)
    → StringIn front at text → StringIn (front ++ c ∷ []) at (text ++ encode c)
string_more-in front text at c i n m h = record {
  before = h.before;
  inner = h.inner ++ c ∷ [];
  parts = ap (λ x. x ++ c ∷ []) h.parts ∙ append_assoc h.before (34 ∷ h.inner) (c ∷ []);
  place = h.place;
  quoted = quoted-append h.inner text (c ∷ []) (encode c) h.quoted (one-plain c i n m);
}

escape_begun-in : (front text : List ℕ) (at place c : ℕ) → place ≡ width front → c ≡ 92
    → StringIn front at text → EscapeIn (front ++ c ∷ []) at place Begun text
escape_begun-in front text at place c e f h = record {
  before = h.before;
  inner = h.inner;
  first = [];
  parts = ap (λ x. x ++ c ∷ []) h.parts ∙ ap (λ x. (h.before ++ 34 ∷ h.inner) ++ x ∷ []) f;
  place = h.place;
  back = e ∙ ap width h.parts;
  quoted = h.quoted;
  fits = begun;
}

escape_more-in : (front text : List ℕ) (at back c : ℕ) (escape next : EscapeState)
    → escape_next escape c ≡ More next → EscapeIn front at back escape text
    → EscapeIn (front ++ c ∷ []) at back next text
escape_more-in front text at back c escape next e h =
    let M : Escaped → Type 0 = λ x. Means (h.first ++ c ∷ []) x in
    record {
      before = h.before;
      inner = h.inner;
      first = h.first ++ c ∷ [];
      parts = ap (λ x. x ++ c ∷ []) h.parts
          ∙ append_assoc (h.before ++ 34 ∷ h.inner) (92 ∷ h.first) (c ∷ []);
      place = h.place;
      back = h.back;
      quoted = h.quoted;
      fits = subst M e (means-next escape h.first h.fits c);
    }

escape_end-in : (front text : List ℕ) (at back c character : ℕ) (escape : EscapeState)
    → escape_next escape c ≡ Whole character → EscapeIn front at back escape text
    → StringIn (front ++ c ∷ []) at (text ++ encode character)
escape_end-in front text at back c character escape e h =
    let M : Escaped → Type 0 = λ x. Means (h.first ++ c ∷ []) x in
    record {
      before = h.before;
      inner = h.inner ++ 92 ∷ (h.first ++ c ∷ []);
      parts = ap (λ x. x ++ c ∷ []) h.parts
          ∙ append_assoc (h.before ++ 34 ∷ h.inner) (92 ∷ h.first) (c ∷ [])
          ∙ append_assoc h.before (34 ∷ h.inner) (92 ∷ (h.first ++ c ∷ []));
      place = h.place;
      quoted = quoted-append h.inner text (92 ∷ (h.first ++ c ∷ [])) (encode character) h.quoted
          (one-escaped character (h.first ++ c ∷ [])
          (subst M e (means-next escape h.first h.fits c)));
    }

-- the end of a text leaves no token open
pub ends-between : (nodes : List TreeNode) (brackets : List Open) (phase : Phase) (at end : ℕ)
    (text : List ℕ) (s : Reader) → TextEnds nodes brackets phase at end text s → s.token ≡ Between
ends-between nodes _ _ _ _ _ _ (as_value brackets phase at end text a)
    = settled-between _ brackets (length nodes)
ends-between nodes _ _ _ _ _ _ (as_key d outer at end text e) = refl

pub moves-token : (front : List ℕ) (place c : ℕ) (r s : Reader) → place ≡ width front → IsScalar c
    → Moves place c r s → TokenIn r.token front r.text → TokenIn s.token (front ++ c ∷ []) s.text
moves-token front place c _ _ e i (space_between nodes brackets phase h) k = tt
moves-token front place c _ _ e i (string_begins nodes brackets phase b h) k
    = string_begun-in front place c e h
moves-token front place c _ _ e i (word_begins nodes brackets phase b w) k
    = word_begun-in front place c e w
moves-token front place c _ _ e i (bytes_begin nodes brackets phase a) k
    = omega (arith, e, wider front c)
moves-token front place c _ _ e i (list_begins nodes brackets phase a l) k = tt
moves-token front place c _ _ e i (dictionary_begins nodes brackets phase a l) k = tt
moves-token front place c _ _ e i (comma nodes brackets) k = tt
moves-token front place c _ _ e i (equals nodes brackets) k = tt
moves-token front place c _ _ e i (semicolon nodes brackets) k = tt
moves-token front place c _ _ e i (list_ends nodes at done outer phase) k
    = settled-in (nodes ++ node at (place + 1) (tree.Items done) ∷ []) outer (length nodes)
    (front ++ c ∷ [])
moves-token front place c _ _ e i (dictionary_ends nodes d outer) k
    = settled-in (nodes ++ node d.place (place + 1) (tree.Pairs d.pairs) ∷ []) outer (length nodes)
    (front ++ c ∷ [])
moves-token front place c _ _ e i (word_more nodes brackets phase at text b w) k
    = word_more-in front text at c w k
moves-token front place c _ _ e i (word_ends nodes brackets phase at text u s w t m) k
    = moves-token front place c u s e i m (between-in u front
    (ends-between nodes brackets phase at place text u t))
moves-token front place c _ _ e i (string_more nodes brackets phase at text b n m) k
    = string_more-in front text at c i n m k
moves-token front place c _ _ e i (string_ends nodes brackets phase at text s h t) k
    = between-in s (front ++ c ∷ []) (ends-between nodes brackets phase at (place + 1) text s t)
moves-token front place c _ _ e i (escape_begins nodes brackets phase at text b h) k
    = escape_begun-in front text at place c e h k
moves-token front place c _ _ e i (escape_more nodes brackets phase at backslash text escape next b
    h) k = escape_more-in front text at backslash c escape next h k
moves-token front place c _ _ e i (escape_ends nodes brackets phase at backslash text escape
    character b h) k = escape_end-in front text at backslash c character escape h k
moves-token front place c _ _ e i (space_in_bytes nodes brackets phase at bytes) k
    = still_wider front c at k
moves-token front place c _ _ e i (first_digit nodes brackets phase at x bytes h) k
    = (still_wider front c at k, x, h)
moves-token front place c _ _ e i (space_in_half nodes brackets phase at high bytes) k
    = (still_wider front c at k.0, k.1, k.2)
moves-token front place c _ _ e i (second_digit nodes brackets phase at high byte bytes) k
    = still_wider front c at k.0
moves-token front place c _ _ e i (bytes_end nodes brackets phase at bytes a) k
    = settled-in (nodes ++ node at (place + 1) (tree.Bytes bytes) ∷ []) brackets (length nodes)
    (front ++ c ∷ [])
