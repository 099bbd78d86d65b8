-- What a step makes of a good reader, case by case.
use Rattle.std.proofs.Common.{◌≡◌, ℕ, ◌+◌, ◌<◌, true, false, eqb, ltb, List, [], ◌∷◌, ◌++◌, length}
use Rattle.std.proofs.Common.{Option, Some, None, Result, Ok, Err, refl, sym, ap, subst, ◌∙◌, arith}
use Rattle.std.proofs.Common.{IfOk}
use Rattle.std.proofs.lemmas.Bool.{eqb-true, eqb-false, ltb-true}
use Rattle.std.proofs.lemmas.Result.{IfOk-weaker}
use Rattle.std.proofs.lemmas.Str.{encode_ascii}
use lib.Utf8.{encode}
use Rattle.refusal_codes.specs.declared.refusal.Refusal.{Refusal}
use Rattle.plist_reader.specs.declared.tree.Tree.{Tree}
use Rattle.plist_reader.specs.declared.tree.TreeNode.{TreeNode}
use Rattle.plist_reader.specs.declared.tree.TreeValue.TheVariants as tree
use Rattle.plist_reader.specs.declared.reader.Reader.{Reader}
use Rattle.plist_reader.specs.declared.reader.Dictionary.{Dictionary}
use Rattle.plist_reader.specs.declared.reader.Phase.{Phase}
use Rattle.plist_reader.specs.declared.reader.Phase.TheVariants.{Value, Item, ItemEnd, Key, KeyEnd}
use Rattle.plist_reader.specs.declared.reader.Phase.TheVariants.{PairEnd, End}
use Rattle.plist_reader.specs.declared.reader.Token.{Token}
use Rattle.plist_reader.specs.declared.reader.Token.TheVariants.{Between, Word, Quoted, Escape}
use Rattle.plist_reader.specs.declared.reader.Token.TheVariants.{Bytes, Half}
use Rattle.plist_reader.specs.declared.reader.Open.{Open}
use Rattle.plist_reader.specs.declared.reader.Open.TheVariants.{Items, Pairs}
use Rattle.plist_reader.specs.declared.escape.Escape.{Escape as EscapeState}
use Rattle.plist_reader.specs.declared.escape.Escape.TheVariants.{Begun}
use Rattle.plist_reader.specs.declared.escape.Escaped.{Escaped}
use Rattle.plist_reader.specs.declared.escape.Escaped.TheVariants.{More, Whole, Wrong}
use Rattle.plist_reader.specs.Characters.{is_space, is_word, hex_value, byte_of}
use Rattle.plist_reader.specs.Escapes.{escape_next}
use Rattle.plist_reader.specs.Keys.{is_among}
use Rattle.plist_reader.specs.Grammar.{node}
use Rattle.refusal_codes.specs.Gives.{◌>>=◌}
use Rattle.plist_reader.specs.Reading.{is_bracket, value_ended, key_ended, text_ended, text_begun}
use Rattle.plist_reader.specs.Reading.{bracket_opened, value_begun, list_closed, dictionary_closed}
use Rattle.plist_reader.specs.Reading.{awaited, between, in_word, in_quoted, after_escape}
use Rattle.plist_reader.specs.Reading.{after_hex, after_half, in_bytes, in_half, step_in, step}
use Rattle.plist_reader.specs.Reading.{whole, finish_in, finish}
use Rattle.plist_reader.proofs.GivenTokens.{ready, in_token, settled, settled_any, word-ascii}
use Rattle.plist_reader.proofs.GivenTokens.{CanBegin, IsAwaiting, begin-from_awaiting}
use Rattle.plist_reader.proofs.GivenStrings.{text-ended}
use Rattle.plist_reader.proofs.GivenTexts.{opened, key_end, list_end, dictionary_end}
use Rattle.plist_reader.proofs.SpelledEscapes.{holds-known}
use Rattle.plist_reader.proofs.SpelledSteps.{Agrees, GoodIn, Good, if_ok-known}

-- what the end of a text makes of the reader
pub data TextEnds (nodes : List TreeNode) : List Open → Phase → ℕ → ℕ → List ℕ → Reader
    → Type 0 where
  as_value : (brackets : List Open) (phase : Phase) (at end : ℕ) (text : List ℕ) → IsAwaiting phase
      → TextEnds nodes brackets phase at end text
      (settled (nodes ++ node at end (tree.Text text) ∷ []) brackets (length nodes))
  as_key : (d : Dictionary) (outer : List Open) (at end : ℕ) (text : List ℕ)
      → is_among text d.keys ≡ false → TextEnds nodes (Pairs d ∷ outer) Key at end text
      (key_end nodes d outer at end text)

-- what a character makes of the reader
pub data Moves (place c : ℕ) : Reader → Reader → Type 0 where
  space_between : (nodes : List TreeNode) (brackets : List Open) (phase : Phase) → is_space c ≡ true
      → Moves place c (ready nodes brackets phase) (ready nodes brackets phase)
  string_begins : (nodes : List TreeNode) (brackets : List Open) (phase : Phase) → CanBegin phase
      → c ≡ 34
      → Moves place c (ready nodes brackets phase)
      (in_token nodes brackets phase (Quoted place) [] [])
  word_begins : (nodes : List TreeNode) (brackets : List Open) (phase : Phase) → CanBegin phase
      → is_word c ≡ true
      → Moves place c (ready nodes brackets phase)
      (in_token nodes brackets phase (Word place) (c ∷ []) [])
  bytes_begin : (nodes : List TreeNode) (brackets : List Open) (phase : Phase) → IsAwaiting phase
      → Moves place c (ready nodes brackets phase)
      (in_token nodes brackets phase (Bytes place) [] [])
  list_begins : (nodes : List TreeNode) (brackets : List Open) (phase : Phase) → IsAwaiting phase
      → length brackets < 64
      → Moves place c (ready nodes brackets phase) (ready nodes (Items place [] ∷ brackets) Item)
  dictionary_begins : (nodes : List TreeNode) (brackets : List Open) (phase : Phase)
      → IsAwaiting phase → length brackets < 64
      → Moves place c (ready nodes brackets phase)
      (ready nodes (Pairs (opened place) ∷ brackets) Key)
  comma : (nodes : List TreeNode) (brackets : List Open)
      → Moves place c (ready nodes brackets ItemEnd) (ready nodes brackets Item)
  equals : (nodes : List TreeNode) (brackets : List Open)
      → Moves place c (ready nodes brackets KeyEnd) (ready nodes brackets Value)
  semicolon : (nodes : List TreeNode) (brackets : List Open)
      → Moves place c (ready nodes brackets PairEnd) (ready nodes brackets Key)
  list_ends : (nodes : List TreeNode) (at : ℕ) (done : List ℕ) (outer : List Open) (phase : Phase)
      → Moves place c (ready nodes (Items at done ∷ outer) phase)
      (list_end nodes at (place + 1) done outer)
  dictionary_ends : (nodes : List TreeNode) (d : Dictionary) (outer : List Open)
      → Moves place c (ready nodes (Pairs d ∷ outer) Key)
      (dictionary_end nodes d.place (place + 1) d.pairs outer)
  word_more : (nodes : List TreeNode) (brackets : List Open) (phase : Phase) (at : ℕ)
      (text : List ℕ) → CanBegin phase → is_word c ≡ true
      → Moves place c (in_token nodes brackets phase (Word at) text [])
      (in_token nodes brackets phase (Word at) (text ++ c ∷ []) [])
  word_ends : (nodes : List TreeNode) (brackets : List Open) (phase : Phase) (at : ℕ)
      (text : List ℕ) (u s : Reader) → is_word c ≡ false
      → TextEnds nodes brackets phase at place text u → Moves place c u s
      → Moves place c (in_token nodes brackets phase (Word at) text []) s
  string_more : (nodes : List TreeNode) (brackets : List Open) (phase : Phase) (at : ℕ)
      (text : List ℕ) → CanBegin phase → ¬ (c ≡ 34) → ¬ (c ≡ 92)
      → Moves place c (in_token nodes brackets phase (Quoted at) text [])
      (in_token nodes brackets phase (Quoted at) (text ++ encode c) [])
  string_ends : (nodes : List TreeNode) (brackets : List Open) (phase : Phase) (at : ℕ)
      (text : List ℕ) (s : Reader) → c ≡ 34 → TextEnds nodes brackets phase at (place + 1) text s
      → Moves place c (in_token nodes brackets phase (Quoted at) text []) s
  escape_begins : (nodes : List TreeNode) (brackets : List Open) (phase : Phase) (at : ℕ)
      (text : List ℕ) → CanBegin phase → c ≡ 92
      → Moves place c (in_token nodes brackets phase (Quoted at) text [])
      (in_token nodes brackets phase (Escape at place Begun) text [])
  escape_more : (nodes : List TreeNode) (brackets : List Open) (phase : Phase) (at backslash : ℕ)
      (text : List ℕ) (escape next : EscapeState) → CanBegin phase
      → escape_next escape c ≡ More next
      → Moves place c (in_token nodes brackets phase (Escape at backslash escape) text [])
      (in_token nodes brackets phase (Escape at backslash next) text [])
  escape_ends : (nodes : List TreeNode) (brackets : List Open) (phase : Phase) (at backslash : ℕ)
      (text : List ℕ) (escape : EscapeState) (character : ℕ) → CanBegin phase
      → escape_next escape c ≡ Whole character
      → Moves place c (in_token nodes brackets phase (Escape at backslash escape) text [])
      (in_token nodes brackets phase (Quoted at) (text ++ encode character) [])
  space_in_bytes : (nodes : List TreeNode) (brackets : List Open) (phase : Phase) (at : ℕ)
      (bytes : List ℕ)
      → Moves place c (in_token nodes brackets phase (Bytes at) [] bytes)
      (in_token nodes brackets phase (Bytes at) [] bytes)
  first_digit : (nodes : List TreeNode) (brackets : List Open) (phase : Phase) (at x : ℕ)
      (bytes : List ℕ) → hex_value c ≡ Some x
      → Moves place c (in_token nodes brackets phase (Bytes at) [] bytes)
      (in_token nodes brackets phase (Half at c) [] bytes)
  space_in_half : (nodes : List TreeNode) (brackets : List Open) (phase : Phase) (at high : ℕ)
      (bytes : List ℕ)
      → Moves place c (in_token nodes brackets phase (Half at high) [] bytes)
      (in_token nodes brackets phase (Half at high) [] bytes)
  second_digit : (nodes : List TreeNode) (brackets : List Open) (phase : Phase) (at high byte : ℕ)
      (bytes : List ℕ)
      → Moves place c (in_token nodes brackets phase (Half at high) [] bytes)
      (in_token nodes brackets phase (Bytes at) [] (bytes ++ byte ∷ []))
  bytes_end : (nodes : List TreeNode) (brackets : List Open) (phase : Phase) (at : ℕ)
      (bytes : List ℕ) → IsAwaiting phase
      → Moves place c (in_token nodes brackets phase (Bytes at) [] bytes)
      (settled (nodes ++ node at (place + 1) (tree.Bytes bytes) ∷ []) brackets (length nodes))

-- ---- texts that end

pub text_ends : (nodes : List TreeNode) (brackets : List Open) (phase : Phase) (token : Token)
    (at end : ℕ) (text : List ℕ) → CanBegin phase → Agrees phase brackets
    → IfOk (text_ended (in_token nodes brackets phase token text []) at end)
    (TextEnds nodes brackets phase at end text)
unfolding text_ended key_ended
text_ends nodes brackets Value token at end text b g =
    let P : Result Reader Refusal → Type 0 = λ d. IfOk d (TextEnds nodes brackets Value at end text)
    in
    subst P (sym (text-ended nodes brackets Value token at end text tt))
    (as_value brackets Value at end text tt)
text_ends nodes brackets Item token at end text b g =
    let P : Result Reader Refusal → Type 0 = λ d. IfOk d (TextEnds nodes brackets Item at end text)
    in
    subst P (sym (text-ended nodes brackets Item token at end text tt))
    (as_value brackets Item at end text tt)
text_ends nodes [] Key token at end text b g = absurd g
text_ends nodes (Items p done ∷ outer) Key token at end text b g = absurd g
text_ends nodes (Pairs d ∷ outer) Key token at end text b g
    = if_ok-known (TextEnds nodes (Pairs d ∷ outer) Key at end text) (is_among text d.keys) _ _
    (λ _. tt) (λ e. as_key d outer at end text e)
text_ends nodes brackets ItemEnd token at end text b g = absurd b
text_ends nodes brackets KeyEnd token at end text b g = absurd b
text_ends nodes brackets PairEnd token at end text b g = absurd b
text_ends nodes brackets (End n) token at end text b g = absurd b

-- ---- between tokens

moves-text_begun : (nodes : List TreeNode) (brackets : List Open) (phase : Phase) (place c : ℕ)
    → CanBegin phase
    → IfOk (text_begun (ready nodes brackets phase) place c)
    (Moves place c (ready nodes brackets phase))
unfolding text_begun
moves-text_begun nodes brackets phase place c b =
    let M : Reader → Type 0 = λ s. Moves place c (ready nodes brackets phase) s in
    let W : List ℕ → Type 0 = λ x. Moves place c (ready nodes brackets phase)
    (in_token nodes brackets phase (Word place) x []) in
    if_ok-known M (eqb c 34) _ _ (λ e. string_begins nodes brackets phase b (eqb-true c 34 e))
    (λ _. if_ok-known M (is_word c) _ _ (λ w. subst W (sym (encode_ascii c (word-ascii c w)))
    (word_begins nodes brackets phase b w)) (λ _. tt))

moves-value_begun : (nodes : List TreeNode) (brackets : List Open) (phase : Phase) (place c : ℕ)
    → IsAwaiting phase
    → IfOk (value_begun (ready nodes brackets phase) place c)
    (Moves place c (ready nodes brackets phase))
unfolding value_begun bracket_opened
moves-value_begun nodes brackets phase place c a =
    let r = ready nodes brackets phase in
    let M : Reader → Type 0 = λ s. Moves place c r s in
    if_ok-known M (is_bracket c) _ _
    (λ _. if_ok-known M (ltb (length brackets) 64) _ _
    (λ l. holds-known M (eqb c 40) _ _ (λ _. list_begins nodes brackets phase a
    (ltb-true (length brackets) 64 l)) (λ _. dictionary_begins nodes brackets phase a
    (ltb-true (length brackets) 64 l)))
    (λ _. tt))
    (λ _. if_ok-known M (eqb c 60) _ _ (λ _. bytes_begin nodes brackets phase a)
    (λ _. moves-text_begun nodes brackets phase place c (begin-from_awaiting phase a)))

moves-list_closed : (nodes : List TreeNode) (brackets : List Open) (phase : Phase) (place c : ℕ)
    → IfOk (list_closed (ready nodes brackets phase) place)
    (Moves place c (ready nodes brackets phase))
unfolding list_closed value_ended
moves-list_closed nodes [] phase place c = tt
moves-list_closed nodes (Pairs d ∷ outer) phase place c = tt
moves-list_closed nodes (Items at done ∷ outer) phase place c =
    let M : Reader → Type 0 = λ s. Moves place c (ready nodes (Items at done ∷ outer) phase) s in
    subst M (sym (settled_any (nodes ++ node at (place + 1) (tree.Items done) ∷ []) outer outer
    phase (length nodes))) (list_ends nodes at done outer phase)

moves-dictionary_closed : (nodes : List TreeNode) (brackets : List Open) (place c : ℕ)
    → IfOk (dictionary_closed (ready nodes brackets Key) place)
    (Moves place c (ready nodes brackets Key))
unfolding dictionary_closed value_ended
moves-dictionary_closed nodes [] place c = tt
moves-dictionary_closed nodes (Items at done ∷ outer) place c = tt
moves-dictionary_closed nodes (Pairs d ∷ outer) place c =
    let M : Reader → Type 0 = λ s. Moves place c (ready nodes (Pairs d ∷ outer) Key) s in
    subst M (sym (settled_any (nodes ++ node d.place (place + 1) (tree.Pairs d.pairs) ∷ []) outer
    outer Key (length nodes))) (dictionary_ends nodes d outer)

moves-awaited : (nodes : List TreeNode) (brackets : List Open) (phase : Phase) (place c : ℕ)
    → IfOk (awaited (ready nodes brackets phase) place c phase)
    (Moves place c (ready nodes brackets phase))
moves-awaited nodes brackets Value place c = moves-value_begun nodes brackets Value place c tt
moves-awaited nodes brackets Item place c =
    let M : Reader → Type 0 = λ s. Moves place c (ready nodes brackets Item) s in
    if_ok-known M (eqb c 41) _ _ (λ _. moves-list_closed nodes brackets Item place c)
    (λ _. moves-value_begun nodes brackets Item place c tt)
moves-awaited nodes brackets ItemEnd place c =
    let M : Reader → Type 0 = λ s. Moves place c (ready nodes brackets ItemEnd) s in
    if_ok-known M (eqb c 41) _ _ (λ _. moves-list_closed nodes brackets ItemEnd place c)
    (λ _. if_ok-known M (eqb c 44) _ _ (λ _. comma nodes brackets) (λ _. tt))
moves-awaited nodes brackets Key place c =
    let M : Reader → Type 0 = λ s. Moves place c (ready nodes brackets Key) s in
    if_ok-known M (eqb c 125) _ _ (λ _. moves-dictionary_closed nodes brackets place c)
    (λ _. moves-text_begun nodes brackets Key place c tt)
moves-awaited nodes brackets KeyEnd place c
    = if_ok-known (λ s. Moves place c (ready nodes brackets KeyEnd) s) (eqb c 61) _ _
    (λ _. equals nodes brackets) (λ _. tt)
moves-awaited nodes brackets PairEnd place c
    = if_ok-known (λ s. Moves place c (ready nodes brackets PairEnd) s) (eqb c 59) _ _
    (λ _. semicolon nodes brackets) (λ _. tt)
moves-awaited nodes brackets (End n) place c = tt

moves-between : (nodes : List TreeNode) (brackets : List Open) (phase : Phase) (place c : ℕ)
    → IfOk (between (ready nodes brackets phase) place c)
    (Moves place c (ready nodes brackets phase))
unfolding between
moves-between nodes brackets phase place c =
    if_ok-known (λ s. Moves place c (ready nodes brackets phase) s) (is_space c) _ _
    (λ e. space_between nodes brackets phase e)
    (λ _. moves-awaited nodes brackets phase place c)

-- behind the end of a text
ended-ready : (nodes : List TreeNode) (brackets : List Open) (phase : Phase) (at end : ℕ)
    (text : List ℕ) (u : Reader) (place c : ℕ) → TextEnds nodes brackets phase at end text u
    → IfOk (between u place c) (Moves place c u)
ended-ready nodes _ _ _ _ _ _ place c (as_value [] phase at end text a)
    = moves-between _ [] (End (length nodes)) place c
ended-ready nodes _ _ _ _ _ _ place c (as_value (Items p done ∷ outer) phase at end text a)
    = moves-between _ _ ItemEnd place c
ended-ready nodes _ _ _ _ _ _ place c (as_value (Pairs d ∷ outer) phase at end text a)
    = moves-between _ _ PairEnd place c
ended-ready nodes _ _ _ _ _ _ place c (as_key d outer at end text e)
    = moves-between _ _ KeyEnd place c

-- ---- in tokens

if_ok-bind : {A B : Type 0} (P : A → Type 0) (Q : B → Type 0) (d : Result A Refusal)
    (f : A → Result B Refusal) → IfOk d P → ((x : A) → P x → IfOk (f x) Q) → IfOk (d >>= f) Q
if_ok-bind P Q (Ok x) f h k = k x h
if_ok-bind P Q (Err e) f h k = tt

moves-in_word : (nodes : List TreeNode) (brackets : List Open) (phase : Phase) (at place c : ℕ)
    (text : List ℕ) → CanBegin phase → Agrees phase brackets
    → IfOk (in_word (in_token nodes brackets phase (Word at) text []) at place c)
    (Moves place c (in_token nodes brackets phase (Word at) text []))
unfolding in_word
moves-in_word nodes brackets phase at place c text b g =
    let r = in_token nodes brackets phase (Word at) text [] in
    let M : Reader → Type 0 = λ s. Moves place c r s in
    let W : List ℕ → Type 0 = λ x. Moves place c r
    (in_token nodes brackets phase (Word at) (text ++ x) []) in
    if_ok-known M (is_word c) _ _
    (λ w. subst W (sym (encode_ascii c (word-ascii c w)))
    (word_more nodes brackets phase at text b w))
    (λ w. if_ok-bind (TextEnds nodes brackets phase at place text) M (text_ended r at place)
    (λ s. between s place c) (text_ends nodes brackets phase (Word at) at place text b g)
    (λ u k. IfOk-weaker (between u place c) (Moves place c u) M
    (λ s m. word_ends nodes brackets phase at text u s w k m)
    (ended-ready nodes brackets phase at place text u place c k)))

moves-in_quoted : (nodes : List TreeNode) (brackets : List Open) (phase : Phase) (at place c : ℕ)
    (text : List ℕ) → CanBegin phase → Agrees phase brackets
    → IfOk (in_quoted (in_token nodes brackets phase (Quoted at) text []) at place c)
    (Moves place c (in_token nodes brackets phase (Quoted at) text []))
unfolding in_quoted
moves-in_quoted nodes brackets phase at place c text b g =
    let r = in_token nodes brackets phase (Quoted at) text [] in
    let M : Reader → Type 0 = λ s. Moves place c r s in
    if_ok-known M (eqb c 34) _ _
    (λ e. IfOk-weaker (text_ended r at (place + 1))
    (TextEnds nodes brackets phase at (place + 1) text) M
    (λ s k. string_ends nodes brackets phase at text s (eqb-true c 34 e) k)
    (text_ends nodes brackets phase (Quoted at) at (place + 1) text b g))
    (λ n. if_ok-known M (eqb c 92) _ _ (λ e. escape_begins nodes brackets phase at text b
    (eqb-true c 92 e)) (λ m. string_more nodes brackets phase at text b (eqb-false c 34 n)
    (eqb-false c 92 m)))

moves-after_escape : (nodes : List TreeNode) (brackets : List Open) (phase : Phase)
    (at backslash place c : ℕ) (text : List ℕ) (escape : EscapeState) (out : Escaped)
    → escape_next escape c ≡ out → CanBegin phase
    → IfOk (after_escape (in_token nodes brackets phase (Escape at backslash escape) text []) at
    backslash out) (Moves place c (in_token nodes brackets phase (Escape at backslash escape)
    text []))
moves-after_escape nodes brackets phase at backslash place c text escape (More next) e b
    = escape_more nodes brackets phase at backslash text escape next b e
moves-after_escape nodes brackets phase at backslash place c text escape (Whole character) e b
    = escape_ends nodes brackets phase at backslash text escape character b e
moves-after_escape nodes brackets phase at backslash place c text escape Wrong e b = tt

moves-in_bytes : (nodes : List TreeNode) (brackets : List Open) (phase : Phase) (at place c : ℕ)
    (bytes : List ℕ) → IsAwaiting phase
    → IfOk (in_bytes (in_token nodes brackets phase (Bytes at) [] bytes) at place c)
    (Moves place c (in_token nodes brackets phase (Bytes at) [] bytes))
unfolding in_bytes value_ended
moves-in_bytes nodes brackets phase at place c bytes a =
    let M : Reader → Type 0 = λ s. Moves place c (in_token nodes brackets phase (Bytes at) [] bytes)
    s in
    if_ok-known M (is_space c) _ _ (λ _. space_in_bytes nodes brackets phase at bytes)
    (λ _. if_ok-known M (eqb c 62) _ _
    (λ _. subst M (sym (settled_any (nodes ++ node at (place + 1) (tree.Bytes bytes) ∷ []) brackets
    brackets phase (length nodes))) (bytes_end nodes brackets phase at bytes a))
    (λ _. digit (hex_value c) refl))
  where
    digit : (o : Option ℕ) → hex_value c ≡ o
        → IfOk (after_hex (in_token nodes brackets phase (Bytes at) [] bytes) at place c o)
        (Moves place c (in_token nodes brackets phase (Bytes at) [] bytes))
    digit None e = tt
    digit (Some x) e = first_digit nodes brackets phase at x bytes e

moves-in_half : (nodes : List TreeNode) (brackets : List Open) (phase : Phase) (at high place c : ℕ)
    (bytes : List ℕ)
    → IfOk (in_half (in_token nodes brackets phase (Half at high) [] bytes) at high place c)
    (Moves place c (in_token nodes brackets phase (Half at high) [] bytes))
unfolding in_half
moves-in_half nodes brackets phase at high place c bytes =
    if_ok-known (λ s. Moves place c (in_token nodes brackets phase (Half at high) [] bytes) s)
    (is_space c) _ _ (λ _. space_in_half nodes brackets phase at high bytes)
    (λ _. digit (byte_of high c))
  where
    digit : (o : Option ℕ) → IfOk (after_half
        (in_token nodes brackets phase (Half at high) [] bytes) at place c o)
        (Moves place c (in_token nodes brackets phase (Half at high) [] bytes))
    digit None = tt
    digit (Some byte) = second_digit nodes brackets phase at high byte bytes

-- ---- any step

abbrev MovesOn : List TreeNode → List Open → Phase → Token → ℕ → ℕ → List ℕ → List ℕ → Type 0
MovesOn nodes brackets phase token place c text bytes
    = IfOk (step_in (in_token nodes brackets phase token text bytes) place c token)
    (Moves place c (in_token nodes brackets phase token text bytes))

moves-step_in : (nodes : List TreeNode) (brackets : List Open) (phase : Phase) (token : Token)
    (text bytes : List ℕ) (place c : ℕ)
    → GoodIn token (in_token nodes brackets phase token text bytes)
    → MovesOn nodes brackets phase token place c text bytes
moves-step_in nodes brackets phase Between text bytes place c g =
    let P : List ℕ → List ℕ → Type 0 = λ x y. MovesOn nodes brackets phase Between place c x y in
    subst (λ (x : List ℕ). P x bytes) (sym g.1)
    (subst (λ (y : List ℕ). P [] y) (sym g.2) (moves-between nodes brackets phase place c))
moves-step_in nodes brackets phase (Word at) text bytes place c g =
    subst (λ (y : List ℕ). MovesOn nodes brackets phase (Word at) place c text y) (sym g.2)
    (moves-in_word nodes brackets phase at place c text g.1 g.0)
moves-step_in nodes brackets phase (Quoted at) text bytes place c g =
    subst (λ (y : List ℕ). MovesOn nodes brackets phase (Quoted at) place c text y) (sym g.2)
    (moves-in_quoted nodes brackets phase at place c text g.1 g.0)
moves-step_in nodes brackets phase (Escape at backslash escape) text bytes place c g =
    subst (λ (y : List ℕ). MovesOn nodes brackets phase (Escape at backslash escape) place c text y)
    (sym g.2) (moves-after_escape nodes brackets phase at backslash place c text escape
    (escape_next escape c) refl g.1)
moves-step_in nodes brackets phase (Bytes at) text bytes place c g =
    subst (λ (x : List ℕ). MovesOn nodes brackets phase (Bytes at) place c x bytes) (sym g.2)
    (moves-in_bytes nodes brackets phase at place c bytes g.1)
moves-step_in nodes brackets phase (Half at high) text bytes place c g =
    subst (λ (x : List ℕ). MovesOn nodes brackets phase (Half at high) place c x bytes) (sym g.2)
    (moves-in_half nodes brackets phase at high place c bytes)

pub moves : (r : Reader) (place c : ℕ) → Good r → IfOk (step r place c) (Moves place c r)
unfolding step
moves r place c g = moves-step_in r.nodes r.brackets r.phase r.token r.text r.bytes place c g

-- ---- the end of a text

-- what the end of the text makes of the reader
pub data Closes (place : ℕ) : Reader → Tree → Type 0 where
  closes_between : (nodes : List TreeNode) (brackets : List Open) (number : ℕ)
      → Closes place (ready nodes brackets (End number)) (record { nodes = nodes; top = number })
  closes_word : (nodes : List TreeNode) (phase : Phase) (at : ℕ) (text : List ℕ) → IsAwaiting phase
      → Closes place (in_token nodes [] phase (Word at) text [])
      (record { nodes = nodes ++ node at place (tree.Text text) ∷ []; top = length nodes })

closes-ready : (nodes : List TreeNode) (brackets : List Open) (phase : Phase) (place : ℕ)
    → IfOk (whole (ready nodes brackets phase) place) (Closes place (ready nodes brackets phase))
unfolding whole
closes-ready nodes brackets Value place = tt
closes-ready nodes brackets Item place = tt
closes-ready nodes brackets ItemEnd place = tt
closes-ready nodes brackets Key place = tt
closes-ready nodes brackets KeyEnd place = tt
closes-ready nodes brackets PairEnd place = tt
closes-ready nodes brackets (End n) place = closes_between nodes brackets n

closes-whole : (nodes : List TreeNode) (number place : ℕ)
    → whole (settled nodes [] number) place ≡ Ok (record { nodes = nodes; top = number })
unfolding whole
closes-whole nodes number place = refl

closes-word : (nodes : List TreeNode) (brackets : List Open) (phase : Phase) (at place : ℕ)
    (text : List ℕ) → CanBegin phase → Agrees phase brackets
    → IfOk (finish_in (in_token nodes brackets phase (Word at) text []) place (Word at))
    (Closes place (in_token nodes brackets phase (Word at) text []))
closes-word nodes (b ∷ brackets) phase at place text c g =
    if_ok-known (Closes place (in_token nodes (b ∷ brackets) phase (Word at) text []))
    (eqb (length (b ∷ brackets)) 0) _ _ (λ e. absurd
    (omega (arith, eqb-true (length (b ∷ brackets)) 0 e))) (λ _. tt)
closes-word nodes [] Value at place text c g =
    let P : Result Tree Refusal → Type 0 = λ d. IfOk d
    (Closes place (in_token nodes [] Value (Word at) text [])) in
    subst P (sym (ap (λ d. d >>= (λ s. whole s place))
    (text-ended nodes [] Value (Word at) at place text tt)
    ∙ closes-whole (nodes ++ node at place (tree.Text text) ∷ []) (length nodes) place))
    (closes_word nodes Value at text tt)
closes-word nodes [] Item at place text c g = absurd g
closes-word nodes [] Key at place text c g = absurd g
closes-word nodes [] ItemEnd at place text c g = absurd c
closes-word nodes [] KeyEnd at place text c g = absurd c
closes-word nodes [] PairEnd at place text c g = absurd c
closes-word nodes [] (End n) at place text c g = absurd c

abbrev ClosesOn : List TreeNode → List Open → Phase → Token → ℕ → List ℕ → List ℕ → Type 0
ClosesOn nodes brackets phase token place text bytes
    = IfOk (finish_in (in_token nodes brackets phase token text bytes) place token)
    (Closes place (in_token nodes brackets phase token text bytes))

closes-finish_in : (nodes : List TreeNode) (brackets : List Open) (phase : Phase) (token : Token)
    (text bytes : List ℕ) (place : ℕ)
    → GoodIn token (in_token nodes brackets phase token text bytes)
    → ClosesOn nodes brackets phase token place text bytes
closes-finish_in nodes brackets phase Between text bytes place g =
    subst (λ (x : List ℕ). ClosesOn nodes brackets phase Between place x bytes) (sym g.1)
    (subst (λ (y : List ℕ). ClosesOn nodes brackets phase Between place [] y) (sym g.2)
    (closes-ready nodes brackets phase place))
closes-finish_in nodes brackets phase (Word at) text bytes place g =
    subst (λ (y : List ℕ). ClosesOn nodes brackets phase (Word at) place text y) (sym g.2)
    (closes-word nodes brackets phase at place text g.1 g.0)
closes-finish_in nodes brackets phase (Quoted at) text bytes place g = tt
closes-finish_in nodes brackets phase (Escape at backslash escape) text bytes place g = tt
closes-finish_in nodes brackets phase (Bytes at) text bytes place g = tt
closes-finish_in nodes brackets phase (Half at high) text bytes place g = tt

pub closes : (r : Reader) (place : ℕ) → Good r → IfOk (finish r place) (Closes place r)
unfolding finish
closes r place g = closes-finish_in r.nodes r.brackets r.phase r.token r.text r.bytes place g
