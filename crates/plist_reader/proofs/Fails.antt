-- Where a step refuses a character, case by case.
use Rattle.std.proofs.Common.{◌≡◌, ℕ, ◌+◌, ◌≤◌, Bool, true, false, cond, eqb, ltb, ◌&&◌, not, List}
use Rattle.std.proofs.Common.{[], ◌∷◌, length, Option, Some, None, Result, Ok, Err, refl, sym}
use Rattle.std.proofs.Common.{subst, IfOk}
use Rattle.std.specs.Prelude.{IfErr}
use Rattle.std.proofs.lemmas.Bool.{false≢true, ltb-false, both_ways, eqb-true, le-ltb}
use Rattle.refusal_codes.specs.declared.refusal.Refusal.{Refusal}
use Rattle.refusal_codes.specs.declared.rule.Rule.TheVariants.{UnexpectedByte, BadEscape}
use Rattle.refusal_codes.specs.declared.rule.Rule.TheVariants.{DuplicateKey, TooDeep, TrailingText}
use Rattle.plist_reader.specs.declared.tree.TreeNode.{TreeNode}
use Rattle.plist_reader.specs.declared.reader.Reader.{Reader}
use Rattle.plist_reader.specs.declared.reader.Dictionary.{Dictionary}
use Rattle.plist_reader.specs.declared.reader.Phase.{Phase}
use Rattle.plist_reader.specs.declared.reader.Phase.TheVariants.{Value, Item, ItemEnd, Key, KeyEnd}
use Rattle.plist_reader.specs.declared.reader.Phase.TheVariants.{PairEnd, End}
use Rattle.plist_reader.specs.declared.reader.Token.{Token}
use Rattle.plist_reader.specs.declared.reader.Token.TheVariants.{Between, Word, Quoted, Escape}
use Rattle.plist_reader.specs.declared.reader.Token.TheVariants.{Bytes, Half}
use Rattle.plist_reader.specs.declared.reader.Open.{Open}
use Rattle.plist_reader.specs.declared.reader.Open.TheVariants.{Items, Pairs}
use Rattle.plist_reader.specs.declared.escape.Escape.{Escape as EscapeState}
use Rattle.plist_reader.specs.declared.escape.Escaped.{Escaped}
use Rattle.plist_reader.specs.declared.escape.Escaped.TheVariants.{More, Whole, Wrong}
use Rattle.plist_reader.specs.Characters.{is_space, is_word, hex_value, byte_of}
use Rattle.plist_reader.specs.Escapes.{escape_next}
use Rattle.plist_reader.specs.Keys.{is_among}
use Rattle.plist_reader.specs.Refusals.{refusal}
use Rattle.refusal_codes.specs.Gives.{◌>>=◌}
use Rattle.plist_reader.specs.Reading.{is_bracket, is_end, max_depth, unexpected, unexpected_rule}
use Rattle.plist_reader.specs.Reading.{key_ended, text_ended, text_begun, bracket_opened}
use Rattle.plist_reader.specs.Reading.{value_begun, list_closed, dictionary_closed, awaited}
use Rattle.plist_reader.specs.Reading.{between, in_word, in_quoted, after_escape, after_hex}
use Rattle.plist_reader.specs.Reading.{after_half, in_bytes, in_half, step_in, step}
use Rattle.plist_reader.proofs.GivenTokens.{ready, in_token, CanBegin, IsAwaiting}
use Rattle.plist_reader.proofs.SpelledSteps.{Agrees, GoodIn, Good}
use Rattle.plist_reader.proofs.Moves.{TextEnds, as_value, as_key, text_ends}

-- ---- choices

pub if_err-known : {A : Type 0} (P : Refusal → Type 0) (b : Bool) (x y : Result A Refusal)
    → (b ≡ true → IfErr x P) → (b ≡ false → IfErr y P) → IfErr (cond b x y) P
if_err-known P true x y h k = h refl
if_err-known P false x y h k = k refl

if_err-weaker : {A : Type 0} (P Q : Refusal → Type 0) (d : Result A Refusal)
    → ((e : Refusal) → P e → Q e) → IfErr d P → IfErr d Q
if_err-weaker P Q (Ok x) f h = tt
if_err-weaker P Q (Err e) f h = f e h

-- ---- characters that nothing takes

-- a bracket that would be the 65th
abbrev pub IsOver : ℕ → Reader → Type 0
IsOver c u = (is_bracket c ≡ true) × (64 ≤ length u.brackets)

pub data StopsAt (place c : ℕ) (u : Reader) : Refusal → Type 0 where
  over : IsOver c u → StopsAt place c u (refusal TooDeep place)
  behind : ¬ (IsOver c u) → is_end u.phase ≡ true → StopsAt place c u (refusal TrailingText place)
  other : ¬ (IsOver c u) → is_end u.phase ≡ false → StopsAt place c u (refusal UnexpectedByte place)

stops-unexpected : (u : Reader) (place c : ℕ) → IfErr (unexpected u place c) (StopsAt place c u)
unfolding unexpected_rule
stops-unexpected u place c = by_tests (is_bracket c && not (ltb (length u.brackets) 64))
    (is_end u.phase) refl refl
  where
    is_over : (b n : Bool) → (b && not n) ≡ true → (b ≡ true) × (n ≡ false)
    is_over true false e = (refl, refl)
    is_over true true e = absurd (false≢true e)
    is_over false n e = absurd (false≢true e)

    not_over : (b n : Bool) → (b && not n) ≡ false → b ≡ true → n ≡ true
    not_over true true e f = refl
    not_over true false e f = absurd (false≢true (sym e))
    not_over false n e f = absurd (false≢true f)

    not_below : (n : ℕ) → 64 ≤ n → ltb n 64 ≡ false
    not_below n l = le-ltb n 64 l

    below : (n : ℕ) → ltb n 64 ≡ true → 64 ≤ n → ⊥
    below n e l = both_ways (ltb n 64) (not_below n l) e

    by_tests : (a b : Bool) → (is_bracket c && not (ltb (length u.brackets) 64)) ≡ a
        → is_end u.phase ≡ b → StopsAt place c u
        (refusal (cond a TooDeep (cond b TrailingText UnexpectedByte)) place)
    by_tests true b e f = let p = is_over (is_bracket c) (ltb (length u.brackets) 64) e
        in over (p.0, ltb-false (length u.brackets) 64 p.1)
    by_tests false true e f = behind (λ o. below (length u.brackets)
        (not_over (is_bracket c) (ltb (length u.brackets) 64) e o.0) o.1) f
    by_tests false false e f = other (λ o. below (length u.brackets)
        (not_over (is_bracket c) (ltb (length u.brackets) 64) e o.0) o.1) f

stops-text_begun : (u : Reader) (place c : ℕ) → IfErr (text_begun u place c) (StopsAt place c u)
unfolding text_begun
stops-text_begun u place c = if_err-known (StopsAt place c u) (eqb c 34) _ _ (λ _. tt)
    (λ _. if_err-known (StopsAt place c u) (is_word c) _ _ (λ _. tt)
    (λ _. stops-unexpected u place c))

stops-value_begun : (u : Reader) (place c : ℕ) → IfErr (value_begun u place c) (StopsAt place c u)
unfolding value_begun bracket_opened
stops-value_begun u place c = if_err-known (StopsAt place c u) (is_bracket c) _ _
    (λ _. if_err-known (StopsAt place c u) (ltb (length u.brackets) max_depth) _ _ (λ _. tt)
    (λ _. stops-unexpected u place c))
    (λ _. if_err-known (StopsAt place c u) (eqb c 60) _ _ (λ _. tt)
    (λ _. stops-text_begun u place c))

stops-list_closed : (nodes : List TreeNode) (brackets : List Open) (phase : Phase) (place c : ℕ)
    → Agrees Item brackets
    → IfErr (list_closed (ready nodes brackets phase) place)
    (StopsAt place c (ready nodes brackets phase))
unfolding list_closed
stops-list_closed nodes [] phase place c g = absurd g
stops-list_closed nodes (Pairs d ∷ outer) phase place c g = absurd g
stops-list_closed nodes (Items at done ∷ outer) phase place c g = tt

stops-dictionary_closed : (nodes : List TreeNode) (brackets : List Open) (phase : Phase)
    (place c : ℕ) → Agrees Key brackets
    → IfErr (dictionary_closed (ready nodes brackets phase) place)
    (StopsAt place c (ready nodes brackets phase))
unfolding dictionary_closed
stops-dictionary_closed nodes [] phase place c g = absurd g
stops-dictionary_closed nodes (Items at done ∷ outer) phase place c g = absurd g
stops-dictionary_closed nodes (Pairs d ∷ outer) phase place c g = tt

stops-awaited : (nodes : List TreeNode) (brackets : List Open) (phase : Phase) (place c : ℕ)
    → Agrees phase brackets
    → IfErr (awaited (ready nodes brackets phase) place c phase)
    (StopsAt place c (ready nodes brackets phase))
stops-awaited nodes brackets Value place c g
    = stops-value_begun (ready nodes brackets Value) place c
stops-awaited nodes brackets Item place c g =
    if_err-known (StopsAt place c (ready nodes brackets Item)) (eqb c 41) _ _
    (λ _. stops-list_closed nodes brackets Item place c g)
    (λ _. stops-value_begun (ready nodes brackets Item) place c)
stops-awaited nodes brackets ItemEnd place c g =
    if_err-known (StopsAt place c (ready nodes brackets ItemEnd)) (eqb c 41) _ _
    (λ _. stops-list_closed nodes brackets ItemEnd place c g)
    (λ _. if_err-known (StopsAt place c (ready nodes brackets ItemEnd)) (eqb c 44) _ _ (λ _. tt)
    (λ _. stops-unexpected (ready nodes brackets ItemEnd) place c))
stops-awaited nodes brackets Key place c g =
    if_err-known (StopsAt place c (ready nodes brackets Key)) (eqb c 125) _ _
    (λ _. stops-dictionary_closed nodes brackets Key place c g)
    (λ _. stops-text_begun (ready nodes brackets Key) place c)
stops-awaited nodes brackets KeyEnd place c g
    = if_err-known (StopsAt place c (ready nodes brackets KeyEnd)) (eqb c 61) _ _ (λ _. tt)
    (λ _. stops-unexpected (ready nodes brackets KeyEnd) place c)
stops-awaited nodes brackets PairEnd place c g
    = if_err-known (StopsAt place c (ready nodes brackets PairEnd)) (eqb c 59) _ _ (λ _. tt)
    (λ _. stops-unexpected (ready nodes brackets PairEnd) place c)
stops-awaited nodes brackets (End n) place c g
    = stops-unexpected (ready nodes brackets (End n)) place c

stops-between : (nodes : List TreeNode) (brackets : List Open) (phase : Phase) (place c : ℕ)
    → Agrees phase brackets
    → IfErr (between (ready nodes brackets phase) place c)
    (StopsAt place c (ready nodes brackets phase))
unfolding between
stops-between nodes brackets phase place c g
    = if_err-known (StopsAt place c (ready nodes brackets phase)) (is_space c) _ _ (λ _. tt)
    (λ _. stops-awaited nodes brackets phase place c g)

stops-ended : (nodes : List TreeNode) (brackets : List Open) (phase : Phase) (at end : ℕ)
    (text : List ℕ) (u : Reader) (place c : ℕ) → TextEnds nodes brackets phase at end text u
    → IfErr (between u place c) (StopsAt place c u)
stops-ended nodes _ _ _ _ _ _ place c (as_value [] phase at end text a)
    = stops-between _ [] (End (length nodes)) place c tt
stops-ended nodes _ _ _ _ _ _ place c (as_value (Items p done ∷ outer) phase at end text a)
    = stops-between _ _ ItemEnd place c tt
stops-ended nodes _ _ _ _ _ _ place c (as_value (Pairs d ∷ outer) phase at end text a)
    = stops-between _ _ PairEnd place c tt
stops-ended nodes _ _ _ _ _ _ place c (as_key d outer at end text e)
    = stops-between _ _ KeyEnd place c tt

-- ---- any character

pub data Fails (place c : ℕ) : Reader → Refusal → Type 0 where
  between_fails : (nodes : List TreeNode) (brackets : List Open) (phase : Phase) (e : Refusal)
      → StopsAt place c (ready nodes brackets phase) e
      → Fails place c (ready nodes brackets phase) e
  word_fails : (nodes : List TreeNode) (brackets : List Open) (phase : Phase) (at : ℕ)
      (text : List ℕ) (u : Reader) (e : Refusal) → TextEnds nodes brackets phase at place text u
      → StopsAt place c u e → Fails place c (in_token nodes brackets phase (Word at) text []) e
  word_twice : (nodes : List TreeNode) (d : Dictionary) (outer : List Open) (at : ℕ) (text : List ℕ)
      → is_word c ≡ false → is_among text d.keys ≡ true
      → Fails place c (in_token nodes (Pairs d ∷ outer) Key (Word at) text [])
      (refusal DuplicateKey at)
  string_twice : (nodes : List TreeNode) (d : Dictionary) (outer : List Open) (at : ℕ)
      (text : List ℕ) → c ≡ 34 → is_among text d.keys ≡ true
      → Fails place c (in_token nodes (Pairs d ∷ outer) Key (Quoted at) text [])
      (refusal DuplicateKey at)
  escape_fails : (nodes : List TreeNode) (brackets : List Open) (phase : Phase) (at backslash : ℕ)
      (text : List ℕ) (escape : EscapeState)
      → Fails place c (in_token nodes brackets phase (Escape at backslash escape) text [])
      (refusal BadEscape backslash)
  bytes_fail : (nodes : List TreeNode) (brackets : List Open) (phase : Phase) (at : ℕ)
      (bytes : List ℕ) (e : Refusal) → IsAwaiting phase
      → StopsAt place c (in_token nodes brackets phase (Bytes at) [] bytes) e
      → Fails place c (in_token nodes brackets phase (Bytes at) [] bytes) e
  half_fails : (nodes : List TreeNode) (brackets : List Open) (phase : Phase) (at high : ℕ)
      (bytes : List ℕ) (e : Refusal) → IsAwaiting phase
      → StopsAt place c (in_token nodes brackets phase (Half at high) [] bytes) e
      → Fails place c (in_token nodes brackets phase (Half at high) [] bytes) e

-- a text that doesn't end is a key that its dictionary has
record IsKnownKey (nodes : List TreeNode) (brackets : List Open) (phase : Phase) (at : ℕ)
    (text : List ℕ) (e : Refusal) : Type 0 where
  d : Dictionary
  outer : List Open
  brackets_are : brackets ≡ Pairs d ∷ outer
  phase_is : phase ≡ Key
  among : is_among text d.keys ≡ true
  error : e ≡ refusal DuplicateKey at

known-text : (nodes : List TreeNode) (brackets : List Open) (phase : Phase) (token : Token)
    (at end : ℕ) (text : List ℕ) → CanBegin phase → Agrees phase brackets
    → IfErr (text_ended (in_token nodes brackets phase token text []) at end)
    (IsKnownKey nodes brackets phase at text)
unfolding text_ended key_ended
known-text nodes brackets Value token at end text b g = tt
known-text nodes brackets Item token at end text b g = tt
known-text nodes [] Key token at end text b g = absurd g
known-text nodes (Items p done ∷ outer) Key token at end text b g = absurd g
known-text nodes (Pairs d ∷ outer) Key token at end text b g =
    if_err-known (IsKnownKey nodes (Pairs d ∷ outer) Key at text) (is_among text d.keys) _ _
    (λ k. record {
      d = d;
      outer = outer;
      brackets_are = refl;
      phase_is = refl;
      among = k;
      error
          = refl;
    }) (λ _. tt)
known-text nodes brackets ItemEnd token at end text b g = absurd b
known-text nodes brackets KeyEnd token at end text b g = absurd b
known-text nodes brackets PairEnd token at end text b g = absurd b
known-text nodes brackets (End n) token at end text b g = absurd b

twice-word : (nodes : List TreeNode) (brackets : List Open) (phase : Phase) (at place c : ℕ)
    (text : List ℕ) (e : Refusal) → is_word c ≡ false
    → IsKnownKey nodes brackets phase at text e
    → Fails place c (in_token nodes brackets phase (Word at) text []) e
twice-word nodes brackets phase at place c text e w k =
    let P : List Open → Phase → Refusal → Type 0
    = λ x y z. Fails place c (in_token nodes x y (Word at) text []) z in
    subst (λ (x : List Open). P x phase e) (sym k.brackets_are)
    (subst (λ (y : Phase). P (Pairs k.d ∷ k.outer) y e) (sym k.phase_is)
    (subst (λ (z : Refusal). P (Pairs k.d ∷ k.outer) Key z) (sym k.error)
    (word_twice nodes k.d k.outer at text w k.among)))

twice-string : (nodes : List TreeNode) (brackets : List Open) (phase : Phase) (at place c : ℕ)
    (text : List ℕ) (e : Refusal) → c ≡ 34 → IsKnownKey nodes brackets phase at text e
    → Fails place c (in_token nodes brackets phase (Quoted at) text []) e
twice-string nodes brackets phase at place c text e w k =
    let P : List Open → Phase → Refusal → Type 0
    = λ x y z. Fails place c (in_token nodes x y (Quoted at) text []) z in
    subst (λ (x : List Open). P x phase e) (sym k.brackets_are)
    (subst (λ (y : Phase). P (Pairs k.d ∷ k.outer) y e) (sym k.phase_is)
    (subst (λ (z : Refusal). P (Pairs k.d ∷ k.outer) Key z) (sym k.error)
    (string_twice nodes k.d k.outer at text w k.among)))

-- the end of a text, and then the character
fails-bind : (P : Refusal → Type 0) (Q : Reader → Type 0) (d : Result Reader Refusal)
    (f : Reader → Result Reader Refusal) → IfErr d P → IfOk d Q
    → ((u : Reader) → Q u → IfErr (f u) P) → IfErr (d >>= f) P
fails-bind P Q (Ok u) f h q k = k u q
fails-bind P Q (Err e) f h q k = h

fails-in_word : (nodes : List TreeNode) (brackets : List Open) (phase : Phase) (at place c : ℕ)
    (text : List ℕ) → CanBegin phase → Agrees phase brackets
    → IfErr (in_word (in_token nodes brackets phase (Word at) text []) at place c)
    (Fails place c (in_token nodes brackets phase (Word at) text []))
unfolding in_word
fails-in_word nodes brackets phase at place c text b g =
    let r = in_token nodes brackets phase (Word at) text [] in
    let F : Refusal → Type 0 = λ e. Fails place c r e in
    if_err-known F (is_word c) _ _ (λ _. tt)
    (λ w. fails-bind F (TextEnds nodes brackets phase at place text) (text_ended r at place)
    (λ s. between s place c)
    (if_err-weaker (IsKnownKey nodes brackets phase at text) F (text_ended r at place)
    (λ e k. twice-word nodes brackets phase at place c text e w k)
    (known-text nodes brackets phase (Word at) at place text b g))
    (text_ends nodes brackets phase (Word at) at place text b g)
    (λ u k. if_err-weaker (StopsAt place c u) F (between u place c)
    (λ e q. word_fails nodes brackets phase at text u e k q)
    (stops-ended nodes brackets phase at place text u place c k)))

fails-in_quoted : (nodes : List TreeNode) (brackets : List Open) (phase : Phase) (at place c : ℕ)
    (text : List ℕ) → CanBegin phase → Agrees phase brackets
    → IfErr (in_quoted (in_token nodes brackets phase (Quoted at) text []) at place c)
    (Fails place c (in_token nodes brackets phase (Quoted at) text []))
unfolding in_quoted
fails-in_quoted nodes brackets phase at place c text b g =
    let r = in_token nodes brackets phase (Quoted at) text [] in
    let F : Refusal → Type 0 = λ e. Fails place c r e in
    if_err-known F (eqb c 34) _ _
    (λ w. if_err-weaker (IsKnownKey nodes brackets phase at text) F (text_ended r at (place + 1))
    (λ e k. twice-string nodes brackets phase at place c text e (eqb-true c 34 w) k)
    (known-text nodes brackets phase (Quoted at) at (place + 1) text b g))
    (λ _. if_err-known F (eqb c 92) _ _ (λ _. tt) (λ _. tt))

fails-after_escape : (nodes : List TreeNode) (brackets : List Open) (phase : Phase)
    (at backslash place c : ℕ) (text : List ℕ) (escape : EscapeState) (out : Escaped)
    → IfErr (after_escape (in_token nodes brackets phase (Escape at backslash escape) text []) at
    backslash out) (Fails place c (in_token nodes brackets phase (Escape at backslash escape)
    text []))
fails-after_escape nodes brackets phase at backslash place c text escape (More next) = tt
fails-after_escape nodes brackets phase at backslash place c text escape (Whole character) = tt
fails-after_escape nodes brackets phase at backslash place c text escape Wrong
    = escape_fails nodes brackets phase at backslash text escape

fails-in_bytes : (nodes : List TreeNode) (brackets : List Open) (phase : Phase) (at place c : ℕ)
    (bytes : List ℕ) → IsAwaiting phase
    → IfErr (in_bytes (in_token nodes brackets phase (Bytes at) [] bytes) at place c)
    (Fails place c (in_token nodes brackets phase (Bytes at) [] bytes))
unfolding in_bytes
fails-in_bytes nodes brackets phase at place c bytes a =
    let r = in_token nodes brackets phase (Bytes at) [] bytes in
    let F : Refusal → Type 0 = λ e. Fails place c r e in
    if_err-known F (is_space c) _ _ (λ _. tt)
    (λ _. if_err-known F (eqb c 62) _ _ (λ _. tt) (λ _. digit (hex_value c)))
  where
    digit : (o : Option ℕ) → IfErr (after_hex (in_token nodes brackets phase (Bytes at) [] bytes) at
        place c o) (Fails place c (in_token nodes brackets phase (Bytes at) [] bytes))
    digit None = bytes_fail nodes brackets phase at bytes _ a
        (stops-unexpected (in_token nodes brackets phase (Bytes at) [] bytes) place c)
    digit (Some x) = tt

fails-in_half : (nodes : List TreeNode) (brackets : List Open) (phase : Phase) (at high place c : ℕ)
    (bytes : List ℕ) → IsAwaiting phase
    → IfErr (in_half (in_token nodes brackets phase (Half at high) [] bytes) at high place c)
    (Fails place c (in_token nodes brackets phase (Half at high) [] bytes))
unfolding in_half
fails-in_half nodes brackets phase at high place c bytes a =
    if_err-known (λ e. Fails place c (in_token nodes brackets phase (Half at high) [] bytes) e)
    (is_space c) _ _ (λ _. tt) (λ _. digit (byte_of high c))
  where
    digit : (o : Option ℕ) → IfErr (after_half
        (in_token nodes brackets phase (Half at high) [] bytes) at place c o)
        (Fails place c (in_token nodes brackets phase (Half at high) [] bytes))
    digit None = half_fails nodes brackets phase at high bytes _ a
        (stops-unexpected (in_token nodes brackets phase (Half at high) [] bytes) place c)
    digit (Some byte) = tt

abbrev FailsOn : List TreeNode → List Open → Phase → Token → ℕ → ℕ → List ℕ → List ℕ → Type 0
FailsOn nodes brackets phase token place c text bytes
    = IfErr (step_in (in_token nodes brackets phase token text bytes) place c token)
    (Fails place c (in_token nodes brackets phase token text bytes))

fails-step_in : (nodes : List TreeNode) (brackets : List Open) (phase : Phase) (token : Token)
    (text bytes : List ℕ) (place c : ℕ)
    → GoodIn token (in_token nodes brackets phase token text bytes)
    → FailsOn nodes brackets phase token place c text bytes
fails-step_in nodes brackets phase Between text bytes place c g =
    let r = ready nodes brackets phase in
    subst (λ (x : List ℕ). FailsOn nodes brackets phase Between place c x bytes) (sym g.1)
    (subst (λ (y : List ℕ). FailsOn nodes brackets phase Between place c [] y) (sym g.2)
    (if_err-weaker (StopsAt place c r) (Fails place c r) (between r place c)
    (λ e k. between_fails nodes brackets phase e k)
    (stops-between nodes brackets phase place c g.0)))
fails-step_in nodes brackets phase (Word at) text bytes place c g =
    subst (λ (y : List ℕ). FailsOn nodes brackets phase (Word at) place c text y) (sym g.2)
    (fails-in_word nodes brackets phase at place c text g.1 g.0)
fails-step_in nodes brackets phase (Quoted at) text bytes place c g =
    subst (λ (y : List ℕ). FailsOn nodes brackets phase (Quoted at) place c text y) (sym g.2)
    (fails-in_quoted nodes brackets phase at place c text g.1 g.0)
fails-step_in nodes brackets phase (Escape at backslash escape) text bytes place c g =
    subst (λ (y : List ℕ). FailsOn nodes brackets phase (Escape at backslash escape) place c text y)
    (sym g.2) (fails-after_escape nodes brackets phase at backslash place c text escape
    (escape_next escape c))
fails-step_in nodes brackets phase (Bytes at) text bytes place c g =
    subst (λ (x : List ℕ). FailsOn nodes brackets phase (Bytes at) place c x bytes) (sym g.2)
    (fails-in_bytes nodes brackets phase at place c bytes g.1)
fails-step_in nodes brackets phase (Half at high) text bytes place c g =
    subst (λ (x : List ℕ). FailsOn nodes brackets phase (Half at high) place c x bytes) (sym g.2)
    (fails-in_half nodes brackets phase at high place c bytes g.1)

pub fails : (r : Reader) (place c : ℕ) → Good r → IfErr (step r place c) (Fails place c r)
unfolding step
fails r place c g = fails-step_in r.nodes r.brackets r.phase r.token r.text r.bytes place c g
