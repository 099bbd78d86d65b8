-- Characters beyond ASCII stand in strings alone, and there each may stand.
use Rattle.std.proofs.Common.{cond, ◌*◌, ◌≡◌, ℕ, ◌+◌, ◌≤◌, Bool, false, eqb, List, [], ◌∷◌, ◌++◌}
use Rattle.std.proofs.Common.{Option, Some, None, Result, Ok, Err, refl, subst, arith, append_assoc}
use Rattle.std.proofs.Common.{IfOk}
use Rattle.std.specs.Prelude.{option_and_then, encode_utf8}
use Rattle.std.specs.Char.{IsScalar, len_utf8}
use Rattle.refusal_codes.specs.declared.refusal.Refusal.{Refusal}
use Rattle.plist_reader.specs.declared.reader.Reader.{Reader}
use Rattle.plist_reader.specs.declared.reader.Phase.{Phase}
use Rattle.plist_reader.specs.declared.reader.Phase.TheVariants.{Value, Item, ItemEnd, Key, KeyEnd}
use Rattle.plist_reader.specs.declared.reader.Phase.TheVariants.{PairEnd, End}
use Rattle.plist_reader.specs.declared.reader.Token.{Token}
use Rattle.plist_reader.specs.declared.reader.Token.TheVariants.{Between, Word, Quoted, Escape}
use Rattle.plist_reader.specs.declared.reader.Token.TheVariants.{Bytes, Half}
use Rattle.plist_reader.specs.declared.escape.Escape.{Escape as EscapeState}
use Rattle.plist_reader.specs.declared.escape.Escape.TheVariants.{Begun, Octal, Octals, Unit0}
use Rattle.plist_reader.specs.declared.escape.Escape.TheVariants.{Unit1, Unit2, Unit3, High}
use Rattle.plist_reader.specs.declared.escape.Escape.TheVariants.{HighBackslash, Low, Low1, Low2}
use Rattle.plist_reader.specs.declared.escape.Escape.TheVariants.{Low3}
use Rattle.plist_reader.specs.declared.escape.Escaped.TheVariants.{Wrong}
use Rattle.plist_reader.specs.Characters.{is_space, is_word, hex_value, byte_of}
use Rattle.plist_reader.specs.Escapes.{escape_begun, escape_next}
use Rattle.plist_reader.specs.Grammar.{width, tree_of, IsTextOf}
use Rattle.plist_reader.specs.Refusals.{CanGoOn}
use Rattle.refusal_codes.specs.Gives.{◌>>=◌}
use Rattle.plist_reader.specs.Reading.{is_bracket, text_ended, text_begun, value_begun, awaited}
use Rattle.plist_reader.specs.Reading.{between, in_word, in_quoted, in_bytes, in_half, step_in}
use Rattle.plist_reader.specs.Reading.{step, run}
use Rattle.plist_reader.proofs.Scalars.{no_char, no_space, no_word, no_octal, no_hex}
use Rattle.plist_reader.proofs.Reached.{onward, at_ok, reached-goes_on, reached-tree}
use Rattle.plist_reader.proofs.Depths.{ok_bind}
use Rattle.plist_reader.proofs.InEscapes.{reached-front}

-- ---- nothing takes it but a string

no_bracket : (c : ℕ) → 128 ≤ c → is_bracket c ≡ false
no_bracket c h = rw (no_char c 40 h (omega arith), no_char c 123 h (omega arith)) refl

never_ok : {A : Type 0} (P : A → Type 0) (b : Bool) (x y : Result A Refusal) → b ≡ false → IfOk y P
    → IfOk (cond b x y) P
never_ok P b x y e h = rw e h

no-text_begun : (P : Reader → Type 0) (r : Reader) (place c : ℕ) → 128 ≤ c
    → IfOk (text_begun r place c) P
unfolding text_begun
no-text_begun P r place c h = never_ok P (eqb c 34) _ _ (no_char c 34 h (omega arith))
    (never_ok P (is_word c) _ _ (no_word c h) tt)

no-value_begun : (P : Reader → Type 0) (r : Reader) (place c : ℕ) → 128 ≤ c
    → IfOk (value_begun r place c) P
unfolding value_begun
no-value_begun P r place c h = never_ok P (is_bracket c) _ _ (no_bracket c h)
    (never_ok P (eqb c 60) _ _ (no_char c 60 h (omega arith)) (no-text_begun P r place c h))

no-awaited : (P : Reader → Type 0) (r : Reader) (place c : ℕ) (phase : Phase) → 128 ≤ c
    → IfOk (awaited r place c phase) P
no-awaited P r place c Value h = no-value_begun P r place c h
no-awaited P r place c Item h = never_ok P (eqb c 41) _ _ (no_char c 41 h (omega arith))
    (no-value_begun P r place c h)
no-awaited P r place c ItemEnd h = never_ok P (eqb c 41) _ _ (no_char c 41 h (omega arith))
    (never_ok P (eqb c 44) _ _ (no_char c 44 h (omega arith)) tt)
no-awaited P r place c Key h = never_ok P (eqb c 125) _ _ (no_char c 125 h (omega arith))
    (no-text_begun P r place c h)
no-awaited P r place c KeyEnd h = never_ok P (eqb c 61) _ _ (no_char c 61 h (omega arith)) tt
no-awaited P r place c PairEnd h = never_ok P (eqb c 59) _ _ (no_char c 59 h (omega arith)) tt
no-awaited P r place c (End n) h = tt

no-between : (P : Reader → Type 0) (r : Reader) (place c : ℕ) → 128 ≤ c → IfOk (between r place c) P
unfolding between
no-between P r place c h = never_ok P (is_space c) _ _ (no_space c h)
    (no-awaited P r place c r.phase h)

no-after : (P : Reader → Type 0) (d : Result Reader Refusal) (place c : ℕ) → 128 ≤ c
    → IfOk (d >>= (λ s. between s place c)) P
no-after P (Ok s) place c h = no-between P s place c h
no-after P (Err e) place c h = tt

no_escape : (escape : EscapeState) (c : ℕ) → 128 ≤ c → escape_next escape c ≡ Wrong
unfolding escape_next escape_begun
no_escape Begun c h =
    rw (
      no_char c 34 h (omega arith),
      no_char c 92 h (omega arith),
      no_char c 110 h (omega arith),
      no_char c 114 h (omega arith),
      no_char c 116 h (omega arith),
      no_char c 48 h (omega arith),
      no_char c 49 h (omega arith),
      no_char c 85 h (omega arith),
    ) refl
no_escape (Octal a) c h = rw (no_octal c h) refl
no_escape (Octals a b) c h = rw (no_octal c h) refl
no_escape (High n) c h = rw (no_char c 92 h (omega arith)) refl
no_escape (HighBackslash n) c h = rw (no_char c 85 h (omega arith)) refl
no_escape Unit0 c h = rw (no_hex c h) refl
no_escape (Unit1 a) c h = rw (no_hex c h) refl
no_escape (Unit2 a b) c h = rw (no_hex c h) refl
no_escape (Unit3 a b d) c h = rw (no_hex c h) refl
no_escape (Low n) c h = rw (no_hex c h) refl
no_escape (Low1 n) c h = rw (no_hex c h) refl
no_escape (Low2 n b) c h = rw (no_hex c h) refl
no_escape (Low3 n b d) c h = rw (no_hex c h) refl

no_byte : (high c : ℕ) → 128 ≤ c → byte_of high c ≡ None
unfolding byte_of
no_byte high c h = rw (no_hex c h) (none (hex_value high))
  where
    none : (o : Option ℕ) → option_and_then (λ a. option_and_then (λ b. Some (a * 16 + b)) None) o
        ≡ None
    none None = refl
    none (Some a) = refl

-- in a string each is taken
abbrev TakesAll : Token → Reader → ℕ → Type 0
TakesAll token r place = (d : ℕ) → 128 ≤ d → (s : Reader) × (step_in r place d token ≡ Ok s)

string-takes : (r : Reader) (at place : ℕ) → TakesAll (Quoted at) r place
unfolding in_quoted
string-takes r at place d h = (
  record r { text = r.text ++ encode_utf8 d },
  rw
      (no_char d 34 h (omega arith), no_char d 92 h (omega arith)) refl,
)

beyond-step_in : (r : Reader) (place c : ℕ) (token : Token) → 128 ≤ c
    → IfOk (step_in r place c token) (λ s. TakesAll token r place)
unfolding in_word in_bytes in_half
beyond-step_in r place c Between h = no-between (λ s. TakesAll Between r place) r place c h
beyond-step_in r place c (Word at) h = never_ok (λ s. TakesAll (Word at) r place) (is_word c) _ _
    (no_word c h) (no-after (λ s. TakesAll (Word at) r place) (text_ended r at place) place c h)
beyond-step_in r place c (Quoted at) h = any_ok (step_in r place c (Quoted at))
  where
    any_ok : (d : Result Reader Refusal) → IfOk d (λ s. TakesAll (Quoted at) r place)
    any_ok (Ok s) = string-takes r at place
    any_ok (Err e) = tt
beyond-step_in r place c (Escape at backslash escape) h = rw (no_escape escape c h) tt
beyond-step_in r place c (Bytes at) h =
    never_ok (λ s. TakesAll (Bytes at) r place) (is_space c) _ _ (no_space c h)
    (never_ok (λ s. TakesAll (Bytes at) r place) (eqb c 62) _ _ (no_char c 62 h (omega arith))
    (rw (no_hex c h) tt))
beyond-step_in r place c (Half at high) h
    = never_ok (λ s. TakesAll (Half at high) r place) (is_space c) _ _ (no_space c h)
    (rw (no_byte high c h) tt)

beyond-step : (r s : Reader) (place c d : ℕ) → 128 ≤ c → 128 ≤ d → step r place c ≡ Ok s
    → (u : Reader) × (step r place d ≡ Ok u)
unfolding step
beyond-step r s place c d h k e = at_ok (λ u. TakesAll r.token r place) (step_in r place c r.token)
    s e (beyond-step_in r place c r.token h) d k

-- a front goes on with each character beyond ASCII, or with none
pub beyond-alike : (front : List ℕ) (c d : ℕ) → 128 ≤ c → 128 ≤ d → IsScalar d
    → CanGoOn (front ++ c ∷ []) → CanGoOn (front ++ d ∷ [])
beyond-alike front c d h k i g =
    let text : IsTextOf g.1 (front ++ c ∷ g.0)
    = subst (λ (x : List ℕ). IsTextOf g.1 x) (append_assoc front (c ∷ []) g.0) g.2 in
    let r = reached-front front (c ∷ g.0) g.1 text in
    let s = ok_bind (step r.0 (width front) c) (λ u. run u (width front + len_utf8 c) g.0)
    (tree_of g.1) (reached-tree front (c ∷ g.0) r.0 g.1 r.1 text) in
    let u = beyond-step r.0 s.0 (width front) c d h k s.1 in
    reached-goes_on (front ++ d ∷ []) u.0 (onward front r.0 u.0 d i r.1 u.1)
