-- Each step keeps what holds of a reader, and each tree that is given is one whose parts are among
-- its values.
use Rattle.std.proofs.Common.{◌≡◌, ℕ, ◌+◌, ◌-◌, ◌*◌, ◌<◌, ◌≤◌, Bool, true, false, cond, eqb, ltb}
use Rattle.std.proofs.Common.{leb, ◌&&◌, ◌||◌, List, [], ◌∷◌, ◌++◌, length, Option, Some, None}
use Rattle.std.proofs.Common.{Result, Ok, Err, refl, ap, arith, IfOk}
use Rattle.std.specs.List.{AllByRecursion}
use Rattle.std.proofs.lemmas.List.{length_push, length-append}
use Rattle.std.proofs.lemmas.List.Elements.{All-weaker, All-nil}
use Rattle.std.proofs.lemmas.Str.{length-encode, len_utf8_bounds, encodes-chars}
use Rattle.std.proofs.lemmas.Str.{IsUtf8-from_is_utf8}
use Rattle.std.specs.Char.{len_utf8}
use Rattle.std.specs.Str.{encode_utf8_all, is_utf8, chars}
use Rattle.std.specs.Str.Lossy.{utf8_valid_len}
use lib.Utf8.{encode, scalar}
use Rattle.refusal_codes.specs.declared.refusal.Refusal.{Refusal}
use Rattle.refusal_codes.specs.declared.rule.Rule.TheVariants.{NotUtf8}
use Rattle.plist_reader.specs.declared.tree.TreeNode.{TreeNode}
use Rattle.plist_reader.specs.declared.tree.TreeValue.{TreeValue}
use Rattle.plist_reader.specs.declared.tree.TreeValue.TheVariants as tree
use Rattle.plist_reader.specs.declared.reader.Reader.{Reader}
use Rattle.plist_reader.specs.declared.reader.Phase.{Phase}
use Rattle.plist_reader.specs.declared.reader.Phase.TheVariants.{Value, Item, ItemEnd, Key, KeyEnd}
use Rattle.plist_reader.specs.declared.reader.Phase.TheVariants.{PairEnd, End}
use Rattle.plist_reader.specs.declared.reader.Token.{Token}
use Rattle.plist_reader.specs.declared.reader.Token.TheVariants.{Between, Word, Quoted, Escape}
use Rattle.plist_reader.specs.declared.reader.Token.TheVariants.{Bytes, Half}
use Rattle.plist_reader.specs.declared.reader.Open.{Open}
use Rattle.plist_reader.specs.declared.reader.Open.TheVariants.{Items, Pairs}
use Rattle.plist_reader.specs.declared.escape.Escape.{Escape as EscapeState}
use Rattle.plist_reader.specs.declared.escape.Escape.TheVariants.{Begun, Octal, Octals, Unit0}
use Rattle.plist_reader.specs.declared.escape.Escape.TheVariants.{Unit1, Unit2, Unit3, High}
use Rattle.plist_reader.specs.declared.escape.Escape.TheVariants.{HighBackslash, Low, Low1, Low2}
use Rattle.plist_reader.specs.declared.escape.Escape.TheVariants.{Low3}
use Rattle.plist_reader.specs.declared.escape.Escaped.{Escaped}
use Rattle.plist_reader.specs.declared.escape.Escaped.TheVariants.{More, Whole, Wrong}
use Rattle.plist_reader.specs.Tree.{IsTree, IsValue, source_limit}
use Rattle.plist_reader.specs.Characters.{is_space, is_word, octal_value, hex_value, byte_of}
use Rattle.plist_reader.specs.Escapes.{character_of, escape_begun, escape_unit, escape_digit}
use Rattle.plist_reader.specs.Escapes.{with_hex, with_octal, with_last_octal, escape_next}
use Rattle.plist_reader.specs.Keys.{is_among}
use Rattle.plist_reader.specs.Refusals.{refusal}
use Rattle.refusal_codes.specs.Gives.{◌>>=◌}
use Rattle.plist_reader.specs.Reading.{start, is_key, is_bracket, max_depth, key_ended_in}
use Rattle.plist_reader.specs.Reading.{key_ended, text_ended, text_begun, list_opened}
use Rattle.plist_reader.specs.Reading.{dictionary_opened, bracket_opened, value_begun}
use Rattle.plist_reader.specs.Reading.{list_closed_in, list_closed, dictionary_closed_in}
use Rattle.plist_reader.specs.Reading.{dictionary_closed, awaited, between, in_word, in_quoted}
use Rattle.plist_reader.specs.Reading.{after_escape, after_half, after_hex, in_bytes, in_half}
use Rattle.plist_reader.specs.Reading.{step_in, step, whole_in, whole, finish_in, finish, run}
use Rattle.plist_reader.specs.Reading.{read_of}
use Rattle.plist_reader.proofs.SoundLemmas.{token_weight, escape_weight, text_weight, IsValueBy}
use Rattle.plist_reader.proofs.SoundLemmas.{IsOpenBy, IsPhaseBy, Inside, Sound, open_more}
use Rattle.plist_reader.proofs.SoundLemmas.{Inside-later, Sound-later, nodes_more}
use Rattle.plist_reader.proofs.SoundLemmas.{value_ended-sound}

-- ---- choices

if_ok-cond : {A E : Type 0} (P : A → Type 0) (b : Bool) (x y : Result A E) → IfOk x P → IfOk y P
    → IfOk (cond b x y) P
if_ok-cond P true x y h k = h
if_ok-cond P false x y h k = k

holds-cond : {A : Type 0} (P : A → Type 0) (b : Bool) (x y : A) → P x → P y → P (cond b x y)
holds-cond P true x y h k = h
holds-cond P false x y h k = k

if_ok-bind : {A B : Type 0} (P : A → Type 0) (Q : B → Type 0) (d : Result A Refusal)
    (f : A → Result B Refusal) → IfOk d P → ((x : A) → P x → IfOk (f x) Q) → IfOk (d >>= f) Q
if_ok-bind P Q (Ok x) f h k = k x h
if_ok-bind P Q (Err e) f h k = tt

-- ---- escapes

abbrev Weighs : ℕ → Escaped → Type 0
Weighs n (More escape) = escape_weight escape ≤ n
Weighs n (Whole character) = len_utf8 character ≤ n
Weighs n Wrong = Unit {0}

character_of-weighs : (n code : ℕ) → 4 ≤ n → Weighs n (character_of code)
unfolding character_of
character_of-weighs n code h = holds-cond (Weighs n) (scalar code) (Whole code) Wrong
    (omega (arith, len_utf8_bounds code)) tt

escape_begun-weighs : (n c : ℕ) → 2 ≤ n → len_utf8 c ≤ n → Weighs n (escape_begun c)
unfolding escape_begun
escape_begun-weighs n c h k =
    let W = λ (e : Escaped). Weighs n e in
    holds-cond W (eqb c 34 || eqb c 92) _ _ k
    (holds-cond W (eqb c 110) _ _ (omega arith)
    (holds-cond W (eqb c 114) _ _ (omega arith)
    (holds-cond W (eqb c 116) _ _ (omega arith)
    (holds-cond W (eqb c 48) _ _ (omega arith)
    (holds-cond W (eqb c 49) _ _ (omega arith)
    (holds-cond W (eqb c 85) _ _ (omega arith) tt))))))

escape_unit-weighs : (n a b c d : ℕ) → 6 ≤ n → Weighs n (escape_unit a b c d)
unfolding escape_unit
escape_unit-weighs n a b c d h = let u = a * 4096 + b * 256 + c * 16 + d in
    holds-cond (Weighs n) (leb 0xD800 u && ltb u 0xDC00) _ _ (omega arith)
    (character_of-weighs n u (omega arith))

escape_digit-weighs : (n : ℕ) (e : EscapeState) (d : ℕ) → escape_weight e + 1 ≤ n
    → Weighs n (escape_digit e d)
unfolding escape_digit
escape_digit-weighs n Unit0 d h = omega arith
escape_digit-weighs n (Unit1 a) d h = holds-cond (Weighs n) (eqb a 13 && leb 12 d) _ _ tt
    (omega arith)
escape_digit-weighs n (Unit2 a b) d h = omega arith
escape_digit-weighs n (Unit3 a b c) d h = escape_unit-weighs n a b c d (omega arith)
escape_digit-weighs n (Low high) d h = holds-cond (Weighs n) (eqb d 13) _ _ (omega arith) tt
escape_digit-weighs n (Low1 high) d h = holds-cond (Weighs n) (leb 12 d) _ _ (omega arith) tt
escape_digit-weighs n (Low2 high b) d h = omega arith
escape_digit-weighs n (Low3 high b c) d h = character_of-weighs n _ (omega arith)
escape_digit-weighs n Begun d h = tt
escape_digit-weighs n (Octal a) d h = tt
escape_digit-weighs n (Octals a b) d h = tt
escape_digit-weighs n (High high) d h = tt
escape_digit-weighs n (HighBackslash high) d h = tt

with_hex-weighs : (n : ℕ) (e : EscapeState) (o : Option ℕ) → escape_weight e + 1 ≤ n
    → Weighs n (with_hex e o)
with_hex-weighs n e None h = tt
with_hex-weighs n e (Some d) h = escape_digit-weighs n e d h

with_octal-weighs : (n a : ℕ) (o : Option ℕ) → 3 ≤ n → Weighs n (with_octal a o)
with_octal-weighs n a None h = tt
with_octal-weighs n a (Some b) h = h

with_last_octal-weighs : (n a b : ℕ) (o : Option ℕ) → 4 ≤ n → Weighs n (with_last_octal a b o)
with_last_octal-weighs n a b None h = tt
with_last_octal-weighs n a b (Some c) h = character_of-weighs n _ h

-- an escape grows by one character, and stands for one that is no longer
escape_next-weighs : (n : ℕ) (e : EscapeState) (c : ℕ) → escape_weight e + len_utf8 c ≤ n
    → Weighs n (escape_next e c)
unfolding escape_next
escape_next-weighs n Begun c h = escape_begun-weighs n c (omega (arith, len_utf8_bounds c))
    (omega arith)
escape_next-weighs n (Octal a) c h = with_octal-weighs n a (octal_value c)
    (omega (arith, len_utf8_bounds c))
escape_next-weighs n (Octals a b) c h = with_last_octal-weighs n a b (octal_value c)
    (omega (arith, len_utf8_bounds c))
escape_next-weighs n (High high) c h = holds-cond (Weighs n) (eqb c 92) _ _
    (omega (arith, len_utf8_bounds c)) tt
escape_next-weighs n (HighBackslash high) c h
    = holds-cond (Weighs n) (eqb c 85) _ _ (omega (arith, len_utf8_bounds c)) tt
escape_next-weighs n Unit0 c h = with_hex-weighs n Unit0 (hex_value c)
    (omega (arith, len_utf8_bounds c))
escape_next-weighs n (Unit1 a) c h = with_hex-weighs n (Unit1 a) (hex_value c)
    (omega (arith, len_utf8_bounds c))
escape_next-weighs n (Unit2 a b) c h = with_hex-weighs n (Unit2 a b) (hex_value c)
    (omega (arith, len_utf8_bounds c))
escape_next-weighs n (Unit3 a b d) c h = with_hex-weighs n (Unit3 a b d) (hex_value c)
    (omega (arith, len_utf8_bounds c))
escape_next-weighs n (Low high) c h = with_hex-weighs n (Low high) (hex_value c)
    (omega (arith, len_utf8_bounds c))
escape_next-weighs n (Low1 high) c h = with_hex-weighs n (Low1 high) (hex_value c)
    (omega (arith, len_utf8_bounds c))
escape_next-weighs n (Low2 high b) c h = with_hex-weighs n (Low2 high b) (hex_value c)
    (omega (arith, len_utf8_bounds c))
escape_next-weighs n (Low3 high b d) c h
    = with_hex-weighs n (Low3 high b d) (hex_value c) (omega (arith, len_utf8_bounds c))

-- ---- texts that end

key_ended_in-sound : (r : Reader) (at end place : ℕ) (text : List ℕ) (brackets : List Open)
    → brackets ≡ r.brackets → AllByRecursion (IsOpenBy (length r.nodes)) brackets
    → Inside r place → length text ≤ place
    → length r.nodes + 1 + length r.brackets + token_weight r.token ≤ place
    → length r.text + text_weight r.token ≤ place → length r.bytes ≤ place
    → IfOk (key_ended_in r at end text brackets) (λ s. Sound s place)
key_ended_in-sound r at end place text [] e o i t count tx b = tt
key_ended_in-sound r at end place text (Items p items ∷ outer) e o i t count tx b = tt
key_ended_in-sound r at end place text (Pairs d ∷ outer) e o i t count tx b =
    let node : TreeNode = record { place = at; end = end; value = tree.Text text } in
    let long : length (r.nodes ++ node ∷ []) ≡ length r.nodes + 1 = length_push r.nodes node in
    let m = length (r.nodes ++ node ∷ []) in
    if_ok-cond (λ s. Sound s place) (is_among text d.keys) _ _ tt
    (record {
      count = omega (arith, long, ap length e, count);
      text = tx;
      bytes = b;
      inside = record {
        nodes = nodes_more r.nodes at end place (tree.Text text) i.nodes t;
        brackets = (
          (
            omega (arith, o.0.0),
            omega arith,
            All-weaker (λ pair. (pair.0 < length r.nodes) × (pair.1 < length r.nodes))
                (λ pair. (pair.0 < m) × (pair.1 < m))
                (λ pair q. (omega (arith, q.0), omega (arith, q.1))) d.pairs o.0.2,
          ),
          open_more (length r.nodes) m outer (omega arith) o.1,
        );
        phase = tt;
      };
    })

text_ended-sound : (r : Reader) (at end place : ℕ) → Inside r place → length r.text ≤ place
    → length r.nodes + 1 + length r.brackets ≤ place → length r.bytes ≤ place
    → IfOk (text_ended r at end) (λ s. Sound s place)
unfolding text_ended key_ended
text_ended-sound r at end place i t count b =
    let s : Reader = record r { token = Between; text = [] } in
    let inside : Inside s place = record { nodes = i.nodes; brackets = i.brackets; phase = i.phase }
    in
    if_ok-cond (λ s. Sound s place) (is_key r.phase) _ _
    (key_ended_in-sound s at end place r.text r.brackets refl i.brackets inside t (omega arith)
    (omega arith) b)
    (value_ended-sound s at end place (tree.Text r.text) inside t (omega arith) (omega arith) b)

-- ---- between tokens

text_begun-sound : (r : Reader) (place c : ℕ) → Sound r place
    → IfOk (text_begun r place c) (λ s. Sound s (place + len_utf8 c))
unfolding text_begun
text_begun-sound r place c h =
    let q = place + len_utf8 c in
    let l : 1 ≤ len_utf8 c = (len_utf8_bounds c).0 in
    let P = λ (s : Reader). Sound s q in
    let i = Inside-later r place q (omega arith) h.inside in
    if_ok-cond P (eqb c 34) _ _
    (record {
      count = omega (arith, h.count);
      text = omega (arith, h.text);
      bytes
          = omega (arith, h.bytes);
      inside = record
          { nodes = i.nodes; brackets = i.brackets; phase = i.phase };
    })
    (if_ok-cond P (is_word c) _ _
    (record {
      count = omega (arith, h.count);
      text
          = omega (arith, h.text, length-append r.text (encode c), length-encode c);
      bytes
          = omega (arith, h.bytes);
      inside = record
          { nodes = i.nodes; brackets = i.brackets; phase = i.phase };
    })
    tt)

bracket_opened-sound : (r : Reader) (place c : ℕ) → Sound r place
    → IfOk (bracket_opened r place c) (λ s. Sound s (place + len_utf8 c))
unfolding bracket_opened
bracket_opened-sound r place c h =
    let q = place + len_utf8 c in
    let l : 1 ≤ len_utf8 c = (len_utf8_bounds c).0 in
    let P = λ (s : Reader). Sound s q in
    let i = Inside-later r place q (omega arith) h.inside in
    if_ok-cond P (ltb (length r.brackets) max_depth) _ _
    (holds-cond P (eqb c 40) (list_opened r place) (dictionary_opened r place)
    (record {
      count = omega (arith, h.count);
      text = omega (arith, h.text);
      bytes
          = omega (arith, h.bytes);
      inside = record {
        nodes = i.nodes;
        brackets = (
          (omega arith, All-nil (λ n. n < length r.nodes)),
          i.brackets,
        );
        phase = tt;
      };
    })
    (record {
      count = omega (arith, h.count);
      text = omega (arith, h.text);
      bytes
          = omega (arith, h.bytes);
      inside = record {
        nodes = i.nodes;
        brackets = (
          (
            omega arith,
            omega arith,
            All-nil
                (λ pair. (pair.0 < length r.nodes) × (pair.1 < length r.nodes)),
          ),
          i.brackets,
        );
        phase = tt;
      };
    }))
    tt

value_begun-sound : (r : Reader) (place c : ℕ) → Sound r place
    → IfOk (value_begun r place c) (λ s. Sound s (place + len_utf8 c))
unfolding value_begun
value_begun-sound r place c h =
    let q = place + len_utf8 c in
    let l : 1 ≤ len_utf8 c = (len_utf8_bounds c).0 in
    let P = λ (s : Reader). Sound s q in
    let i = Inside-later r place q (omega arith) h.inside in
    if_ok-cond P (is_bracket c) _ _ (bracket_opened-sound r place c h)
    (if_ok-cond P (eqb c 60) _ _
    (record {
      count = omega (arith, h.count);
      text = omega (arith, h.text);
      bytes
          = omega (arith, h.bytes);
      inside = record
          { nodes = i.nodes; brackets = i.brackets; phase = i.phase };
    })
    (text_begun-sound r place c h))

list_closed_in-sound : (r : Reader) (place q : ℕ) (brackets : List Open) → brackets ≡ r.brackets
    → AllByRecursion (IsOpenBy (length r.nodes)) brackets → Sound r place
    → place + 1 ≤ q → IfOk (list_closed_in r place brackets) (λ s. Sound s q)
list_closed_in-sound r place q [] e o h g = tt
list_closed_in-sound r place q (Pairs d ∷ outer) e o h g = tt
list_closed_in-sound r place q (Items at items ∷ outer) e o h g =
    let s : Reader = record r { brackets = outer } in
    let i = Inside-later r place q (omega arith) h.inside in
    value_ended-sound s at (place + 1) q (tree.Items items)
    (record { nodes = i.nodes; brackets = o.1; phase = i.phase })
    (omega (arith, o.0.0, h.count), o.0.1)
    (omega (arith, h.count, ap length e)) (omega (arith, h.text)) (omega (arith, h.bytes))

dictionary_closed_in-sound : (r : Reader) (place q : ℕ) (brackets : List Open)
    → brackets ≡ r.brackets → AllByRecursion (IsOpenBy (length r.nodes)) brackets → Sound r place
    → place + 1 ≤ q → IfOk (dictionary_closed_in r place brackets) (λ s. Sound s q)
dictionary_closed_in-sound r place q [] e o h g = tt
dictionary_closed_in-sound r place q (Items at items ∷ outer) e o h g = tt
dictionary_closed_in-sound r place q (Pairs d ∷ outer) e o h g =
    let s : Reader = record r { brackets = outer } in
    let i = Inside-later r place q (omega arith) h.inside in
    value_ended-sound s d.place (place + 1) q (tree.Pairs d.pairs)
    (record { nodes = i.nodes; brackets = o.1; phase = i.phase })
    (omega (arith, o.0.0, h.count), o.0.2)
    (omega (arith, h.count, ap length e)) (omega (arith, h.text)) (omega (arith, h.bytes))

with_phase-sound : (r : Reader) (phase : Phase) (place q : ℕ) → IsPhaseBy (length r.nodes) phase
    → place ≤ q → Sound r place → Sound (record r { phase = phase }) q
with_phase-sound r phase place q p g h =
    let i = Inside-later r place q g h.inside in
    record {
      count = omega (arith, h.count);
      text = omega (arith, h.text);
      bytes
          = omega (arith, h.bytes);
      inside = record
          { nodes = i.nodes; brackets = i.brackets; phase = p };
    }

awaited-sound : (r : Reader) (place c : ℕ) (phase : Phase) → Sound r place
    → IfOk (awaited r place c phase) (λ s. Sound s (place + len_utf8 c))
unfolding list_closed dictionary_closed
awaited-sound r place c Value h = value_begun-sound r place c h
awaited-sound r place c Item h = let P = λ (s : Reader). Sound s (place + len_utf8 c) in
    if_ok-cond P (eqb c 41) _ _ (list_closed_in-sound r place (place + len_utf8 c) r.brackets refl
    h.inside.brackets h (omega (arith, len_utf8_bounds c))) (value_begun-sound r place c h)
awaited-sound r place c ItemEnd h = let P = λ (s : Reader). Sound s (place + len_utf8 c) in
    if_ok-cond P (eqb c 41) _ _ (list_closed_in-sound r place (place + len_utf8 c) r.brackets refl
    h.inside.brackets h (omega (arith, len_utf8_bounds c)))
    (if_ok-cond P (eqb c 44) _ _ (with_phase-sound r Item place (place + len_utf8 c) tt
    (omega arith) h) tt)
awaited-sound r place c Key h = let P = λ (s : Reader). Sound s (place + len_utf8 c) in
    if_ok-cond P (eqb c 125) _ _ (dictionary_closed_in-sound r place (place + len_utf8 c) r.brackets
    refl h.inside.brackets h (omega (arith, len_utf8_bounds c))) (text_begun-sound r place c h)
awaited-sound r place c KeyEnd h = let P = λ (s : Reader). Sound s (place + len_utf8 c) in
    if_ok-cond P (eqb c 61) _ _ (with_phase-sound r Value place (place + len_utf8 c) tt
    (omega arith) h) tt
awaited-sound r place c PairEnd h = let P = λ (s : Reader). Sound s (place + len_utf8 c) in
    if_ok-cond P (eqb c 59) _ _ (with_phase-sound r Key place (place + len_utf8 c) tt (omega arith)
    h) tt
awaited-sound r place c (End number) h = tt

between-sound : (r : Reader) (place c : ℕ) → Sound r place
    → IfOk (between r place c) (λ s. Sound s (place + len_utf8 c))
unfolding between
between-sound r place c h = if_ok-cond (λ s. Sound s (place + len_utf8 c)) (is_space c) _ _
    (Sound-later r place (place + len_utf8 c) (omega arith) h) (awaited-sound r place c r.phase h)

-- ---- in tokens

in_word-sound : (r : Reader) (at place c : ℕ) → r.token ≡ Word at → Sound r place
    → IfOk (in_word r at place c) (λ s. Sound s (place + len_utf8 c))
unfolding in_word
in_word-sound r at place c e h =
    let q = place + len_utf8 c in
    let P = λ (s : Reader). Sound s q in
    let i = Inside-later r place q (omega arith) h.inside in
    if_ok-cond P (is_word c) _ _
    (record {
      count = omega (arith, h.count);
      text
          = omega (arith, h.text, length-append r.text (encode c), length-encode c);
      bytes
          = omega (arith, h.bytes);
      inside = record
          { nodes = i.nodes; brackets = i.brackets; phase = i.phase };
    })
    (if_ok-bind (λ s. Sound s place) P (text_ended r at place) (λ s. between s place c)
    (text_ended-sound r at place place h.inside (omega (arith, h.text))
    (omega (arith, h.count, ap token_weight e)) h.bytes)
    (λ s k. between-sound s place c k))

in_quoted-sound : (r : Reader) (at place c : ℕ) → r.token ≡ Quoted at → Sound r place
    → IfOk (in_quoted r at place c) (λ s. Sound s (place + len_utf8 c))
unfolding in_quoted
in_quoted-sound r at place c e h =
    let q = place + len_utf8 c in
    let l : 1 ≤ len_utf8 c = (len_utf8_bounds c).0 in
    let P = λ (s : Reader). Sound s q in
    let i = Inside-later r place q (omega arith) h.inside in
    if_ok-cond P (eqb c 34) _ _
    (text_ended-sound r at (place + 1) q i (omega (arith, h.text))
    (omega (arith, h.count, ap token_weight e)) (omega (arith, h.bytes)))
    (if_ok-cond P (eqb c 92) _ _
    (record {
      count = omega (arith, h.count, ap token_weight e);
      text = omega (arith, h.text);
      bytes
          = omega (arith, h.bytes);
      inside = record
          { nodes = i.nodes; brackets = i.brackets; phase = i.phase };
    })
    (record {
      count = omega (arith, h.count);
      text
          = omega (arith, h.text, length-append r.text (encode c), length-encode c);
      bytes
          = omega (arith, h.bytes);
      inside = record
          { nodes = i.nodes; brackets = i.brackets; phase = i.phase };
    }))

after_escape-sound : (r : Reader) (at backslash place q : ℕ) (escape : EscapeState)
    (escaped : Escaped) → r.token ≡ Escape at backslash escape
    → Weighs (escape_weight escape + (q - place)) escaped → place ≤ q → Sound r place
    → IfOk (after_escape r at backslash escaped) (λ s. Sound s q)
after_escape-sound r at backslash place q escape (More next) e w g h =
    let i = Inside-later r place q g h.inside in
    record {
      count = omega (arith, h.count, ap token_weight e);
      text
          = omega (arith, h.text, ap text_weight e, w);
      bytes = omega (arith, h.bytes);
      inside
          = record { nodes = i.nodes; brackets = i.brackets; phase = i.phase };
    }
after_escape-sound r at backslash place q escape (Whole character) e w g h =
    let i = Inside-later r place q g h.inside in
    record {
      count = omega (arith, h.count, ap token_weight e);
      text
          = omega (
            arith,
            h.text,
            ap text_weight e,
            w,
            length-append r.text (encode character),
            length-encode character,
          );
      bytes = omega (arith, h.bytes);
      inside
          = record { nodes = i.nodes; brackets = i.brackets; phase = i.phase };
    }
after_escape-sound r at backslash place q escape Wrong e w g h = tt

after_hex-sound : (r : Reader) (at place c q : ℕ) (digit : Option ℕ) → r.token ≡ Bytes at
    → place ≤ q → Sound r place → IfOk (after_hex r at place c digit) (λ s. Sound s q)
after_hex-sound r at place c q None e g h = tt
after_hex-sound r at place c q (Some digit) e g h =
    let i = Inside-later r place q g h.inside in
    record {
      count = omega (arith, h.count, ap token_weight e);
      text = omega (arith, h.text);
      bytes
          = omega (arith, h.bytes);
      inside = record
          { nodes = i.nodes; brackets = i.brackets; phase = i.phase };
    }

after_half-sound : (r : Reader) (at high place c q : ℕ) (byte : Option ℕ) → r.token ≡ Half at high
    → place + 1 ≤ q → Sound r place → IfOk (after_half r at place c byte) (λ s. Sound s q)
after_half-sound r at high place c q None e g h = tt
after_half-sound r at high place c q (Some byte) e g h =
    let i = Inside-later r place q (omega arith) h.inside in
    record {
      count = omega (arith, h.count, ap token_weight e);
      text = omega (arith, h.text);
      bytes
          = omega (arith, h.bytes, length_push r.bytes byte);
      inside
          = record { nodes = i.nodes; brackets = i.brackets; phase = i.phase };
    }

in_bytes-sound : (r : Reader) (at place c : ℕ) → r.token ≡ Bytes at → Sound r place
    → IfOk (in_bytes r at place c) (λ s. Sound s (place + len_utf8 c))
unfolding in_bytes
in_bytes-sound r at place c e h =
    let q = place + len_utf8 c in
    let P = λ (s : Reader). Sound s q in
    let i = Inside-later r place q (omega arith) h.inside in
    let s : Reader = record r { token = Between; bytes = [] } in
    if_ok-cond P (is_space c) _ _ (Sound-later r place q (omega arith) h)
    (if_ok-cond P (eqb c 62) _ _
    (value_ended-sound s at (place + 1) q (tree.Bytes r.bytes)
    (record { nodes = i.nodes; brackets = i.brackets; phase = i.phase })
    (omega (arith, h.bytes)) (omega (arith, h.count, ap token_weight e)) (omega (arith, h.text))
    (omega arith))
    (after_hex-sound r at place c q (hex_value c) e (omega arith) h))

in_half-sound : (r : Reader) (at high place c : ℕ) → r.token ≡ Half at high → Sound r place
    → IfOk (in_half r at high place c) (λ s. Sound s (place + len_utf8 c))
unfolding in_half
in_half-sound r at high place c e h =
    let q = place + len_utf8 c in
    if_ok-cond (λ s. Sound s q) (is_space c) _ _ (Sound-later r place q (omega arith) h)
    (after_half-sound r at high place c q (byte_of high c) e (omega (arith, len_utf8_bounds c)) h)

step_in-sound : (r : Reader) (place c : ℕ) (token : Token) → r.token ≡ token → Sound r place
    → IfOk (step_in r place c token) (λ s. Sound s (place + len_utf8 c))
step_in-sound r place c Between e h = between-sound r place c h
step_in-sound r place c (Word at) e h = in_word-sound r at place c e h
step_in-sound r place c (Quoted at) e h = in_quoted-sound r at place c e h
step_in-sound r place c (Escape at backslash escape) e h =
    after_escape-sound r at backslash place (place + len_utf8 c) escape (escape_next escape c) e
    (escape_next-weighs _ escape c (omega arith)) (omega arith) h
step_in-sound r place c (Bytes at) e h = in_bytes-sound r at place c e h
step_in-sound r place c (Half at high) e h = in_half-sound r at high place c e h

step-sound : (r : Reader) (place c : ℕ) → Sound r place
    → IfOk (step r place c) (λ s. Sound s (place + len_utf8 c))
unfolding step
step-sound r place c h = step_in-sound r place c r.token refl h

-- ---- whole texts

IsValue-from : (count limit : ℕ) (value : TreeValue) → limit ≤ source_limit
    → IsValueBy count limit value → IsValue count value
IsValue-from count limit (tree.Text bytes) g v = omega (arith, v)
IsValue-from count limit (tree.Bytes bytes) g v = omega (arith, v)
IsValue-from count limit (tree.Items items) g v = (omega (arith, v.0), v.1)
IsValue-from count limit (tree.Pairs pairs) g v = (omega (arith, v.0), v.1)

whole_in-sound : (r : Reader) (place end : ℕ) (phase : Phase) → IsPhaseBy (length r.nodes) phase
    → place ≤ source_limit → Sound r place → IfOk (whole_in r end phase) IsTree
whole_in-sound r place end (End number) p g h = record {
  few = omega (arith, h.count);
  top = p;
  values = All-weaker (λ node. IsValueBy (length r.nodes) place node.value)
      (λ node. IsValue (length r.nodes) node.value)
      (λ node v. IsValue-from (length r.nodes) place node.value g v) r.nodes h.inside.nodes;
}
whole_in-sound r place end Value p g h = tt
whole_in-sound r place end Item p g h = tt
whole_in-sound r place end ItemEnd p g h = tt
whole_in-sound r place end Key p g h = tt
whole_in-sound r place end KeyEnd p g h = tt
whole_in-sound r place end PairEnd p g h = tt

whole-sound : (r : Reader) (place end : ℕ) → place ≤ source_limit → Sound r place
    → IfOk (whole r end) IsTree
unfolding whole
whole-sound r place end g h = whole_in-sound r place end r.phase h.inside.phase g h

finish_in-sound : (r : Reader) (place end : ℕ) (token : Token) → r.token ≡ token
    → place ≤ source_limit → Sound r place → IfOk (finish_in r end token) IsTree
finish_in-sound r place end Between e g h = whole-sound r place end g h
finish_in-sound r place end (Word at) e g h = if_ok-cond IsTree (eqb (length r.brackets) 0) _ _
    (if_ok-bind (λ s. Sound s place) IsTree (text_ended r at end) (λ s. whole s end)
    (text_ended-sound r at end place h.inside (omega (arith, h.text))
    (omega (arith, h.count, ap token_weight e)) h.bytes)
    (λ s k. whole-sound s place end g k))
    tt
finish_in-sound r place end (Quoted at) e g h = tt
finish_in-sound r place end (Escape at backslash escape) e g h = tt
finish_in-sound r place end (Bytes at) e g h = tt
finish_in-sound r place end (Half at high) e g h = tt

finish-sound : (r : Reader) (place : ℕ) → place ≤ source_limit → Sound r place
    → IfOk (finish r place) IsTree
unfolding finish
finish-sound r place g h = finish_in-sound r place place r.token refl g h

run-sound : (cs : List ℕ) (r : Reader) (place : ℕ)
    → place + length (encode_utf8_all cs) ≤ source_limit → Sound r place
    → IfOk (run r place cs) IsTree
run-sound [] r place g h = finish-sound r place (omega arith) h
run-sound (c ∷ cs) r place g h = if_ok-bind (λ s. Sound s (place + len_utf8 c)) IsTree
    (step r place c) (λ s. run s (place + len_utf8 c) cs) (step-sound r place c h)
    (λ s k. run-sound cs s (place + len_utf8 c)
    (omega (arith, g, length-append (encode c) (encode_utf8_all cs), length-encode c)) k)

start-sound : Sound start 0
unfolding start
start-sound = record {
  count = omega arith;
  text = omega arith;
  bytes = omega arith;
  inside
      = record { nodes = All-nil (λ node. IsValueBy 0 0 node.value); brackets = tt; phase = tt };
}

read_of-sound_if : (source : List ℕ) (b : Bool) → is_utf8 source ≡ b → length source ≤ source_limit
    → IfOk (cond b (run start 0 (chars source)) (Err (refusal NotUtf8 (utf8_valid_len source))))
    IsTree
read_of-sound_if source true e g = run-sound (chars source) start 0
    (omega (arith, g, ap length (encodes-chars source (IsUtf8-from_is_utf8 source e)))) start-sound
read_of-sound_if source false e g = tt

-- what a source gives is a tree
pub read_of-sound : (source : List ℕ) → length source ≤ source_limit → IfOk (read_of source) IsTree
unfolding read_of
read_of-sound source g = read_of-sound_if source (is_utf8 source) refl g
