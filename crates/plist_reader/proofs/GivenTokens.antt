-- What the reader makes of the characters that spell a token: spaces, words, quoted strings and
-- byte strings.
use Rattle.std.proofs.Common.{inl, inr, ◌≡◌, ℕ, ◌+◌, ◌<◌, ◌≤◌, Bool, true, false, eqb, leb, List}
use Rattle.std.proofs.Common.{[], ◌∷◌, ◌++◌, length, Ok, refl, sym, ap, ◌∙◌, arith, append_assoc}
use Rattle.std.specs.List.{AllByRecursion}
use Rattle.std.proofs.lemmas.List.{append-nil}
use Rattle.std.proofs.lemmas.Bool.{leb-true, ne_eqb, both_ways, and_parts, cases_Bool}
use Rattle.std.proofs.lemmas.Str.{encode_ascii, len_utf8_bounds}
use Rattle.std.specs.Char.{len_utf8}
use Rattle.plist_reader.specs.declared.tree.TreeNode.{TreeNode}
use Rattle.plist_reader.specs.declared.reader.Reader.{Reader}
use Rattle.plist_reader.specs.declared.reader.Phase.{Phase}
use Rattle.plist_reader.specs.declared.reader.Phase.TheVariants.{Value, Item, ItemEnd, Key, KeyEnd}
use Rattle.plist_reader.specs.declared.reader.Phase.TheVariants.{PairEnd, End}
use Rattle.plist_reader.specs.declared.reader.Token.{Token}
use Rattle.plist_reader.specs.declared.reader.Token.TheVariants.{Between, Word}
use Rattle.plist_reader.specs.declared.reader.Open.{Open}
use Rattle.plist_reader.specs.declared.reader.Open.TheVariants.{Items, Pairs}
use Rattle.plist_reader.specs.Characters.{is_space, is_word, is_between}
use Rattle.plist_reader.specs.Reading.{ended_in, text_begun, value_begun, between, in_word, step}
use Rattle.plist_reader.specs.Reading.{run}
use Rattle.plist_reader.specs.Grammar.{width, AreSpaces}
use Rattle.plist_reader.proofs.RunLemmas.{run_step}

-- ---- states

-- between two tokens
abbrev pub ready : List TreeNode → List Open → Phase → Reader
ready nodes brackets phase = record {
  nodes = nodes;
  brackets = brackets;
  phase = phase;
  token
      = Between;
  text = [];
  bytes = [];
}

-- in a token
abbrev pub in_token : List TreeNode → List Open → Phase → Token → List ℕ → List ℕ → Reader
in_token nodes brackets phase token text bytes
    = record {
      nodes = nodes;
      brackets = brackets;
      phase = phase;
      token = token;
      text = text;
      bytes
          = bytes;
    }

-- behind a value, which is the last of the nodes
abbrev pub settled : List TreeNode → List Open → ℕ → Reader
settled nodes brackets number = ended_in (ready nodes brackets Value) number brackets

pub settled_any : (nodes : List TreeNode) (brackets around : List Open) (phase : Phase) (number : ℕ)
    → ended_in (ready nodes brackets phase) number around
    ≡ ended_in (ready nodes brackets Value) number around
settled_any nodes brackets [] phase number = refl
settled_any nodes brackets (Items at items ∷ outer) phase number = refl
settled_any nodes brackets (Pairs d ∷ outer) phase number = refl

settled_in-between : (nodes : List TreeNode) (brackets around : List Open) (number : ℕ)
    → (ended_in (ready nodes brackets Value) number around).token ≡ Between
settled_in-between nodes brackets [] number = refl
settled_in-between nodes brackets (Items at items ∷ outer) number = refl
settled_in-between nodes brackets (Pairs d ∷ outer) number = refl

pub settled-between : (nodes : List TreeNode) (brackets : List Open) (number : ℕ)
    → (settled nodes brackets number).token ≡ Between
settled-between nodes brackets number = settled_in-between nodes brackets brackets number

pub run_same : (r s : Reader) (p q : ℕ) (rest : List ℕ) → r ≡ s → p ≡ q
    → run r p rest ≡ run s q rest
run_same r s p q rest e f = ap (λ x. run x p rest) e ∙ ap (λ x. run s x rest) f

pub width-append : (xs ys : List ℕ) → width (xs ++ ys) ≡ width xs + width ys
width-append [] ys = omega arith
width-append (x ∷ xs) ys = omega (arith, width-append xs ys)

-- each character takes a byte or more
pub width-long : (cs : List ℕ) → length cs ≤ width cs
width-long [] = omega arith
width-long (c ∷ cs) = omega (arith, width-long cs, len_utf8_bounds c)

-- ---- characters

-- a character with a property is none without it
pub unlike : (p : ℕ → Bool) (c k : ℕ) → p c ≡ true → p k ≡ false → eqb c k ≡ false
unlike p c k h g = ne_eqb c k (λ e. both_ways (p c) (ap p e ∙ g) h)

pub word-no_space : (c : ℕ) → is_word c ≡ true → is_space c ≡ false
unfolding is_space is_word
word-no_space c h = rw (
  unlike is_word c 32 h refl,
  unlike is_word c 9 h refl,
  unlike is_word c 13 h
      refl,
  unlike is_word c 10 h refl,
) refl

pub space-no_word : (c : ℕ) → is_space c ≡ true → is_word c ≡ false
space-no_word c h = elim (cases_Bool (is_word c))
    [ inl w ↦ absurd (both_ways (is_space c) (word-no_space c w) h) | inr n ↦ n ]

pub word-ascii : (c : ℕ) → is_word c ≡ true → c < 128
unfolding is_word
word-ascii c h = let e = and_parts (is_between 33 126 c) _ h
    in omega (arith, leb-true c 126 (and_parts (leb 33 c) (leb c 126) e.0).1)

-- ---- spaces

pub step-space : (r : Reader) (place c : ℕ) → r.token ≡ Between → is_space c ≡ true
    → step r place c ≡ Ok r
unfolding step between
step-space r place c e h = rw (e, h) refl

pub run-spaces : (gap : List ℕ) (r : Reader) (place : ℕ) (rest : List ℕ) → r.token ≡ Between
    → AreSpaces gap → run r place (gap ++ rest) ≡ run r (place + width gap) rest
run-spaces [] r place rest e h = run_same r r place (place + 0) rest refl (omega arith)
run-spaces (c ∷ cs) r place rest e h =
    run_step r r place c (cs ++ rest) (step-space r place c e h.0)
    ∙ run-spaces cs r (place + len_utf8 c) rest e h.1
    ∙ run_same r r (place + len_utf8 c + width cs) (place + (len_utf8 c + width cs)) rest refl
    (omega arith)

-- ---- words

-- a phase in which a text can begin, and one in which a value can
abbrev pub CanBegin : Phase → Type 0
CanBegin Value = Unit {0}
CanBegin Item = Unit {0}
CanBegin Key = Unit {0}
CanBegin ItemEnd = ⊥
CanBegin KeyEnd = ⊥
CanBegin PairEnd = ⊥
CanBegin (End n) = ⊥

abbrev pub IsAwaiting : Phase → Type 0
IsAwaiting Value = Unit {0}
IsAwaiting Item = Unit {0}
IsAwaiting Key = ⊥
IsAwaiting ItemEnd = ⊥
IsAwaiting KeyEnd = ⊥
IsAwaiting PairEnd = ⊥
IsAwaiting (End n) = ⊥

pub begin-from_awaiting : (phase : Phase) → IsAwaiting phase → CanBegin phase
begin-from_awaiting Value h = tt
begin-from_awaiting Item h = tt
begin-from_awaiting Key h = elim h [ ]
begin-from_awaiting ItemEnd h = elim h [ ]
begin-from_awaiting KeyEnd h = elim h [ ]
begin-from_awaiting PairEnd h = elim h [ ]
begin-from_awaiting (End n) h = elim h [ ]

not_word : (k : ℕ) (c : ℕ) → is_word c ≡ true → is_word k ≡ false → eqb c k ≡ false
not_word k c h g = unlike is_word c k h g

mark_no_word : (is_word 34 ≡ false) × (is_word 40 ≡ false) × (is_word 41 ≡ false)
    × (is_word 60 ≡ false) × (is_word 123 ≡ false) × (is_word 125 ≡ false)
unfolding is_word
mark_no_word = (refl, refl, refl, refl, refl, refl)

text_begun-word : (r : Reader) (place c : ℕ) → is_word c ≡ true
    → text_begun r place c ≡ Ok (record r { token = Word place; text = r.text ++ c ∷ [] })
unfolding text_begun
text_begun-word r place c w = rw (
  not_word 34 c w mark_no_word.0,
  w,
  encode_ascii c
      (word-ascii c w),
) refl

value_begun-word : (r : Reader) (place c : ℕ) → is_word c ≡ true
    → value_begun r place c ≡ Ok (record r { token = Word place; text = r.text ++ c ∷ [] })
unfolding value_begun
value_begun-word r place c w = rw (
  not_word 40 c w mark_no_word.1,
  not_word 123 c w mark_no_word.4,
  not_word 60 c w mark_no_word.3,
) (text_begun-word r place c w)

step-word_begun : (nodes : List TreeNode) (brackets : List Open) (phase : Phase) (place c : ℕ)
    → CanBegin phase → is_word c ≡ true
    → step (ready nodes brackets phase) place c
    ≡ Ok (in_token nodes brackets phase (Word place) (c ∷ []) [])
unfolding step between
step-word_begun nodes brackets Value place c h w
    = rw (word-no_space c w) (value_begun-word (ready nodes brackets Value) place c w)
step-word_begun nodes brackets Item place c h w
    = rw (word-no_space c w, not_word 41 c w mark_no_word.2)
    (value_begun-word (ready nodes brackets Item) place c w)
step-word_begun nodes brackets Key place c h w
    = rw (word-no_space c w, not_word 125 c w mark_no_word.5)
    (text_begun-word (ready nodes brackets Key) place c w)
step-word_begun nodes brackets ItemEnd place c h w = elim h [ ]
step-word_begun nodes brackets KeyEnd place c h w = elim h [ ]
step-word_begun nodes brackets PairEnd place c h w = elim h [ ]
step-word_begun nodes brackets (End n) place c h w = elim h [ ]

pub step-word : (nodes : List TreeNode) (brackets : List Open) (phase : Phase) (at place c : ℕ)
    (text : List ℕ) → is_word c ≡ true
    → step (in_token nodes brackets phase (Word at) text []) place c
    ≡ Ok (in_token nodes brackets phase (Word at) (text ++ c ∷ []) [])
unfolding step in_word
step-word nodes brackets phase at place c text w = rw (w, encode_ascii c (word-ascii c w)) refl

run-word_rest : (cs : List ℕ) (nodes : List TreeNode) (brackets : List Open) (phase : Phase)
    (at place : ℕ) (text rest : List ℕ) → AllByRecursion (λ c. is_word c ≡ true) cs
    → run (in_token nodes brackets phase (Word at) text []) place (cs ++ rest)
    ≡ run (in_token nodes brackets phase (Word at) (text ++ cs) []) (place + width cs) rest
run-word_rest [] nodes brackets phase at place text rest h
    = run_same _ _ _ _ rest (ap (λ t. in_token nodes brackets phase (Word at) t [])
    (sym (append-nil text))) (omega arith)
run-word_rest (c ∷ cs) nodes brackets phase at place text rest h =
    run_step _ _ place c (cs ++ rest) (step-word nodes brackets phase at place c text h.0)
    ∙ run-word_rest cs nodes brackets phase at (place + len_utf8 c) (text ++ c ∷ []) rest h.1
    ∙ run_same _ _ (place + len_utf8 c + width cs) (place + (len_utf8 c + width cs)) rest
    (ap (λ t. in_token nodes brackets phase (Word at) t []) (append_assoc text (c ∷ []) cs))
    (omega arith)

-- a whole word
pub run-word : (cs : List ℕ) (nodes : List TreeNode) (brackets : List Open) (phase : Phase)
    (place : ℕ) (rest : List ℕ) → CanBegin phase → 0 < length cs
    → AllByRecursion (λ c. is_word c ≡ true) cs
    → run (ready nodes brackets phase) place (cs ++ rest)
    ≡ run (in_token nodes brackets phase (Word place) cs []) (place + width cs) rest
run-word [] nodes brackets phase place rest b h w = absurd (omega (arith, h))
run-word (c ∷ cs) nodes brackets phase place rest b h w =
    run_step _ _ place c (cs ++ rest) (step-word_begun nodes brackets phase place c b w.0)
    ∙ run-word_rest cs nodes brackets phase place (place + len_utf8 c) (c ∷ []) rest w.1
    ∙ run_same _ _ (place + len_utf8 c + width cs) (place + (len_utf8 c + width cs)) rest refl
    (omega arith)
