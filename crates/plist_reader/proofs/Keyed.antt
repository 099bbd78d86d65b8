-- Which keys an open dictionary has: each is the text of a value that is the key of a pair, or of
-- the last key.
use Rattle.std.proofs.Common.{inl, inr, ◌≡◌, ℕ, suc, zero, ◌+◌, Bool, true, false, ◌||◌, List, []}
use Rattle.std.proofs.Common.{◌∷◌, ◌++◌, length, Option, Some, None, refl, sym, subst, ◌∙◌}
use Rattle.std.specs.Prelude.{nat_eq, option_and_then, slice_get, ◌⊎◌}
use Rattle.std.specs.Cmp.Lexicographic.{pointwise}
use Rattle.std.specs.List.{AllByRecursion, list_any}
use Rattle.std.proofs.lemmas.Bool.{eq-eqb, eqb-true, false≢true, and_parts, or_cases}
use Rattle.std.proofs.lemmas.List.Folds.{list_any-append}
use Rattle.plist_reader.specs.declared.tree.TreeNode.{TreeNode}
use Rattle.plist_reader.specs.declared.tree.TreeValue.TheVariants as tree
use Rattle.plist_reader.specs.declared.reader.Reader.{Reader}
use Rattle.plist_reader.specs.declared.reader.Dictionary.{Dictionary}
use Rattle.plist_reader.specs.declared.reader.Phase.{Phase}
use Rattle.plist_reader.specs.declared.reader.Phase.TheVariants.{Value, Item, ItemEnd, Key, KeyEnd}
use Rattle.plist_reader.specs.declared.reader.Phase.TheVariants.{PairEnd, End}
use Rattle.plist_reader.specs.declared.reader.Token.{Token}
use Rattle.plist_reader.specs.declared.reader.Open.{Open}
use Rattle.plist_reader.specs.declared.reader.Open.TheVariants.{Items, Pairs}
use Rattle.plist_reader.specs.Tree.{text_of, spells}
use Rattle.plist_reader.specs.Keys.{is_among}
use Rattle.plist_reader.specs.Grammar.{node, width}
use Rattle.plist_reader.specs.Reading.{start}
use Rattle.plist_reader.proofs.GivenTokens.{in_token, settled}
use Rattle.plist_reader.proofs.GivenTexts.{key_end}
use Rattle.plist_reader.proofs.Moves.{TextEnds, as_value, as_key, Moves, space_between}
use Rattle.plist_reader.proofs.Moves.{string_begins, word_begins, bytes_begin, list_begins}
use Rattle.plist_reader.proofs.Moves.{dictionary_begins, comma, equals, semicolon, list_ends}
use Rattle.plist_reader.proofs.Moves.{dictionary_ends, word_more, word_ends, string_more}
use Rattle.plist_reader.proofs.Moves.{string_ends, escape_begins, escape_more, escape_ends}
use Rattle.plist_reader.proofs.Moves.{space_in_bytes, first_digit, space_in_half, second_digit}
use Rattle.plist_reader.proofs.Moves.{bytes_end}
use Rattle.plist_reader.proofs.Reached.{Reached, at_start, onward, reached-moves}

-- ---- texts of nodes

-- whether the value with this number is this text
abbrev pub is_text_of : List TreeNode → List ℕ → ℕ → Bool
is_text_of nodes key n = spells key (option_and_then (λ node. text_of node.value)
    (slice_get nodes n))

-- whether one of these pairs has this key
abbrev pub has_key : List TreeNode → List ℕ → List (ℕ × ℕ) → Bool
has_key nodes key pairs = list_any (λ pair. is_text_of nodes key pair.0) pairs

pub slice_get-more : (nodes more : List TreeNode) (n : ℕ) (x : TreeNode)
    → slice_get nodes n ≡ Some x → slice_get (nodes ++ more) n ≡ Some x
slice_get-more [] more n x e = cc
slice_get-more (y ∷ nodes) more zero x e = e
slice_get-more (y ∷ nodes) more (suc n) x e = slice_get-more nodes more n x e

pub slice_get-last : (nodes : List TreeNode) (x : TreeNode) (more : List TreeNode)
    → slice_get (nodes ++ x ∷ more) (length nodes) ≡ Some x
slice_get-last [] x more = refl
slice_get-last (y ∷ nodes) x more = slice_get-last nodes x more

is_text_of-more : (nodes more : List TreeNode) (key : List ℕ) (n : ℕ)
    → is_text_of nodes key n ≡ true → is_text_of (nodes ++ more) key n ≡ true
is_text_of-more nodes more key n h = on (slice_get nodes n) refl h
  where
    on : (o : Option TreeNode) → slice_get nodes n ≡ o
        → spells key (option_and_then (λ node. text_of node.value) o) ≡ true
        → is_text_of (nodes ++ more) key n ≡ true
    on None e k = absurd (false≢true k)
    on (Some x) e k = rw (slice_get-more nodes more n x e) k

pub either_true : (a b : Bool) → (a ≡ true) ⊎ (b ≡ true) → (a || b) ≡ true
either_true a b (inl e) = rw e refl
either_true true b (inr e) = refl
either_true false b (inr e) = e

pub has_key-more : (nodes more : List TreeNode) (key : List ℕ) (pairs : List (ℕ × ℕ))
    → has_key nodes key pairs ≡ true → has_key (nodes ++ more) key pairs ≡ true
has_key-more nodes more key [] h = h
has_key-more nodes more key (p ∷ pairs) h =
    either_true _ _ (elim (or_cases (is_text_of nodes key p.0) (has_key nodes key pairs) h) [
      | inl e ↦ inl (is_text_of-more nodes more key p.0 e)
      | inr e ↦ inr
          (has_key-more nodes more key pairs e)
    ])

has_key-left : (nodes : List TreeNode) (key : List ℕ) (xs ys : List (ℕ × ℕ))
    → has_key nodes key xs ≡ true → has_key nodes key (xs ++ ys) ≡ true
has_key-left nodes key xs ys h = list_any-append (λ pair. is_text_of nodes key pair.0) xs ys
    ∙ either_true (has_key nodes key xs) (has_key nodes key ys) (inl h)

has_key-right : (nodes : List TreeNode) (key : List ℕ) (xs ys : List (ℕ × ℕ))
    → has_key nodes key ys ≡ true → has_key nodes key (xs ++ ys) ≡ true
has_key-right nodes key xs ys h = list_any-append (λ pair. is_text_of nodes key pair.0) xs ys
    ∙ either_true (has_key nodes key xs) (has_key nodes key ys) (inr h)

pub same_bytes : (text : List ℕ) → pointwise nat_eq text text ≡ true
same_bytes [] = refl
same_bytes (x ∷ text) = rw (eq-eqb x x refl) (same_bytes text)

pub bytes_same : (text key : List ℕ) → pointwise nat_eq text key ≡ true → text ≡ key
bytes_same [] [] h = refl
bytes_same [] (y ∷ key) h = absurd (false≢true h)
bytes_same (x ∷ text) [] h = absurd (false≢true h)
bytes_same (x ∷ text) (y ∷ key) h = let p = and_parts (nat_eq x y) (pointwise nat_eq text key) h
    in let a : x ≡ y = eqb-true x y p.0 in let b = bytes_same text key p.1 in cc

own-key : (nodes : List TreeNode) (at end : ℕ) (key : List ℕ)
    → is_text_of (nodes ++ node at end (tree.Text key) ∷ []) key (length nodes) ≡ true
own-key nodes at end key = rw (slice_get-last nodes (node at end (tree.Text key)) [])
    (same_bytes key)

-- ---- keys of what is open

all_map : {A : Type 0} (P Q : A → Type 0) (xs : List A) → ((x : A) → P x → Q x)
    → AllByRecursion P xs → AllByRecursion Q xs
all_map P Q [] f h = tt
all_map P Q (x ∷ xs) f h = (f x h.0, all_map P Q xs f h.1)

all_push : {A : Type 0} (P : A → Type 0) (xs : List A) (x : A) → AllByRecursion P xs → P x
    → AllByRecursion P (xs ++ x ∷ [])
all_push P [] x h k = (k, tt)
all_push P (y ∷ xs) x h k = (h.0, all_push P xs x h.1 k)

-- all keys are those of pairs, but for the last
abbrev WeakKey : List TreeNode → Dictionary → List ℕ → Type 0
WeakKey nodes d k = (number : ℕ) → has_key nodes k (d.pairs ++ (d.key, number) ∷ []) ≡ true

abbrev IsWeak : List TreeNode → Open → Type 0
IsWeak nodes (Items at done) = Unit {0}
IsWeak nodes (Pairs d) = AllByRecursion (WeakKey nodes d) d.keys

-- all keys are those of pairs
abbrev pub IsStrong : List TreeNode → Dictionary → Type 0
IsStrong nodes d = AllByRecursion (λ k. has_key nodes k d.pairs ≡ true) d.keys

abbrev StrongTop : List TreeNode → List Open → Type 0
StrongTop nodes [] = Unit {0}
StrongTop nodes (Items at done ∷ outer) = Unit {0}
StrongTop nodes (Pairs d ∷ outer) = IsStrong nodes d

abbrev pub AtKey : List TreeNode → Phase → List Open → Type 0
AtKey nodes Key brackets = StrongTop nodes brackets
AtKey nodes PairEnd brackets = StrongTop nodes brackets
AtKey nodes Value brackets = Unit {0}
AtKey nodes Item brackets = Unit {0}
AtKey nodes ItemEnd brackets = Unit {0}
AtKey nodes KeyEnd brackets = Unit {0}
AtKey nodes (End n) brackets = Unit {0}

pub record Keyed (r : Reader) : Type 0 where
  pub open_keys : AllByRecursion (IsWeak r.nodes) r.brackets
  pub top : AtKey r.nodes r.phase r.brackets

weak-more : (nodes more : List TreeNode) (b : Open) → IsWeak nodes b → IsWeak (nodes ++ more) b
weak-more nodes more (Items at done) h = tt
weak-more nodes more (Pairs d) h = all_map (WeakKey nodes d) (WeakKey (nodes ++ more) d) d.keys
    (λ k f number. has_key-more nodes more k (d.pairs ++ (d.key, number) ∷ []) (f number)) h

open-more : (nodes more : List TreeNode) (brackets : List Open)
    → AllByRecursion (IsWeak nodes) brackets → AllByRecursion (IsWeak (nodes ++ more)) brackets
open-more nodes more brackets h = all_map (IsWeak nodes) (IsWeak (nodes ++ more)) brackets
    (λ b w. weak-more nodes more b w) h

settled-keyed : (nodes : List TreeNode) (brackets : List Open) (number : ℕ)
    → AllByRecursion (IsWeak nodes) brackets → Keyed (settled nodes brackets number)
settled-keyed nodes [] number h = record { open_keys = tt; top = tt }
settled-keyed nodes (Items at done ∷ outer) number h = record { open_keys = (tt, h.1); top = tt }
settled-keyed nodes (Pairs d ∷ outer) number h =
    let e : Dictionary = record d { pairs = d.pairs ++ (d.key, number) ∷ [] } in
    let strong : IsStrong nodes e = all_map (WeakKey nodes d) (λ k. has_key nodes k e.pairs ≡ true)
    d.keys (λ k f. f number) h.0 in
    record {
      open_keys = (
        all_map (λ k. has_key nodes k e.pairs ≡ true) (WeakKey nodes e) d.keys
            (λ k g other. has_key-left nodes k e.pairs ((e.key, other) ∷ []) g) strong,
        h.1,
      );
      top
          = strong;
    }

value-keyed : (nodes : List TreeNode) (n : TreeNode) (brackets : List Open)
    → AllByRecursion (IsWeak nodes) brackets
    → Keyed (settled (nodes ++ n ∷ []) brackets (length nodes))
value-keyed nodes n brackets h = settled-keyed (nodes ++ n ∷ []) brackets (length nodes)
    (open-more nodes (n ∷ []) brackets h)

key-keyed : (nodes : List TreeNode) (d : Dictionary) (outer : List Open) (at end : ℕ) (key : List ℕ)
    → IsStrong nodes d → AllByRecursion (IsWeak nodes) outer
    → Keyed (key_end nodes d outer at end key)
key-keyed nodes d outer at end key s h =
    let more = node at end (tree.Text key) ∷ [] in
    let e : Dictionary = record d { keys = d.keys ++ key ∷ []; key = length nodes } in
    record {
      open_keys = (
        all_push (WeakKey (nodes ++ more) e) d.keys key
            (all_map (λ k. has_key nodes k d.pairs ≡ true) (WeakKey (nodes ++ more) e) d.keys
            (λ k g number. has_key-left (nodes ++ more) k d.pairs ((length nodes, number) ∷ [])
            (has_key-more nodes more k d.pairs g)) s)
            (λ number. has_key-right (nodes ++ more) key d.pairs ((length nodes, number) ∷ [])
            (either_true (is_text_of (nodes ++ more) key (length nodes)) false
            (inl (own-key nodes at end key)))),
        open-more nodes more outer h,
      );
      top = tt;
    }

ended-keyed : (nodes : List TreeNode) (brackets : List Open) (phase : Phase) (token : Token)
    (at end : ℕ) (text : List ℕ) (u : Reader) → TextEnds nodes brackets phase at end text u
    → Keyed (in_token nodes brackets phase token text []) → Keyed u
ended-keyed nodes _ _ token _ _ _ _ (as_value brackets phase at end text a) h
    = value-keyed nodes (node at end (tree.Text text)) brackets h.open_keys
ended-keyed nodes _ _ token _ _ _ _ (as_key d outer at end text e) h
    = key-keyed nodes d outer at end text h.top h.open_keys.1

token-keyed : (nodes : List TreeNode) (brackets : List Open) (phase : Phase) (t u : Token)
    (text more bytes made : List ℕ) → Keyed (in_token nodes brackets phase t text bytes)
    → Keyed (in_token nodes brackets phase u more made)
token-keyed nodes brackets phase t u text more bytes made h
    = record { open_keys = h.open_keys; top = h.top }

moves-keyed : (place c : ℕ) (r s : Reader) → Moves place c r s → Keyed r → Keyed s
moves-keyed place c _ _ (space_between nodes brackets phase e) h = h
moves-keyed place c _ _ (string_begins nodes brackets phase b e) h
    = token-keyed nodes brackets phase _ _ [] [] [] [] h
moves-keyed place c _ _ (word_begins nodes brackets phase b w) h
    = token-keyed nodes brackets phase _ _ [] _ [] [] h
moves-keyed place c _ _ (bytes_begin nodes brackets phase a) h
    = token-keyed nodes brackets phase _ _ [] [] [] [] h
moves-keyed place c _ _ (list_begins nodes brackets phase a d) h
    = record { open_keys = (tt, h.open_keys); top = tt }
moves-keyed place c _ _ (dictionary_begins nodes brackets phase a d) h
    = record { open_keys = (tt, h.open_keys); top = tt }
moves-keyed place c _ _ (comma nodes brackets) h = record { open_keys = h.open_keys; top = tt }
moves-keyed place c _ _ (equals nodes brackets) h = record { open_keys = h.open_keys; top = tt }
moves-keyed place c _ _ (semicolon nodes brackets) h
    = record { open_keys = h.open_keys; top = h.top }
moves-keyed place c _ _ (list_ends nodes at done outer phase) h
    = value-keyed nodes (node at (place + 1) (tree.Items done)) outer h.open_keys.1
moves-keyed place c _ _ (dictionary_ends nodes d outer) h
    = value-keyed nodes (node d.place (place + 1) (tree.Pairs d.pairs)) outer h.open_keys.1
moves-keyed place c _ _ (word_more nodes brackets phase at text b w) h
    = token-keyed nodes brackets phase _ _ text _ [] [] h
moves-keyed place c _ _ (word_ends nodes brackets phase at text u s w t m) h
    = moves-keyed place c u s m (ended-keyed nodes brackets phase _ at place text u t h)
moves-keyed place c _ _ (string_more nodes brackets phase at text b n m) h
    = token-keyed nodes brackets phase _ _ text _ [] [] h
moves-keyed place c _ _ (string_ends nodes brackets phase at text s e t) h
    = ended-keyed nodes brackets phase _ at (place + 1) text s t h
moves-keyed place c _ _ (escape_begins nodes brackets phase at text b e) h
    = token-keyed nodes brackets phase _ _ text text [] [] h
moves-keyed place c _ _ (escape_more nodes brackets phase at backslash text escape next b e) h
    = token-keyed nodes brackets phase _ _ text text [] [] h
moves-keyed place c _ _ (escape_ends nodes brackets phase at backslash text escape character b e) h
    = token-keyed nodes brackets phase _ _ text _ [] [] h
moves-keyed place c _ _ (space_in_bytes nodes brackets phase at bytes) h = h
moves-keyed place c _ _ (first_digit nodes brackets phase at x bytes e) h
    = token-keyed nodes brackets phase _ _ [] [] bytes bytes h
moves-keyed place c _ _ (space_in_half nodes brackets phase at high bytes) h = h
moves-keyed place c _ _ (second_digit nodes brackets phase at high byte bytes) h
    = token-keyed nodes brackets phase _ _ [] [] bytes _ h
moves-keyed place c _ _ (bytes_end nodes brackets phase at bytes a) h
    = value-keyed nodes (node at (place + 1) (tree.Bytes bytes)) brackets h.open_keys

start-keyed : Keyed start
unfolding start
start-keyed = record { open_keys = tt; top = tt }

pub reached-keyed : (front : List ℕ) (r : Reader) → Reached front r → Keyed r
reached-keyed _ _ at_start = start-keyed
reached-keyed _ _ (onward front r s c i h e)
    = moves-keyed (width front) c r s (reached-moves front r s c h e) (reached-keyed front r h)

-- a text that is among the keys is that of a pair
pub strong-has : (nodes : List TreeNode) (pairs : List (ℕ × ℕ)) (text : List ℕ)
    (keys : List (List ℕ)) → AllByRecursion (λ k. has_key nodes k pairs ≡ true) keys
    → is_among text keys ≡ true → has_key nodes text pairs ≡ true
strong-has nodes pairs text [] s h = absurd (false≢true h)
strong-has nodes pairs text (k ∷ keys) s h
    = elim (or_cases (pointwise nat_eq text k) (is_among text keys) h) [
      | inl e ↦ (let P : List ℕ → Type 0 = λ x. has_key nodes x pairs ≡ true
          in subst P (sym (bytes_same text k e)) s.0)
      | inr e ↦ strong-has nodes pairs text keys s.1 e
    ]
