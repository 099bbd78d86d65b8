-- Where the words and strings of a tree begin: each is begun by the character at its place.
use Rattle.std.proofs.Common.{inl, inr, ◌≡◌, ℕ, ◌+◌, ◌<◌, ◌≤◌, Bool, true, false, cond, eqb, ◌&&◌}
use Rattle.std.proofs.Common.{List, [], ◌∷◌, ◌++◌, length, Ok, refl, sym, ap, subst, ◌∙◌, arith}
use Rattle.std.specs.Prelude.{◌⊎◌}
use Rattle.std.proofs.lemmas.Bool.{eqb-true, cases_Bool}
use Rattle.std.proofs.lemmas.Str.{len_utf8_bounds}
use Rattle.std.specs.Char.{len_utf8}
use Rattle.plist_reader.specs.declared.tree.Tree.{Tree}
use Rattle.plist_reader.specs.declared.tree.TreeNode.{TreeNode}
use Rattle.plist_reader.specs.declared.tree.TreeValue.TheVariants as tree
use Rattle.plist_reader.specs.declared.reader.Reader.{Reader}
use Rattle.plist_reader.specs.declared.reader.Phase.{Phase}
use Rattle.plist_reader.specs.declared.reader.Token.{Token}
use Rattle.plist_reader.specs.declared.reader.Token.TheVariants.{Between, Word, Quoted, Escape}
use Rattle.plist_reader.specs.declared.reader.Token.TheVariants.{Bytes, Half}
use Rattle.plist_reader.specs.declared.reader.Open.{Open}
use Rattle.plist_reader.specs.declared.reader.Open.TheVariants.{Items, Pairs}
use Rattle.plist_reader.specs.Characters.{is_word}
use Rattle.plist_reader.specs.Grammar.{node, width, tree_of}
use Rattle.plist_reader.specs.Refusals.{is_text, texts_at, HasText}
use Rattle.plist_reader.specs.Reading.{start, step, run}
use Rattle.plist_reader.proofs.GivenTokens.{ready, in_token, settled, run_same, CanBegin}
use Rattle.plist_reader.proofs.Moves.{TextEnds, as_value, as_key, Moves, space_between}
use Rattle.plist_reader.proofs.Moves.{string_begins, word_begins, bytes_begin, list_begins}
use Rattle.plist_reader.proofs.Moves.{dictionary_begins, comma, equals, semicolon, list_ends}
use Rattle.plist_reader.proofs.Moves.{dictionary_ends, word_more, word_ends, string_more}
use Rattle.plist_reader.proofs.Moves.{string_ends, escape_begins, escape_more, escape_ends}
use Rattle.plist_reader.proofs.Moves.{space_in_bytes, first_digit, space_in_half, second_digit}
use Rattle.plist_reader.proofs.Moves.{bytes_end, Closes, closes_between, closes_word}
use Rattle.plist_reader.proofs.Scalars.{AreScalars, front-scalars}
use Rattle.plist_reader.proofs.Reached.{Reached, at_start, onward, reached-moves, reached-tree}
use Rattle.plist_reader.proofs.Reached.{width-push}
use Rattle.plist_reader.proofs.Depths.{runs-keep, ok_bind}

-- ---- texts in nodes and in readers

abbrev bit : Bool → ℕ
bit b = cond b 1 0

abbrev is_text_at : ℕ → TreeNode → Bool
is_text_at q n = is_text n.value && eqb n.place q

texts_at-push : (q : ℕ) (nodes : List TreeNode) (n : TreeNode)
    → texts_at q (nodes ++ n ∷ []) ≡ texts_at q nodes + bit (is_text_at q n)
texts_at-push q [] n = omega arith
texts_at-push q (m ∷ nodes) n = omega (arith, texts_at-push q nodes n)

-- whether a token is a text that begins at a place
abbrev pub begun_at : ℕ → Token → ℕ
begun_at q Between = 0
begun_at q (Word at) = bit (eqb at q)
begun_at q (Quoted at) = bit (eqb at q)
begun_at q (Escape at backslash escape) = bit (eqb at q)
begun_at q (Bytes at) = 0
begun_at q (Half at high) = 0

abbrev pub Texts : ℕ → Reader → ℕ
Texts q r = texts_at q r.nodes + begun_at q r.token

-- a reader at which a text begins
pub record Begins (r : Reader) (c : ℕ) : Type 0 where
  pub nodes : List TreeNode
  pub brackets : List Open
  pub phase : Phase
  pub same : r ≡ ready nodes brackets phase
  pub can_begin : CanBegin phase
  pub first : (c ≡ 34) ⊎ (is_word c ≡ true)

settled-texts : (q number : ℕ) (nodes : List TreeNode) (brackets : List Open)
    → Texts q (settled nodes brackets number) ≡ texts_at q nodes + 0
settled-texts q number nodes [] = refl
settled-texts q number nodes (Items at done ∷ outer) = refl
settled-texts q number nodes (Pairs d ∷ outer) = refl

-- a value that is no text
other-texts : (q : ℕ) (nodes : List TreeNode) (n : TreeNode) (brackets : List Open)
    → is_text_at q n ≡ false → Texts q (settled (nodes ++ n ∷ []) brackets (length nodes))
    ≡ texts_at q nodes + 0
other-texts q nodes n brackets e = let none : bit (is_text_at q n) ≡ 0 = ap bit e
    in settled-texts q (length nodes) (nodes ++ n ∷ []) brackets
    ∙ omega (arith, texts_at-push q nodes n, none)

ended-texts : (q : ℕ) (nodes : List TreeNode) (brackets : List Open) (phase : Phase) (at end : ℕ)
    (text : List ℕ) (u : Reader) → TextEnds nodes brackets phase at end text u
    → Texts q u ≡ texts_at q nodes + bit (eqb at q)
ended-texts q nodes _ _ _ _ _ _ (as_value brackets phase at end text a) =
    settled-texts q (length nodes) (nodes ++ node at end (tree.Text text) ∷ []) brackets
    ∙ omega (arith, texts_at-push q nodes (node at end (tree.Text text)))
ended-texts q nodes _ _ _ _ _ _ (as_key d outer at end text e)
    = omega (arith, texts_at-push q nodes (node at end (tree.Text text)))

-- behind a text no other begins
ended-begins_none : (nodes : List TreeNode) (brackets : List Open) (phase : Phase) (at end : ℕ)
    (text : List ℕ) (u : Reader) (c : ℕ) → TextEnds nodes brackets phase at end text u → Begins u c
    → ⊥
ended-begins_none nodes _ _ _ _ _ _ c (as_value [] phase at end text a) b = let P : Phase
    → Type 0 = λ x. CanBegin x in subst P (sym (ap (λ r. r.phase) b.same)) b.can_begin
ended-begins_none nodes _ _ _ _ _ _ c (as_value (Items p done ∷ outer) phase at end text a) b
    = let P : Phase → Type 0 = λ x. CanBegin x
    in subst P (sym (ap (λ r. r.phase) b.same)) b.can_begin
ended-begins_none nodes _ _ _ _ _ _ c (as_value (Pairs d ∷ outer) phase at end text a) b = let P
    : Phase → Type 0 = λ x. CanBegin x in subst P (sym (ap (λ r. r.phase) b.same)) b.can_begin
ended-begins_none nodes _ _ _ _ _ _ c (as_key d outer at end text e) b = let P : Phase
    → Type 0 = λ x. CanBegin x in subst P (sym (ap (λ r. r.phase) b.same)) b.can_begin

-- either a text begins at the place, or there are as many as before
abbrev TextsAfter : ℕ → ℕ → ℕ → Reader → Reader → Type 0
TextsAfter q place c r s = (Texts q s ≡ Texts q r) ⊎ ((place ≡ q) × Begins r c)

begun-texts : (q place c n : ℕ) (r s : Reader) → Texts q r ≡ n + 0
    → Texts q s ≡ n + bit (eqb place q) → Begins r c → TextsAfter q place c r s
begun-texts q place c n r s e f b = elim (cases_Bool (eqb place q)) [
  | inl h ↦ inr (eqb-true place q h, b)
  | inr h ↦ (let none : bit (eqb place q) ≡ 0 = ap bit h in inl (omega (arith, e, f, none)))
]

moves-texts : (q place c : ℕ) (r s : Reader) → Moves place c r s → TextsAfter q place c r s
moves-texts q place c _ _ (space_between nodes brackets phase e) = inl refl
moves-texts q place c _ _ (string_begins nodes brackets phase b e) =
    begun-texts q place c (texts_at q nodes) (ready nodes brackets phase)
    (in_token nodes brackets phase (Quoted place) [] []) refl refl
    (record {
      nodes = nodes;
      brackets = brackets;
      phase = phase;
      same = refl;
      can_begin
          = b;
      first = inl e;
    })
moves-texts q place c _ _ (word_begins nodes brackets phase b w) =
    begun-texts q place c (texts_at q nodes) (ready nodes brackets phase)
    (in_token nodes brackets phase (Word place) (c ∷ []) []) refl refl
    (record {
      nodes = nodes;
      brackets = brackets;
      phase = phase;
      same = refl;
      can_begin
          = b;
      first = inr w;
    })
moves-texts q place c _ _ (bytes_begin nodes brackets phase a) = inl refl
moves-texts q place c _ _ (list_begins nodes brackets phase a d) = inl refl
moves-texts q place c _ _ (dictionary_begins nodes brackets phase a d) = inl refl
moves-texts q place c _ _ (comma nodes brackets) = inl refl
moves-texts q place c _ _ (equals nodes brackets) = inl refl
moves-texts q place c _ _ (semicolon nodes brackets) = inl refl
moves-texts q place c _ _ (list_ends nodes at done outer phase)
    = inl (other-texts q nodes (node at (place + 1) (tree.Items done)) outer refl)
moves-texts q place c _ _ (dictionary_ends nodes d outer)
    = inl (other-texts q nodes (node d.place (place + 1) (tree.Pairs d.pairs)) outer refl)
moves-texts q place c _ _ (word_more nodes brackets phase at text b w) = inl refl
moves-texts q place c _ _ (word_ends nodes brackets phase at text u s w t m)
    = elim (moves-texts q place c u s m) [
      | inl e ↦ inl (e ∙ ended-texts q nodes brackets phase at place text u t)
      | inr b ↦ absurd (ended-begins_none nodes brackets phase at place text u c t b.1)
    ]
moves-texts q place c _ _ (string_more nodes brackets phase at text b n m) = inl refl
moves-texts q place c _ _ (string_ends nodes brackets phase at text s e t)
    = inl (ended-texts q nodes brackets phase at (place + 1) text s t)
moves-texts q place c _ _ (escape_begins nodes brackets phase at text b e) = inl refl
moves-texts q place c _ _ (escape_more nodes brackets phase at backslash text escape next b e)
    = inl refl
moves-texts q place c _ _ (escape_ends nodes brackets phase at backslash text escape character b e)
    = inl refl
moves-texts q place c _ _ (space_in_bytes nodes brackets phase at bytes) = inl refl
moves-texts q place c _ _ (first_digit nodes brackets phase at x bytes e) = inl refl
moves-texts q place c _ _ (space_in_half nodes brackets phase at high bytes) = inl refl
moves-texts q place c _ _ (second_digit nodes brackets phase at high byte bytes) = inl refl
moves-texts q place c _ _ (bytes_end nodes brackets phase at bytes a)
    = inl (other-texts q nodes (node at (place + 1) (tree.Bytes bytes)) brackets refl)

-- at another place there are as many as before
elsewhere-texts : (q place c : ℕ) (r s : Reader) → (place ≡ q → ⊥) → Moves place c r s
    → Texts q s ≡ Texts q r
elsewhere-texts q place c r s n m = elim (moves-texts q place c r s m)
    [ inl e ↦ e | inr b ↦ absurd (n b.0) ]

closes-texts : (q place : ℕ) (r : Reader) (t : Tree) → Closes place r t
    → texts_at q t.nodes ≡ Texts q r
closes-texts q place _ _ (closes_between nodes brackets number) = omega arith
closes-texts q place _ _ (closes_word nodes phase at text a)
    = omega (arith, texts_at-push q nodes (node at place (tree.Text text)))

-- ---- readers on the way

start-texts : (q : ℕ) → Texts q start ≡ 0
unfolding start
start-texts q = refl

-- behind a front no text has begun yet
reached-texts : (front : List ℕ) (r : Reader) (q : ℕ) → Reached front r → width front ≤ q
    → Texts q r ≡ 0
reached-texts _ _ q at_start l = start-texts q
reached-texts _ _ q (onward front r s c i h e) l =
    let w = width-push front c in
    elsewhere-texts q (width front) c r s (λ n. absurd (omega (arith, w, n, l, len_utf8_bounds c)))
    (reached-moves front r s c h e) ∙ reached-texts front r q h (omega (arith, w, l))

-- the texts that have begun behind a front are those of each tree of a text that begins so
tree-texts : (front rest : List ℕ) (r : Reader) (t : Tree) (q n : ℕ) → AreScalars rest
    → Reached front r → q < width front → run r (width front) rest ≡ Ok t → Texts q r ≡ n
    → texts_at q t.nodes ≡ n
tree-texts front rest r t q n a h l e f = runs-keep (λ u. Texts q u ≡ n)
    (λ x. texts_at q x.nodes ≡ n) (width front)
    (λ k u w c b i m j. elsewhere-texts q (width k) c u w (λ z. absurd (omega (arith, z, b, l))) m
    ∙ j) (λ k u x i m j. closes-texts q (width k) u x m ∙ j)
    rest front r t a (omega arith) h e f

-- a text that is open begins there
pub open-text : (front before : List ℕ) (r : Reader) → Reached front r → width before < width front
    → begun_at (width before) r.token ≡ 1 → HasText front before
open-text front before r h l e rest v s =
    let q = width before in
    let n = Texts q r in
    let k = tree-texts front rest r (tree_of v) q n (front-scalars v front rest s).1 h l
    (reached-tree front rest r v h s) refl in
    omega (arith, k, e)

-- and where a text begins, its first character has begun it
pub text-begun : (before : List ℕ) (c : ℕ) (rest : List ℕ) (r : Reader) (t : Tree)
    → AreScalars (c ∷ rest) → Reached before r → run r (width before) (c ∷ rest) ≡ Ok t
    → 0 < texts_at (width before) t.nodes → Begins r c
text-begun before c rest r t a h e l =
    let q = width before in
    let u = ok_bind (step r q c) (λ s. run s (q + len_utf8 c) rest) t e in
    let w = width-push before c in
    let k = tree-texts (before ++ c ∷ []) rest u.0 t q (Texts q u.0) a.1
    (onward before r u.0 c a.0 h u.1) (omega (arith, w, len_utf8_bounds c))
    (run_same u.0 u.0 (width (before ++ c ∷ [])) (q + len_utf8 c) rest refl w ∙ u.2) refl in
    elim (moves-texts q q c r u.0 (reached-moves before r u.0 c h u.1)) [
      | inl x ↦ (let none = reached-texts before r q h (omega arith)
          in absurd (omega (arith, none, x, k, l)))
      | inr b ↦ b.1
    ]
