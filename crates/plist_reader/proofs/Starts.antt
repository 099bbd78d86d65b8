-- The reader at which an open word or string has begun.
use Rattle.std.proofs.Common.{◌≡◌, ℕ, ◌+◌, List, [], ◌∷◌, ◌++◌, refl, sym, ap, subst, ◌∙◌, arith}
use Rattle.std.proofs.Common.{append_assoc, length}
use Rattle.std.proofs.lemmas.Str.{len_utf8_bounds}
use Rattle.std.specs.Char.{len_utf8}
use Rattle.plist_reader.specs.declared.tree.TreeNode.{TreeNode}
use Rattle.plist_reader.specs.declared.tree.TreeValue.TheVariants as tree
use Rattle.plist_reader.specs.declared.reader.Reader.{Reader}
use Rattle.plist_reader.specs.declared.reader.Phase.{Phase}
use Rattle.plist_reader.specs.declared.reader.Token.{Token}
use Rattle.plist_reader.specs.declared.reader.Token.TheVariants.{Between, Word, Quoted, Escape}
use Rattle.plist_reader.specs.declared.reader.Token.TheVariants.{Bytes, Half}
use Rattle.plist_reader.specs.declared.reader.Open.{Open}
use Rattle.plist_reader.specs.declared.reader.Open.TheVariants.{Items, Pairs}
use Rattle.plist_reader.specs.Grammar.{node, width}
use Rattle.plist_reader.specs.Reading.{start}
use Rattle.plist_reader.proofs.GivenTokens.{ready, settled, settled-between, CanBegin}
use Rattle.plist_reader.proofs.Moves.{TextEnds, as_value, as_key, Moves, space_between}
use Rattle.plist_reader.proofs.Moves.{string_begins, word_begins, bytes_begin, list_begins}
use Rattle.plist_reader.proofs.Moves.{dictionary_begins, comma, equals, semicolon, list_ends}
use Rattle.plist_reader.proofs.Moves.{dictionary_ends, word_more, word_ends, string_more}
use Rattle.plist_reader.proofs.Moves.{string_ends, escape_begins, escape_more, escape_ends}
use Rattle.plist_reader.proofs.Moves.{space_in_bytes, first_digit, space_in_half, second_digit}
use Rattle.plist_reader.proofs.Moves.{bytes_end}
use Rattle.plist_reader.proofs.Fronts.{ends-between}
use Rattle.plist_reader.proofs.Reached.{Reached, at_start, onward, reached-moves}

pub record Started (front : List ℕ) (at : ℕ) (nodes : List TreeNode) (brackets : List Open)
    (phase : Phase) : Type 0 where
  pub before : List ℕ
  pub more : List ℕ
  pub parts : front ≡ before ++ more
  pub place : at ≡ width before
  pub reached : Reached before (ready nodes brackets phase)

abbrev pub StartIn : Token → List ℕ → List TreeNode → List Open → Phase → Type 0
StartIn Between front nodes brackets phase = Unit {0}
StartIn (Word at) front nodes brackets phase = Started front at nodes brackets phase
StartIn (Quoted at) front nodes brackets phase = Started front at nodes brackets phase
StartIn (Escape at backslash escape) front nodes brackets phase
    = Started front at nodes brackets phase
StartIn (Bytes at) front nodes brackets phase = Unit {0}
StartIn (Half at high) front nodes brackets phase = Unit {0}

abbrev pub StartOf : Reader → List ℕ → Type 0
StartOf r front = StartIn r.token front r.nodes r.brackets r.phase

pub none-started : (s : Reader) (front : List ℕ) → s.token ≡ Between → StartOf s front
none-started s front e = subst (λ (x : Token). StartIn x front s.nodes s.brackets s.phase) (sym e)
    tt

settled-started : (nodes : List TreeNode) (brackets : List Open) (number : ℕ) (front : List ℕ)
    → StartOf (settled nodes brackets number) front
settled-started nodes brackets number front
    = none-started (settled nodes brackets number) front (settled-between nodes brackets number)

started-more : (front : List ℕ) (c at : ℕ) (nodes : List TreeNode) (brackets : List Open)
    (phase : Phase) → Started front at nodes brackets phase
    → Started (front ++ c ∷ []) at nodes brackets phase
started-more front c at nodes brackets phase h
    = record {
      before = h.before;
      more = h.more ++ c ∷ [];
      parts = ap (λ x. x ++ c ∷ []) h.parts
          ∙ append_assoc h.before h.more (c ∷ []);
      place = h.place;
      reached = h.reached;
    }

started-here : (front : List ℕ) (place c : ℕ) (nodes : List TreeNode) (brackets : List Open)
    (phase : Phase) → place ≡ width front → Reached front (ready nodes brackets phase)
    → Started (front ++ c ∷ []) place nodes brackets phase
started-here front place c nodes brackets phase e h
    = record { before = front; more = c ∷ []; parts = refl; place = e; reached = h }

-- behind a text no other begins
ended-none : (nodes : List TreeNode) (brackets : List Open) (phase : Phase) (at end : ℕ)
    (text : List ℕ) (u : Reader) → TextEnds nodes brackets phase at end text u → CanBegin u.phase
    → ⊥
ended-none nodes _ _ _ _ _ _ (as_value [] phase at end text a) b = b
ended-none nodes _ _ _ _ _ _ (as_value (Items p done ∷ outer) phase at end text a) b = b
ended-none nodes _ _ _ _ _ _ (as_value (Pairs d ∷ outer) phase at end text a) b = b
ended-none nodes _ _ _ _ _ _ (as_key d outer at end text e) b = b

moves-started : (front : List ℕ) (place c : ℕ) (r s : Reader) → place ≡ width front
    → Moves place c r s → (CanBegin r.phase → Reached front r) → StartOf r front
    → StartOf s (front ++ c ∷ [])
moves-started front place c _ _ e (space_between nodes brackets phase x) f h = tt
moves-started front place c _ _ e (string_begins nodes brackets phase b x) f h
    = started-here front place c nodes brackets phase e (f b)
moves-started front place c _ _ e (word_begins nodes brackets phase b w) f h
    = started-here front place c nodes brackets phase e (f b)
moves-started front place c _ _ e (bytes_begin nodes brackets phase a) f h = tt
moves-started front place c _ _ e (list_begins nodes brackets phase a d) f h = tt
moves-started front place c _ _ e (dictionary_begins nodes brackets phase a d) f h = tt
moves-started front place c _ _ e (comma nodes brackets) f h = tt
moves-started front place c _ _ e (equals nodes brackets) f h = tt
moves-started front place c _ _ e (semicolon nodes brackets) f h = tt
moves-started front place c _ _ e (list_ends nodes at done outer phase) f h
    = settled-started (nodes ++ node at (place + 1) (tree.Items done) ∷ []) outer (length nodes)
    (front ++ c ∷ [])
moves-started front place c _ _ e (dictionary_ends nodes d outer) f h
    = settled-started (nodes ++ node d.place (place + 1) (tree.Pairs d.pairs) ∷ []) outer
    (length nodes) (front ++ c ∷ [])
moves-started front place c _ _ e (word_more nodes brackets phase at text b w) f h
    = started-more front c at nodes brackets phase h
moves-started front place c _ _ e (word_ends nodes brackets phase at text u s w t m) f h =
    moves-started front place c u s e m (λ b. absurd
    (ended-none nodes brackets phase at place text u t b))
    (none-started u front (ends-between nodes brackets phase at place text u t))
moves-started front place c _ _ e (string_more nodes brackets phase at text b n m) f h
    = started-more front c at nodes brackets phase h
moves-started front place c _ _ e (string_ends nodes brackets phase at text s x t) f h
    = none-started s (front ++ c ∷ []) (ends-between nodes brackets phase at (place + 1) text s t)
moves-started front place c _ _ e (escape_begins nodes brackets phase at text b x) f h
    = started-more front c at nodes brackets phase h
moves-started front place c _ _ e (escape_more nodes brackets phase at backslash text escape next b
    x) f h = started-more front c at nodes brackets phase h
moves-started front place c _ _ e (escape_ends nodes brackets phase at backslash text escape
    character b x) f h = started-more front c at nodes brackets phase h
moves-started front place c _ _ e (space_in_bytes nodes brackets phase at bytes) f h = tt
moves-started front place c _ _ e (first_digit nodes brackets phase at x bytes y) f h = tt
moves-started front place c _ _ e (space_in_half nodes brackets phase at high bytes) f h = tt
moves-started front place c _ _ e (second_digit nodes brackets phase at high byte bytes) f h = tt
moves-started front place c _ _ e (bytes_end nodes brackets phase at bytes a) f h
    = settled-started (nodes ++ node at (place + 1) (tree.Bytes bytes) ∷ []) brackets (length nodes)
    (front ++ c ∷ [])

start-started : StartOf start []
unfolding start
start-started = tt

pub reached-started : (front : List ℕ) (r : Reader) → Reached front r → StartOf r front
reached-started _ _ at_start = start-started
reached-started _ _ (onward front r s c i h e)
    = moves-started front (width front) c r s refl (reached-moves front r s c h e) (λ b. h)
    (reached-started front r h)

-- two beginnings of one text that take as many bytes are one
same_tail : (x y : ℕ) (xs ys : List ℕ) → x ∷ xs ≡ y ∷ ys → (x ≡ y) × (xs ≡ ys)
same_tail x y xs ys e = (cc, cc)

pub prefix_same : (xs ys more rest : List ℕ) → xs ++ more ≡ ys ++ rest → width xs ≡ width ys
    → xs ≡ ys
prefix_same [] [] more rest e w = refl
prefix_same [] (y ∷ ys) more rest e w = absurd (omega (arith, w, len_utf8_bounds y))
prefix_same (x ∷ xs) [] more rest e w = absurd (omega (arith, w, len_utf8_bounds x))
prefix_same (x ∷ xs) (y ∷ ys) more rest e w =
    let t = same_tail x y (xs ++ more) (ys ++ rest) e in
    let k : width xs ≡ width ys = omega (arith, w, ap len_utf8 t.0) in
    let r = prefix_same xs ys more rest t.1 k in
    ap (λ z. z ∷ xs) t.0 ∙ ap (λ z. y ∷ z) r
