-- A front that ends in an open escape leads to a reader in that escape.
use Rattle.std.proofs.Common.{◌≡◌, ℕ, ◌+◌, ◌<◌, List, [], ◌∷◌, ◌++◌, length, Result, Ok, Err, refl}
use Rattle.std.proofs.Common.{sym, ap, subst, ◌∙◌, arith, append_assoc}
use Rattle.std.proofs.lemmas.List.{append-nil}
use Rattle.std.specs.Char.{len_utf8}
use lib.Utf8.{encode}
use Rattle.refusal_codes.specs.declared.refusal.Refusal.{Refusal}
use Rattle.refusal_codes.specs.declared.rule.Rule.TheVariants.{UnexpectedEnd, BadEscape}
use Rattle.plist_reader.specs.declared.tree.Tree.{Tree}
use Rattle.plist_reader.specs.declared.tree.TreeNode.{TreeNode}
use Rattle.plist_reader.specs.declared.reader.Reader.{Reader}
use Rattle.plist_reader.specs.declared.reader.Phase.{Phase}
use Rattle.plist_reader.specs.declared.reader.Token.TheVariants.{Quoted, Escape}
use Rattle.plist_reader.specs.declared.reader.Open.{Open}
use Rattle.plist_reader.specs.declared.escape.Escape.{Escape as EscapeState}
use Rattle.plist_reader.specs.declared.escape.Escape.TheVariants.{Begun}
use Rattle.plist_reader.specs.declared.escape.Escaped.{Escaped}
use Rattle.plist_reader.specs.declared.escape.Escaped.TheVariants.{More, Whole, Wrong}
use Rattle.plist_reader.specs.Escapes.{escape_next}
use Rattle.plist_reader.specs.Grammar.{Value, width, tree_of, IsQuoted, IsTextOf}
use Rattle.plist_reader.specs.Refusals.{IsInEscape, NotInEscape, refusal}
use Rattle.refusal_codes.specs.Gives.{◌>>=◌}
use Rattle.plist_reader.specs.Reading.{start, after_escape, step, finish, run}
use Rattle.plist_reader.proofs.RunLemmas.{run_step}
use Rattle.plist_reader.proofs.Scalars.{AreScalars, front-scalars}
use Rattle.plist_reader.proofs.GivenTokens.{in_token, run_same, width-append}
use Rattle.plist_reader.proofs.GivenEscapes.{Reads, reads-escape, step-escape_more}
use Rattle.plist_reader.proofs.GivenStrings.{step-quote_begun, step-backslash, run-quoted}
use Rattle.plist_reader.proofs.GivenTexts.{run-text_of}
use Rattle.plist_reader.proofs.Moves.{Closes, closes}
use Rattle.plist_reader.proofs.Reached.{Reached, at_start, onward, at_ok, reached-good}
use Rattle.plist_reader.proofs.Reached.{reached-goes_on, reached-run, reached-tree, width-push}
use Rattle.plist_reader.proofs.Depths.{ok_bind}
use Rattle.plist_reader.proofs.Texts.{Begins, text-begun}

-- ---- readers on the way to a tree

reached-part : (cs front rest : List ℕ) (r : Reader) (t : Tree) → AreScalars cs → Reached front r
    → run r (width front) (cs ++ rest) ≡ Ok t → (b : Reader) × Reached (front ++ cs) b
reached-part [] front rest r t i h e = let R : List ℕ → Type 0 = λ x. Reached x r
    in (r, subst R (sym (append-nil front)) h)
reached-part (c ∷ cs) front rest r t i h e =
    let u = ok_bind (step r (width front) c) (λ s. run s (width front + len_utf8 c) (cs ++ rest)) t
    e in
    let w = width-push front c in
    let k = reached-part cs (front ++ c ∷ []) rest u.0 t i.1 (onward front r u.0 c i.0 h u.1)
    (run_same u.0 u.0 (width (front ++ c ∷ [])) (width front + len_utf8 c) (cs ++ rest) refl w
    ∙ u.2) in
    let R : List ℕ → Type 0 = λ x. Reached x k.0 in
    (k.0, subst R (append_assoc front (c ∷ []) cs) k.1)

-- the reader behind a front of a text with a tree
pub reached-front : (front rest : List ℕ) (v : Value) → IsTextOf v (front ++ rest)
    → (b : Reader) × Reached front b
reached-front front rest v s = reached-part front [] rest start (tree_of v)
    (front-scalars v front rest s).0 at_start (run-text_of v (front ++ rest) s)

-- a text with a tree leads to a reader at which it may end
pub reached-end : (cs : List ℕ) (t : Tree) → AreScalars cs → run start 0 cs ≡ Ok t
    → (b : Reader) × Reached cs b × Closes (width cs) b t
reached-end cs t i e =
    let all : run start 0 (cs ++ []) ≡ Ok t = ap (λ x. run start 0 x) (append-nil cs) ∙ e in
    let b = reached-part cs [] [] start t i at_start all in
    let f = sym (reached-run cs b.0 b.1 []) ∙ all in (
      b.0,
      b.1,
      at_ok (Closes (width cs) b.0) (run b.0 (width cs) []) t f
          (closes b.0 (width cs) (reached-good cs b.0 b.1)),
    )

-- ---- the first characters of an escape

reads-more : (escape : EscapeState) (c : ℕ) (xs : List ℕ) (character : ℕ) → 0 < length xs
    → Reads escape (c ∷ xs) character
    → (next : EscapeState) × (escape_next escape c ≡ More next) × Reads next xs character
reads-more escape c [] character l r = absurd (omega (arith, l))
reads-more escape c (d ∷ ds) character l r = r

longer : (xs ys : List ℕ) → 0 < length ys → 0 < length (xs ++ ys)
longer [] ys l = l
longer (x ∷ xs) ys l = omega arith

run-first : (cs more : List ℕ) (nodes : List TreeNode) (brackets : List Open) (phase : Phase)
    (at back place : ℕ) (escape : EscapeState) (character : ℕ) (text tail : List ℕ)
    → 0 < length more → Reads escape (cs ++ more) character
    → (next : EscapeState) × (run (in_token nodes brackets phase (Escape at back escape) text [])
    place (cs ++ tail) ≡ run (in_token nodes brackets phase (Escape at back next) text [])
    (place + width cs) tail)
run-first [] more nodes brackets phase at back place escape character text tail l r
    = (escape, run_same _ _ place (place + 0) tail refl (omega arith))
run-first (c ∷ cs) more nodes brackets phase at back place escape character text tail l r =
    let n = reads-more escape c (cs ++ more) character (longer cs more l) r in
    let k = run-first cs more nodes brackets phase at back (place + len_utf8 c) n.0 character text
    tail l n.2 in (
      k.0,
      run_step _ _ place c (cs ++ tail)
          (step-escape_more nodes brackets phase at back place c escape n.0 text n.1) ∙ k.1
          ∙ run_same _ _ (place + len_utf8 c + width cs) (place + (len_utf8 c + width cs)) tail refl
          (omega arith),
    )

-- ---- a character that the escape refuses

same_refusal : {A : Type 0} (x e : Refusal) (d : Result A Refusal) → d ≡ Err x → d ≡ Err e → e ≡ x
same_refusal x e d h k = cc

finish-string : (nodes : List TreeNode) (brackets : List Open) (phase : Phase) (at place : ℕ)
    (text : List ℕ)
    → finish (in_token nodes brackets phase (Quoted at) text []) place
    ≡ Err (refusal UnexpectedEnd place)
unfolding finish
finish-string nodes brackets phase at place text = refl

finish-escape : (nodes : List TreeNode) (brackets : List Open) (phase : Phase) (at back place : ℕ)
    (escape : EscapeState) (text : List ℕ)
    → finish (in_token nodes brackets phase (Escape at back escape) text []) place
    ≡ Err (refusal UnexpectedEnd place)
unfolding finish
finish-escape nodes brackets phase at back place escape text = refl

-- behind one more character the text ends too early, or the escape is bad
abbrev IsBadOrShort : ℕ → Refusal → Type 0
IsBadOrShort back e = (e.rule ≡ UnexpectedEnd → ⊥) → e ≡ refusal BadEscape back

short : (back place : ℕ) (e : Refusal) → e ≡ refusal UnexpectedEnd place → IsBadOrShort back e
short back place e h n = absurd (n (ap (λ x. x.rule) h))

bad-after : (nodes : List TreeNode) (brackets : List Open) (phase : Phase) (at back place : ℕ)
    (escape : EscapeState) (text : List ℕ) (out : Escaped) (e : Refusal)
    → (after_escape (in_token nodes brackets phase (Escape at back escape) text []) at back out >>=
    (λ s. finish s place)) ≡ Err e → IsBadOrShort back e
bad-after nodes brackets phase at back place escape text (More next) e h
    = short back place e (same_refusal _ e _
    (finish-escape nodes brackets phase at back place next text) h)
bad-after nodes brackets phase at back place escape text (Whole character) e h
    = short back place e (same_refusal _ e _
    (finish-string nodes brackets phase at place (text ++ encode character)) h)
bad-after nodes brackets phase at back place escape text Wrong e h =
    λ n. same_refusal (refusal BadEscape back) e
    (after_escape (in_token nodes brackets phase (Escape at back escape) text []) at back Wrong
    >>= (λ s. finish s place)) refl h

bad-escape : (nodes : List TreeNode) (brackets : List Open) (phase : Phase) (at back place c : ℕ)
    (escape : EscapeState) (text : List ℕ) (e : Refusal)
    → run (in_token nodes brackets phase (Escape at back escape) text []) place (c ∷ []) ≡ Err e
    → IsBadOrShort back e
unfolding step
bad-escape nodes brackets phase at back place c escape text e h
    = bad-after nodes brackets phase at back (place + len_utf8 c) escape text (escape_next escape c)
    e h

-- ---- whole fronts

escape_parts : (before inner escape rest : List ℕ)
    → ((before ++ 34 ∷ inner) ++ 92 ∷ escape) ++ rest
    ≡ before ++ 34 ∷ (inner ++ 92 ∷ (escape ++ rest))
escape_parts before inner escape rest = simp append_assoc

-- from where a string begins to its backslash
run-to_backslash : (r : Reader) (q : ℕ) (inner bytes behind : List ℕ) (k : Begins r 34)
    → IsQuoted inner bytes
    → run r q (34 ∷ (inner ++ 92 ∷ behind))
    ≡ run (in_token k.nodes k.brackets k.phase (Escape q (q + 1 + width inner) Begun) bytes [])
    (q + 1 + width inner + 1) behind
run-to_backslash r q inner bytes behind k h =
    ap (λ x. run x q (34 ∷ (inner ++ 92 ∷ behind))) k.same
    ∙ run_step _ _ q 34 (inner ++ 92 ∷ behind)
    (step-quote_begun k.nodes k.brackets k.phase q k.can_begin)
    ∙ run-quoted inner bytes h k.nodes k.brackets k.phase q (q + 1) [] (92 ∷ behind)
    ∙ run_step _ _ (q + 1 + width inner) 92 behind
    (step-backslash k.nodes k.brackets k.phase q (q + 1 + width inner) bytes)

-- the reader at which the string of an open escape begins
begun-string : (front : List ℕ) (r : Reader) (place : ℕ) → Reached front r
    → (i : IsInEscape front place) → (b : Reader) × Reached i.before b × Begins b 34
begun-string front r place h i =
    let g = reached-goes_on front r h in
    let behind = i.inner ++ 92 ∷ (i.escape ++ g.0) in
    let same : front ++ g.0 ≡ i.before ++ 34 ∷ behind = ap (λ x. x ++ g.0) i.parts
    ∙ escape_parts i.before i.inner i.escape g.0 in
    let text : IsTextOf g.1 (i.before ++ 34 ∷ behind)
    = subst (λ (x : List ℕ). IsTextOf g.1 x) same g.2 in
    let b = reached-front i.before (34 ∷ behind) g.1 text in (
      b.0,
      b.1,
      text-begun i.before 34 behind b.0 (tree_of g.1)
          (front-scalars g.1 i.before (34 ∷ behind) text).1 b.1
          (reached-tree i.before (34 ∷ behind) b.0 g.1 b.1 text) (i.string g.0 g.1 g.2),
    )

pub escape-refuses : (front : List ℕ) (r : Reader) (c place : ℕ) (e : Refusal) → Reached front r
    → IsInEscape front place → step r (width front) c ≡ Err e
    → (e.rule ≡ UnexpectedEnd → ⊥) → e ≡ refusal BadEscape place
escape-refuses front r c place e h i s n = on (begun-string front r place h i)
  where
    from_front : (b : Reader) → Reached i.before b
        → run b (width i.before) (34 ∷ (i.inner ++ 92 ∷ (i.escape ++ c ∷ []))) ≡ Err e
    from_front b hb =
        sym (reached-run i.before b hb (34 ∷ (i.inner ++ 92 ∷ (i.escape ++ c ∷ []))))
        ∙ ap (λ x. run start 0 x) (sym (ap (λ x. x ++ c ∷ []) i.parts
        ∙ escape_parts i.before i.inner i.escape (c ∷ [])))
        ∙ reached-run front r h (c ∷ [])
        ∙ ap (λ d. d >>= (λ u. run u (width front + len_utf8 c) [])) s

    on : (b : Reader) × Reached i.before b × Begins b 34 → e ≡ refusal BadEscape place
    on b =
        let q = width i.before in
        let k = b.2 in
        let back = q + 1 + width i.inner in
        let f = run-first i.escape i.more k.nodes k.brackets k.phase q back (back + 1) Begun
        i.character i.bytes (c ∷ []) i.unfinished
        (reads-escape (i.escape ++ i.more) i.character i.known) in
        let there : back ≡ place = omega (arith, width-append i.before (34 ∷ i.inner), i.place_is)
        in
        bad-escape k.nodes k.brackets k.phase q back (back + 1 + width i.escape) c f.0 i.bytes e
        (sym (f.1) ∙ sym (run-to_backslash b.0 q i.inner i.bytes (i.escape ++ c ∷ []) k
        i.quoted) ∙ from_front b.0 b.1) n ∙ ap (λ x. refusal BadEscape x) there

pub not_in_escape : (front : List ℕ) (r : Reader) (c : ℕ) (e : Refusal) → Reached front r
    → step r (width front) c ≡ Err e → (e.rule ≡ UnexpectedEnd → ⊥) → (e.rule ≡ BadEscape → ⊥)
    → NotInEscape front
not_in_escape front r c e h s n m place i
    = m (ap (λ x. x.rule) (escape-refuses front r c place e h i s n))
