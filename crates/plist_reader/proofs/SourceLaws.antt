-- What holds of each tree of a source.
use Rattle.std.proofs.Common.{inl, inr, ◌≡◌, ℕ, ◌+◌, ◌<◌, ◌≤◌, Bool, true, false, cond, ltb, List}
use Rattle.std.proofs.Common.{[], ◌∷◌, ◌++◌, length, Ok, refl, sym, ap, subst, ◌∙◌, arith}
use Rattle.std.proofs.Common.{append_assoc}
use Rattle.std.specs.List.{All}
use Rattle.std.proofs.lemmas.Bool.{cases_lt}
use Rattle.std.proofs.lemmas.List.{length-append, append-nil}
use Rattle.std.proofs.lemmas.List.Elements.{All-push, All-weaker, All-nil}
use Rattle.std.proofs.lemmas.Str.{length-encode, len_utf8_bounds, encodes-chars}
use Rattle.std.specs.Str.{chars, encode_utf8_all}
use lib.Utf8.{encode}
use Rattle.plist_reader.specs.declared.tree.Tree.{Tree}
use Rattle.plist_reader.specs.declared.tree.TreeNode.{TreeNode}
use Rattle.plist_reader.specs.declared.tree.TreeValue.{TreeValue}
use Rattle.plist_reader.specs.declared.tree.TreeValue.TheVariants as tree
use Rattle.plist_reader.specs.declared.reader.Reader.{Reader}
use Rattle.plist_reader.specs.declared.reader.Phase.{Phase}
use Rattle.plist_reader.specs.declared.reader.Token.{Token}
use Rattle.plist_reader.specs.declared.reader.Open.{Open}
use Rattle.plist_reader.specs.declared.reader.Open.TheVariants.{Items, Pairs}
use Rattle.plist_reader.specs.Grammar.{node, width, HasTree}
use Rattle.plist_reader.specs.Refusals.{open_at}
use Rattle.plist_reader.specs.Sources.{SaysText, StandsIn, StandsInSource}
use Rattle.plist_reader.specs.Reading.{start, run}
use Rattle.plist_reader.proofs.RunLemmas.{read_of-text}
use Rattle.plist_reader.proofs.Scalars.{AreScalars, source-scalars}
use Rattle.plist_reader.proofs.GivenTokens.{settled, width-append, width-long}
use Rattle.plist_reader.proofs.GivenTexts.{given}
use Rattle.plist_reader.proofs.Moves.{TextEnds, as_value, as_key, Moves, space_between}
use Rattle.plist_reader.proofs.Moves.{string_begins, word_begins, bytes_begin, list_begins}
use Rattle.plist_reader.proofs.Moves.{dictionary_begins, comma, equals, semicolon, list_ends}
use Rattle.plist_reader.proofs.Moves.{dictionary_ends, word_more, word_ends, string_more}
use Rattle.plist_reader.proofs.Moves.{string_ends, escape_begins, escape_more, escape_ends}
use Rattle.plist_reader.proofs.Moves.{space_in_bytes, first_digit, space_in_half, second_digit}
use Rattle.plist_reader.proofs.Moves.{bytes_end, Closes, closes_between, closes_word}
use Rattle.plist_reader.proofs.Fronts.{WordIn, StringIn, TokenIn, ends-between}
use Rattle.plist_reader.proofs.Reached.{Reached, at_start, onward, reached-moves, reached-token}
use Rattle.plist_reader.proofs.Reached.{width-push}
use Rattle.plist_reader.proofs.Depths.{at_of, In, before, Placed, Count, moves-placed, moves-count}
use Rattle.plist_reader.proofs.Depths.{closes-count, reached-placed, runs-keep}
use Rattle.plist_reader.proofs.InEscapes.{reached-end}
use Rattle.plist_reader.proofs.Dictionaries.{tree-dictionaries}

-- ---- the depth

at_most_one : (b : Bool) → cond b 1 0 ≤ 1
at_most_one true = omega arith
at_most_one false = omega arith

before-few : (p : ℕ) (brackets : List Open) → before p brackets ≤ length brackets
before-few p [] = omega arith
before-few p (b ∷ brackets) = omega (arith, at_most_one (ltb (at_of b) p), before-few p brackets)

few-open : (p : ℕ) (r : Reader) → Placed r p → Count p r ≤ 64
few-open p r h = omega (arith, h.nodes p (omega arith), h.shallow, before-few p r.brackets)

few-kept : (p place c : ℕ) (r s : Reader) → Moves place c r s → Placed r place → Count p r ≤ 64
    → Count p s ≤ 64
few-kept p place c r s m h l = elim (cases_lt place p) [
  | inl k ↦ few-open p s (moves-placed place c p r s k m h)
  | inr k ↦ omega
      (arith, moves-count p place c r s k m, l)
]

start-few : (p : ℕ) → Count p start ≤ 64
unfolding start
start-few p = omega arith

tree-few : (cs : List ℕ) (t : Tree) (p : ℕ) → AreScalars cs → run start 0 cs ≡ Ok t
    → open_at p t.nodes ≤ 64
tree-few cs t p i e = runs-keep (λ u. Count p u ≤ 64) (λ x. open_at p x.nodes ≤ 64) 0
    (λ f r s c l h m j. few-kept p (width f) c r s m (reached-placed f r h) j)
    (λ f r x h k j. omega (arith, closes-count p (width f) r x k (reached-placed f r h).outside, j))
    cs [] start t i (omega arith) at_start e (start-few p)

-- ---- values stand in the text

stands-later : (front more : List ℕ) (n : TreeNode) → StandsIn front n → StandsIn (front ++ more) n
stands-later front more n h = record {
  some = h.some;
  inside
      = omega (arith, h.inside, width-append front more);
  says = on n.value h.says;
}
  where
    on : (v : TreeValue) → SaysText front n.place n.end v → SaysText (front ++ more) n.place n.end v
    on (tree.Text bytes) k = record {
      before = k.before;
      text = k.text;
      after = k.after
          ++ more;
      parts = ap (λ x. x ++ more) k.parts
          ∙ append_assoc k.before (k.text ++ k.after) more
          ∙ ap (λ x. k.before ++ x) (append_assoc k.text k.after more);
      place_is = k.place_is;
      end_is
          = k.end_is;
      spelled = k.spelled;
    }
    on (tree.Bytes bytes) k = tt
    on (tree.Items items) k = tt
    on (tree.Pairs pairs) k = tt

abbrev Stand : List ℕ → List TreeNode → Type 0
Stand front nodes = All (StandsIn front) nodes

stand-later : (front more : List ℕ) (nodes : List TreeNode) → Stand front nodes
    → Stand (front ++ more) nodes
stand-later front more nodes h = All-weaker (StandsIn front) (StandsIn (front ++ more))
    (λ n k. stands-later front more n k) nodes h

settled-nodes : (nodes : List TreeNode) (brackets : List Open) (number : ℕ)
    → (settled nodes brackets number).nodes ≡ nodes
settled-nodes nodes [] number = refl
settled-nodes nodes (Items at done ∷ outer) number = refl
settled-nodes nodes (Pairs d ∷ outer) number = refl

-- one more value
stand-value : (front : List ℕ) (nodes : List TreeNode) (n : TreeNode) (brackets : List Open)
    → Stand front nodes → StandsIn front n
    → Stand front (settled (nodes ++ n ∷ []) brackets (length nodes)).nodes
stand-value front nodes n brackets h k = subst (λ (x : List TreeNode). Stand front x)
    (sym (settled-nodes (nodes ++ n ∷ []) brackets (length nodes)))
    (All-push (StandsIn front) nodes n h k)

stand-ended : (front : List ℕ) (nodes : List TreeNode) (brackets : List Open) (phase : Phase)
    (at end : ℕ) (text : List ℕ) (u : Reader)
    → TextEnds nodes brackets phase at end text u → Stand front nodes
    → StandsIn front (node at end (tree.Text text)) → Stand front u.nodes
stand-ended front nodes _ _ _ _ _ _ (as_value brackets phase at end text a) h k
    = stand-value front nodes (node at end (tree.Text text)) brackets h k
stand-ended front nodes _ _ _ _ _ _ (as_key d outer at end text e) h k
    = All-push (StandsIn front) nodes (node at end (tree.Text text)) h k

stands-word : (front text : List ℕ) (at : ℕ) → WordIn front at text
    → StandsIn front (node at (width front) (tree.Text text))
stands-word front text at i =
    let w : width front ≡ width i.before + width i.word = ap width i.parts
    ∙ width-append i.before i.word in
    record {
      some = omega (arith, w, i.place, i.own.some, width-long i.word);
      inside
          = omega arith;
      says = record {
        before = i.before;
        text = i.word;
        after = [];
        parts = i.parts
            ∙ ap (λ x. i.before ++ x) (sym (append-nil i.word));
        place_is = i.place;
        end_is = w;
        spelled
            = inl i.own;
      };
    }

stands-string : (front text : List ℕ) (at c : ℕ) → c ≡ 34 → StringIn front at text
    → StandsIn (front ++ c ∷ []) (node at (width front + 1) (tree.Text text))
stands-string front text at c e i =
    let quoted = 34 ∷ (i.inner ++ 34 ∷ []) in
    let all : front ++ c ∷ [] ≡ i.before ++ (quoted ++ []) = ap (λ x. front ++ x ∷ []) e
    ∙ ap (λ x. x ++ 34 ∷ []) i.parts ∙ append_assoc i.before (34 ∷ i.inner) (34 ∷ [])
    ∙ ap (λ x. i.before ++ x) (sym (append-nil quoted)) in
    let w : width front ≡ width i.before + (1 + width i.inner) = ap width i.parts
    ∙ width-append i.before (34 ∷ i.inner) in
    let q : width quoted ≡ 1 + (width i.inner + 1) = omega (arith, width-append i.inner (34 ∷ []))
    in
    record {
      some = omega (arith, w, i.place);
      inside
          = omega (arith, width-push front c, len_utf8_bounds c);
      says
          = record {
            before = i.before;
            text = quoted;
            after = [];
            parts = all;
            place_is
                = i.place;
            end_is = omega (arith, w, q);
            spelled = inr (i.inner, refl, i.quoted);
          };
    }

-- a value that is no text
abbrev SaysNone : TreeValue → Type 0
SaysNone v = (cs : List ℕ) (place end : ℕ) → SaysText cs place end v

stands-other : (front : List ℕ) (c at : ℕ) (v : TreeValue) → at < width front + 1 → SaysNone v
    → StandsIn (front ++ c ∷ []) (node at (width front + 1) v)
stands-other front c at v l s = record {
  some = l;
  inside
      = omega (arith, width-push front c, len_utf8_bounds c);
  says
      = s (front ++ c ∷ []) at (width front + 1);
}

at_place : (front : List ℕ) (c at end : ℕ) (v : TreeValue) → at < width front + 1
    → width front + 1 ≡ end → SaysNone v → StandsIn (front ++ c ∷ []) (node at end v)
at_place front c at end v l e s = subst (λ (x : ℕ). StandsIn (front ++ c ∷ []) (node at x v)) e
    (stands-other front c at v l s)

between_token : (front : List ℕ) (nodes : List TreeNode) (brackets : List Open) (phase : Phase)
    (at end : ℕ) (text : List ℕ) (u : Reader)
    → TextEnds nodes brackets phase at end text u → TokenIn u.token front u.text
between_token front nodes brackets phase at end text u t
    = subst (λ (x : Token). TokenIn x front u.text)
    (sym (ends-between nodes brackets phase at end text u t)) tt

ended-in : (p : ℕ) (nodes : List TreeNode) (brackets : List Open) (phase : Phase) (at end : ℕ)
    (text : List ℕ) (u : Reader) → TextEnds nodes brackets phase at end text u
    → In p brackets → In p u.brackets
ended-in p nodes _ _ _ _ _ _ (as_value [] phase at end text a) b = b
ended-in p nodes _ _ _ _ _ _ (as_value (Items q done ∷ outer) phase at end text a) b = b
ended-in p nodes _ _ _ _ _ _ (as_value (Pairs d ∷ outer) phase at end text a) b = b
ended-in p nodes _ _ _ _ _ _ (as_key d outer at end text e) b = b

moves-stand : (front : List ℕ) (place c : ℕ) (r s : Reader) → place ≡ width front
    → Moves place c r s → TokenIn r.token front r.text → In place r.brackets → Stand front r.nodes
    → Stand (front ++ c ∷ []) s.nodes
moves-stand front place c _ _ e (space_between nodes brackets phase x) k b h
    = stand-later front (c ∷ []) nodes h
moves-stand front place c _ _ e (string_begins nodes brackets phase a x) k b h
    = stand-later front (c ∷ []) nodes h
moves-stand front place c _ _ e (word_begins nodes brackets phase a w) k b h
    = stand-later front (c ∷ []) nodes h
moves-stand front place c _ _ e (bytes_begin nodes brackets phase a) k b h
    = stand-later front (c ∷ []) nodes h
moves-stand front place c _ _ e (list_begins nodes brackets phase a d) k b h
    = stand-later front (c ∷ []) nodes h
moves-stand front place c _ _ e (dictionary_begins nodes brackets phase a d) k b h
    = stand-later front (c ∷ []) nodes h
moves-stand front place c _ _ e (comma nodes brackets) k b h = stand-later front (c ∷ []) nodes h
moves-stand front place c _ _ e (equals nodes brackets) k b h = stand-later front (c ∷ []) nodes h
moves-stand front place c _ _ e (semicolon nodes brackets) k b h
    = stand-later front (c ∷ []) nodes h
moves-stand front place c _ _ e (list_ends nodes at done outer phase) k b h =
    stand-value (front ++ c ∷ []) nodes (node at (place + 1) (tree.Items done)) outer
    (stand-later front (c ∷ []) nodes h)
    (at_place front c at (place + 1) (tree.Items done) (omega (arith, b.0, e))
    (omega (arith, e)) (λ cs p q. tt))
moves-stand front place c _ _ e (dictionary_ends nodes d outer) k b h =
    stand-value (front ++ c ∷ []) nodes (node d.place (place + 1) (tree.Pairs d.pairs)) outer
    (stand-later front (c ∷ []) nodes h)
    (at_place front c d.place (place + 1) (tree.Pairs d.pairs) (omega (arith, b.0, e))
    (omega (arith, e)) (λ cs p q. tt))
moves-stand front place c _ _ e (word_more nodes brackets phase at text a w) k b h
    = stand-later front (c ∷ []) nodes h
moves-stand front place c _ _ e (word_ends nodes brackets phase at text u s w t m) k b h =
    moves-stand front place c u s e m (between_token front nodes brackets phase at place text u t)
    (ended-in place nodes brackets phase at place text u t b)
    (stand-ended front nodes brackets phase at place text u t h
    (subst (λ (x : ℕ). StandsIn front (node at x (tree.Text text))) (sym e)
    (stands-word front text at k)))
moves-stand front place c _ _ e (string_more nodes brackets phase at text a n m) k b h
    = stand-later front (c ∷ []) nodes h
moves-stand front place c _ _ e (string_ends nodes brackets phase at text s x t) k b h =
    stand-ended (front ++ c ∷ []) nodes brackets phase at (place + 1) text s t
    (stand-later front (c ∷ []) nodes h)
    (subst (λ (y : ℕ). StandsIn (front ++ c ∷ []) (node at (y + 1) (tree.Text text))) (sym e)
    (stands-string front text at c x k))
moves-stand front place c _ _ e (escape_begins nodes brackets phase at text a x) k b h
    = stand-later front (c ∷ []) nodes h
moves-stand front place c _ _ e (escape_more nodes brackets phase at backslash text escape next a x)
    k b h = stand-later front (c ∷ []) nodes h
moves-stand front place c _ _ e (escape_ends nodes brackets phase at backslash text escape character
    a x) k b h = stand-later front (c ∷ []) nodes h
moves-stand front place c _ _ e (space_in_bytes nodes brackets phase at bytes) k b h
    = stand-later front (c ∷ []) nodes h
moves-stand front place c _ _ e (first_digit nodes brackets phase at x bytes y) k b h
    = stand-later front (c ∷ []) nodes h
moves-stand front place c _ _ e (space_in_half nodes brackets phase at high bytes) k b h
    = stand-later front (c ∷ []) nodes h
moves-stand front place c _ _ e (second_digit nodes brackets phase at high byte bytes) k b h
    = stand-later front (c ∷ []) nodes h
moves-stand front place c _ _ e (bytes_end nodes brackets phase at bytes a) k b h =
    stand-value (front ++ c ∷ []) nodes (node at (place + 1) (tree.Bytes bytes)) brackets
    (stand-later front (c ∷ []) nodes h)
    (at_place front c at (place + 1) (tree.Bytes bytes) (omega (arith, k)) (omega (arith, e))
    (λ cs p q. tt))

start-stand : Stand [] start.nodes
unfolding start
start-stand = All-nil (StandsIn [])

reached-stand : (front : List ℕ) (r : Reader) → Reached front r → Stand front r.nodes
reached-stand _ _ at_start = start-stand
reached-stand _ _ (onward front r s c i h e) =
    moves-stand front (width front) c r s refl (reached-moves front r s c h e)
    (reached-token front r h) (reached-placed front r h).brackets (reached-stand front r h)

closes-stand : (front : List ℕ) (r : Reader) (t : Tree) → Closes (width front) r t
    → TokenIn r.token front r.text → Stand front r.nodes → Stand front t.nodes
closes-stand front _ _ (closes_between nodes brackets number) k h = h
closes-stand front _ _ (closes_word nodes phase at text a) k h
    = All-push (StandsIn front) nodes (node at (width front) (tree.Text text)) h
    (stands-word front text at k)

tree-stand : (cs : List ℕ) (t : Tree) → AreScalars cs → run start 0 cs ≡ Ok t → Stand cs t.nodes
tree-stand cs t i e = let b = reached-end cs t i e
    in closes-stand cs b.0 t b.2 (reached-token cs b.0 b.1) (reached-stand cs b.0 b.1)

-- ---- sources

pub width-bytes : (cs : List ℕ) → width cs ≡ length (encode_utf8_all cs)
width-bytes [] = refl
width-bytes (c ∷ cs) = omega (
  arith,
  width-bytes cs,
  length-append (encode c) (encode_utf8_all cs),
  length-encode c,
)

pub stands_in_source : (source : List ℕ) (t : Tree) (h : HasTree source t) → StandsInSource source t
stands_in_source source t h =
    let cs = chars source in
    let i = source-scalars source h.utf8 in
    let reads : run start 0 cs ≡ Ok t = sym (read_of-text source h.utf8) ∙ given source t h in
    record {
      bytes = width-bytes cs ∙ ap length (encodes-chars source h.utf8);
      values = tree-stand cs t i reads;
      depth = λ p. tree-few cs t p i reads;
      dictionaries = tree-dictionaries cs t i reads;
    }
