-- How many brackets are open at the end of a front, and in each tree of a text that begins so.
use Rattle.std.proofs.Common.{◌≡◌, ℕ, ◌+◌, ◌<◌, ◌≤◌, Bool, true, false, cond, ltb, ◌&&◌, List, []}
use Rattle.std.proofs.Common.{◌∷◌, ◌++◌, length, Result, Ok, Err, refl, sym, ap, ◌∙◌, arith}
use Rattle.std.specs.List.{AllByRecursion}
use Rattle.std.proofs.lemmas.Bool.{false≢true, lt-ltb, le-ltb}
use Rattle.std.proofs.lemmas.Str.{len_utf8_bounds}
use Rattle.std.specs.Char.{len_utf8}
use Rattle.refusal_codes.specs.declared.refusal.Refusal.{Refusal}
use Rattle.plist_reader.specs.declared.tree.Tree.{Tree}
use Rattle.plist_reader.specs.declared.tree.TreeNode.{TreeNode}
use Rattle.plist_reader.specs.declared.tree.TreeValue.TheVariants as tree
use Rattle.plist_reader.specs.declared.reader.Reader.{Reader}
use Rattle.plist_reader.specs.declared.reader.Phase.{Phase}
use Rattle.plist_reader.specs.declared.reader.Phase.TheVariants.{Value, Item, ItemEnd, Key, KeyEnd}
use Rattle.plist_reader.specs.declared.reader.Phase.TheVariants.{PairEnd}
use Rattle.plist_reader.specs.declared.reader.Token.{Token}
use Rattle.plist_reader.specs.declared.reader.Open.{Open}
use Rattle.plist_reader.specs.declared.reader.Open.TheVariants.{Items, Pairs}
use Rattle.plist_reader.specs.Grammar.{node, width, tree_of}
use Rattle.plist_reader.specs.Refusals.{is_container, is_open_at, open_at, IsDeep}
use Rattle.refusal_codes.specs.Gives.{◌>>=◌}
use Rattle.plist_reader.specs.Reading.{is_end, start, step, finish, run}
use Rattle.plist_reader.proofs.GivenTokens.{ready, in_token, settled, run_same}
use Rattle.plist_reader.proofs.Moves.{TextEnds, as_value, as_key, Moves, space_between}
use Rattle.plist_reader.proofs.Moves.{string_begins, word_begins, bytes_begin, list_begins}
use Rattle.plist_reader.proofs.Moves.{dictionary_begins, comma, equals, semicolon, list_ends}
use Rattle.plist_reader.proofs.Moves.{dictionary_ends, word_more, word_ends, string_more}
use Rattle.plist_reader.proofs.Moves.{string_ends, escape_begins, escape_more, escape_ends}
use Rattle.plist_reader.proofs.Moves.{space_in_bytes, first_digit, space_in_half, second_digit}
use Rattle.plist_reader.proofs.Moves.{bytes_end, Closes, closes_between, closes_word, closes}
use Rattle.plist_reader.proofs.Scalars.{AreScalars, front-scalars}
use Rattle.plist_reader.proofs.Reached.{Reached, at_start, onward, at_ok, reached-good}
use Rattle.plist_reader.proofs.Reached.{reached-moves, reached-tree, width-push}
use Rattle.plist_reader.proofs.GivenTexts.{opened}

-- ---- brackets in nodes and in readers

abbrev bit : Bool → ℕ
bit b = cond b 1 0

open_at-push : (p : ℕ) (nodes : List TreeNode) (n : TreeNode)
    → open_at p (nodes ++ n ∷ []) ≡ open_at p nodes + bit (is_open_at p n)
open_at-push p [] n = omega arith
open_at-push p (m ∷ nodes) n = omega (arith, open_at-push p nodes n)

abbrev pub at_of : Open → ℕ
at_of (Items at done) = at
at_of (Pairs d) = d.place

-- the open brackets that stand in front of a place
abbrev pub before : ℕ → List Open → ℕ
before p [] = 0
before p (b ∷ brackets) = bit (ltb (at_of b) p) + before p brackets

abbrev pub In : ℕ → List Open → Type 0
In p brackets = AllByRecursion (λ b. at_of b < p) brackets

In-later : (p q : ℕ) (brackets : List Open) → p ≤ q → In p brackets → In q brackets
In-later p q [] l h = tt
In-later p q (b ∷ brackets) l h = (omega (arith, h.0), In-later p q brackets l h.1)

before-all : (p : ℕ) (brackets : List Open) → In p brackets → before p brackets ≡ length brackets
before-all p [] h = refl
before-all p (b ∷ brackets) h = let one : bit (ltb (at_of b) p)
    ≡ 1 = rw (lt-ltb (at_of b) p h.0) refl in omega (arith, one, before-all p brackets h.1)

-- ---- what holds of each reader

abbrev pub Ended : ℕ → List TreeNode → Type 0
Ended p nodes = (q : ℕ) → p ≤ q → open_at q nodes ≡ 0

pub record Placed (r : Reader) (p : ℕ) : Type 0 where
  pub outside : is_end r.phase ≡ true → r.brackets ≡ []
  pub nodes : Ended p r.nodes
  pub brackets : In p r.brackets
  pub shallow : length r.brackets ≤ 64

not_open : (p at end : ℕ) (a : Bool) → end ≤ p → bit (a && ltb at p && ltb p end) ≡ 0
not_open p at end a l = rw (le-ltb p end l) (falls a (ltb at p))
  where
    falls : (x y : Bool) → bit (x && y && false) ≡ 0
    falls true true = refl
    falls true false = refl
    falls false y = refl

ended-push : (p q : ℕ) (nodes : List TreeNode) (n : TreeNode) → p ≤ q → n.end ≤ q → Ended p nodes
    → Ended q (nodes ++ n ∷ [])
ended-push p q nodes n l e h k m = open_at-push k nodes n
    ∙ omega (
      arith,
      h k (omega arith),
      not_open k n.place n.end (is_container n.value)
          (omega (arith, e)),
    )

ended-later : (p q : ℕ) (nodes : List TreeNode) → p ≤ q → Ended p nodes → Ended q nodes
ended-later p q nodes l h k m = h k (omega arith)

no_way : (brackets : List Open) → false ≡ true → brackets ≡ []
no_way brackets e = absurd (false≢true e)

-- another token, with the same values and brackets
token-placed : (nodes : List TreeNode) (brackets : List Open) (phase : Phase) (t u : Token)
    (text more bytes made : List ℕ) (p q : ℕ) → p ≤ q
    → Placed (in_token nodes brackets phase t text bytes) p
    → Placed (in_token nodes brackets phase u more made) q
token-placed nodes brackets phase t u text more bytes made p q l h
    = record {
      outside = h.outside;
      nodes = ended-later p q nodes l h.nodes;
      brackets
          = In-later p q brackets l h.brackets;
      shallow = h.shallow;
    }

phase-placed : (nodes : List TreeNode) (brackets : List Open) (phase next : Phase) (p q : ℕ) → p ≤ q
    → is_end next ≡ false → Placed (ready nodes brackets phase) p
    → Placed (ready nodes brackets next) q
phase-placed nodes brackets phase next p q l e h
    = record {
      outside = λ f. no_way brackets (sym e ∙ f);
      nodes
          = ended-later p q nodes l h.nodes;
      brackets = In-later p q brackets l h.brackets;
      shallow
          = h.shallow;
    }

opened-placed : (nodes : List TreeNode) (brackets : List Open) (phase next : Phase) (b : Open)
    (p q : ℕ) → p < q → is_end next ≡ false → at_of b < q → length brackets < 64
    → Placed (ready nodes brackets phase) p → Placed (ready nodes (b ∷ brackets) next) q
opened-placed nodes brackets phase next b p q l e a d h
    = record {
      outside = λ f. no_way (b ∷ brackets) (sym e ∙ f);
      nodes
          = ended-later p q nodes (omega arith) h.nodes;
      brackets
          = (a, In-later p q brackets (omega arith) h.brackets);
      shallow = omega (arith, d);
    }

settled-placed : (nodes : List TreeNode) (brackets : List Open) (number p : ℕ) → Ended p nodes
    → In p brackets → length brackets ≤ 64 → Placed (settled nodes brackets number) p
settled-placed nodes [] number p n b s = record
    { outside = λ f. refl; nodes = n; brackets = tt; shallow = s }
settled-placed nodes (Items at done ∷ outer) number p n b s
    = record {
      outside = no_way (Items at (done ++ number ∷ []) ∷ outer);
      nodes = n;
      brackets
          = b;
      shallow = s;
    }
settled-placed nodes (Pairs d ∷ outer) number p n b s
    = record {
      outside = no_way (Pairs (record d { pairs = d.pairs ++ (d.key, number) ∷ [] })
          ∷ outer);
      nodes = n;
      brackets = b;
      shallow = s;
    }

text-placed : (nodes : List TreeNode) (brackets : List Open) (phase : Phase) (token : Token)
    (at end p q : ℕ) (text : List ℕ) (s : Reader)
    → TextEnds nodes brackets phase at end text s → p ≤ q → end ≤ q
    → Placed (in_token nodes brackets phase token text []) p → Placed s q
text-placed nodes _ _ token _ _ p q _ _ (as_value brackets phase at end text a) l e h =
    settled-placed (nodes ++ node at end (tree.Text text) ∷ []) brackets (length nodes) q
    (ended-push p q nodes (node at end (tree.Text text)) l e h.nodes)
    (In-later p q brackets l h.brackets) h.shallow
text-placed nodes _ _ token _ _ p q _ _ (as_key d outer at end text a) l e h = record {
  outside = no_way (Pairs (record d { keys = d.keys ++ text ∷ []; key = length nodes }) ∷ outer);
  nodes = ended-push p q nodes (node at end (tree.Text text)) l e h.nodes;
  brackets = In-later p q (Pairs d ∷ outer) l h.brackets;
  shallow = h.shallow;
}

-- the reader behind a word that has ended is one at the same place
pub moves-placed : (place c q : ℕ) (r s : Reader) → place < q → Moves place c r s → Placed r place
    → Placed s q
moves-placed place c q _ _ l (space_between nodes brackets phase e) h
    = token-placed nodes brackets phase _ _ [] [] [] [] place q (omega arith) h
moves-placed place c q _ _ l (string_begins nodes brackets phase b e) h
    = token-placed nodes brackets phase _ _ [] [] [] [] place q (omega arith) h
moves-placed place c q _ _ l (word_begins nodes brackets phase b w) h
    = token-placed nodes brackets phase _ _ [] _ [] [] place q (omega arith) h
moves-placed place c q _ _ l (bytes_begin nodes brackets phase a) h
    = token-placed nodes brackets phase _ _ [] [] [] [] place q (omega arith) h
moves-placed place c q _ _ l (list_begins nodes brackets phase a d) h
    = opened-placed nodes brackets phase Item (Items place []) place q l refl l d h
moves-placed place c q _ _ l (dictionary_begins nodes brackets phase a d) h
    = opened-placed nodes brackets phase Key (Pairs (opened place)) place q l refl l d h
moves-placed place c q _ _ l (comma nodes brackets) h
    = phase-placed nodes brackets ItemEnd Item place q (omega arith) refl h
moves-placed place c q _ _ l (equals nodes brackets) h
    = phase-placed nodes brackets KeyEnd Value place q (omega arith) refl h
moves-placed place c q _ _ l (semicolon nodes brackets) h
    = phase-placed nodes brackets PairEnd Key place q (omega arith) refl h
moves-placed place c q _ _ l (list_ends nodes at done outer phase) h =
    settled-placed (nodes ++ node at (place + 1) (tree.Items done) ∷ []) outer (length nodes) q
    (ended-push place q nodes (node at (place + 1) (tree.Items done)) (omega arith)
    (omega arith) h.nodes) (In-later place q outer (omega arith) h.brackets.1)
    (omega (arith, h.shallow))
moves-placed place c q _ _ l (dictionary_ends nodes d outer) h =
    settled-placed (nodes ++ node d.place (place + 1) (tree.Pairs d.pairs) ∷ []) outer
    (length nodes) q (ended-push place q nodes (node d.place (place + 1) (tree.Pairs d.pairs))
    (omega arith) (omega arith) h.nodes) (In-later place q outer (omega arith) h.brackets.1)
    (omega (arith, h.shallow))
moves-placed place c q _ _ l (word_more nodes brackets phase at text b w) h
    = token-placed nodes brackets phase _ _ text _ [] [] place q (omega arith) h
moves-placed place c q _ _ l (word_ends nodes brackets phase at text u s w t m) h =
    moves-placed place c q u s l m (text-placed nodes brackets phase _ at place place place text u t
    (omega arith) (omega arith) h)
moves-placed place c q _ _ l (string_more nodes brackets phase at text b n m) h
    = token-placed nodes brackets phase _ _ text _ [] [] place q (omega arith) h
moves-placed place c q _ _ l (string_ends nodes brackets phase at text s e t) h
    = text-placed nodes brackets phase _ at (place + 1) place q text s t (omega arith) (omega arith)
    h
moves-placed place c q _ _ l (escape_begins nodes brackets phase at text b e) h
    = token-placed nodes brackets phase _ _ text text [] [] place q (omega arith) h
moves-placed place c q _ _ l (escape_more nodes brackets phase at backslash text escape next b e) h
    = token-placed nodes brackets phase _ _ text text [] [] place q (omega arith) h
moves-placed place c q _ _ l (escape_ends nodes brackets phase at backslash text escape character b
    e) h = token-placed nodes brackets phase _ _ text _ [] [] place q (omega arith) h
moves-placed place c q _ _ l (space_in_bytes nodes brackets phase at bytes) h
    = token-placed nodes brackets phase _ _ [] [] bytes bytes place q (omega arith) h
moves-placed place c q _ _ l (first_digit nodes brackets phase at x bytes e) h
    = token-placed nodes brackets phase _ _ [] [] bytes bytes place q (omega arith) h
moves-placed place c q _ _ l (space_in_half nodes brackets phase at high bytes) h
    = token-placed nodes brackets phase _ _ [] [] bytes bytes place q (omega arith) h
moves-placed place c q _ _ l (second_digit nodes brackets phase at high byte bytes) h
    = token-placed nodes brackets phase _ _ [] [] bytes _ place q (omega arith) h
moves-placed place c q _ _ l (bytes_end nodes brackets phase at bytes a) h =
    settled-placed (nodes ++ node at (place + 1) (tree.Bytes bytes) ∷ []) brackets (length nodes) q
    (ended-push place q nodes (node at (place + 1) (tree.Bytes bytes)) (omega arith)
    (omega arith) h.nodes) (In-later place q brackets (omega arith) h.brackets) h.shallow

start-placed : Placed start 0
unfolding start
start-placed = record {
  outside = λ e. refl;
  nodes = λ q l. refl;
  brackets = tt;
  shallow
      = omega arith;
}

pub reached-placed : (front : List ℕ) (r : Reader) → Reached front r → Placed r (width front)
reached-placed _ _ at_start = start-placed
reached-placed _ _ (onward front r s c i h e) =
    moves-placed (width front) c (width (front ++ c ∷ [])) r s
    (omega (arith, width-push front c, len_utf8_bounds c)) (reached-moves front r s c h e)
    (reached-placed front r h)

-- ---- the count stays the same

abbrev pub Count : ℕ → Reader → ℕ
Count p r = open_at p r.nodes + before p r.brackets

before-settled : (p number : ℕ) (nodes : List TreeNode) (brackets : List Open)
    → Count p (settled nodes brackets number) ≡ open_at p nodes + before p brackets
before-settled p number nodes [] = refl
before-settled p number nodes (Items at done ∷ outer) = refl
before-settled p number nodes (Pairs d ∷ outer) = refl

-- a bracket that closes behind the place is counted among the nodes in its stead
closed-count : (p at place : ℕ) (nodes : List TreeNode) (n : TreeNode) (outer : List Open)
    → p ≤ place → is_open_at p n ≡ (ltb at p && ltb p (place + 1))
    → Count p (settled (nodes ++ n ∷ []) outer (length nodes))
    ≡ open_at p nodes + (bit (ltb at p) + before p outer)
closed-count p at place nodes n outer l e =
    let behind : ltb p (place + 1) ≡ true = lt-ltb p (place + 1) (omega arith) in
    let counted : bit (is_open_at p n) ≡ bit (ltb at p) = ap bit e ∙ rw behind (both (ltb at p)) in
    before-settled p (length nodes) (nodes ++ n ∷ []) outer
    ∙ omega (arith, open_at-push p nodes n, counted)
  where
    both : (x : Bool) → bit (x && true) ≡ bit x
    both true = refl
    both false = refl

-- a text or a byte string is none
token-count : (p : ℕ) (nodes : List TreeNode) (n : TreeNode) (brackets : List Open)
    → is_open_at p n ≡ false
    → Count p (settled (nodes ++ n ∷ []) brackets (length nodes))
    ≡ open_at p nodes + before p brackets
token-count p nodes n brackets e = let counted : bit (is_open_at p n) ≡ 0 = ap bit e
    in before-settled p (length nodes) (nodes ++ n ∷ []) brackets
    ∙ omega (arith, open_at-push p nodes n, counted)

text-count : (p : ℕ) (nodes : List TreeNode) (brackets : List Open) (phase : Phase) (at end : ℕ)
    (text : List ℕ) (s : Reader) → TextEnds nodes brackets phase at end text s
    → Count p s ≡ open_at p nodes + before p brackets
text-count p nodes _ _ _ _ _ _ (as_value brackets phase at end text a)
    = token-count p nodes (node at end (tree.Text text)) brackets refl
text-count p nodes _ _ _ _ _ _ (as_key d outer at end text a)
    = omega (arith, open_at-push p nodes (node at end (tree.Text text)))

opened-count : (p place : ℕ) (nodes : List TreeNode) (b : Open) (brackets : List Open) → p ≤ place
    → at_of b ≡ place
    → open_at p nodes + (bit (ltb (at_of b) p) + before p brackets)
    ≡ open_at p nodes + before p brackets
opened-count p place nodes b brackets l e = let behind : bit (ltb (at_of b) p)
    ≡ 0 = rw (e, le-ltb place p l) refl in omega (arith, behind)

pub moves-count : (p place c : ℕ) (r s : Reader) → p ≤ place → Moves place c r s
    → Count p s ≡ Count p r
moves-count p place c _ _ l (space_between nodes brackets phase e) = refl
moves-count p place c _ _ l (string_begins nodes brackets phase b e) = refl
moves-count p place c _ _ l (word_begins nodes brackets phase b w) = refl
moves-count p place c _ _ l (bytes_begin nodes brackets phase a) = refl
moves-count p place c _ _ l (list_begins nodes brackets phase a d)
    = opened-count p place nodes (Items place []) brackets l refl
moves-count p place c _ _ l (dictionary_begins nodes brackets phase a d)
    = opened-count p place nodes (Pairs (opened place)) brackets l refl
moves-count p place c _ _ l (comma nodes brackets) = refl
moves-count p place c _ _ l (equals nodes brackets) = refl
moves-count p place c _ _ l (semicolon nodes brackets) = refl
moves-count p place c _ _ l (list_ends nodes at done outer phase)
    = closed-count p at place nodes (node at (place + 1) (tree.Items done)) outer l refl
moves-count p place c _ _ l (dictionary_ends nodes d outer)
    = closed-count p d.place place nodes (node d.place (place + 1) (tree.Pairs d.pairs)) outer l
    refl
moves-count p place c _ _ l (word_more nodes brackets phase at text b w) = refl
moves-count p place c _ _ l (word_ends nodes brackets phase at text u s w t m)
    = moves-count p place c u s l m ∙ text-count p nodes brackets phase at place text u t
moves-count p place c _ _ l (string_more nodes brackets phase at text b n m) = refl
moves-count p place c _ _ l (string_ends nodes brackets phase at text s e t)
    = text-count p nodes brackets phase at (place + 1) text s t
moves-count p place c _ _ l (escape_begins nodes brackets phase at text b e) = refl
moves-count p place c _ _ l (escape_more nodes brackets phase at backslash text escape next b e)
    = refl
moves-count p place c _ _ l (escape_ends nodes brackets phase at backslash text escape character b
    e) = refl
moves-count p place c _ _ l (space_in_bytes nodes brackets phase at bytes) = refl
moves-count p place c _ _ l (first_digit nodes brackets phase at x bytes e) = refl
moves-count p place c _ _ l (space_in_half nodes brackets phase at high bytes) = refl
moves-count p place c _ _ l (second_digit nodes brackets phase at high byte bytes) = refl
moves-count p place c _ _ l (bytes_end nodes brackets phase at bytes a)
    = token-count p nodes (node at (place + 1) (tree.Bytes bytes)) brackets refl

pub closes-count : (p place : ℕ) (r : Reader) (t : Tree) → Closes place r t
    → (is_end r.phase ≡ true → r.brackets ≡ []) → open_at p t.nodes ≡ Count p r
closes-count p place _ _ (closes_between nodes brackets number) o = let none : before p brackets
    ≡ 0 = ap (λ b. before p b) (o refl) in omega (arith, none)
closes-count p place _ _ (closes_word nodes phase at text a) o
    = omega (arith, open_at-push p nodes (node at place (tree.Text text)))

-- ---- whole runs

never_ok : {B : Type 0} (x : Refusal) (t : B) → ◌≡◌ {A = Result B Refusal} (Err x) (Ok t) → ⊥
never_ok x t e = cc

pub ok_bind : {A B : Type 0} (d : Result A Refusal) (f : A → Result B Refusal) (t : B)
    → (d >>= f) ≡ Ok t → (u : A) × (d ≡ Ok u) × (f u ≡ Ok t)
ok_bind (Ok u) f t e = (u, refl, e)
ok_bind (Err x) f t e = absurd (never_ok x t e)

-- what holds of a tree that is read from a reader on, if the readers on the way keep it
pub runs-keep : (J : Reader → Type 0) (K : Tree → Type 0) (from : ℕ)
    → ((front : List ℕ) (r s : Reader) (c : ℕ) → from ≤ width front → Reached front r
    → Moves (width front) c r s → J r → J s)
    → ((front : List ℕ) (r : Reader) (t : Tree) → Reached front r → Closes (width front) r t → J r
    → K t)
    → (cs front : List ℕ) (r : Reader) (t : Tree) → AreScalars cs → from ≤ width front
    → Reached front r → run r (width front) cs ≡ Ok t → J r → K t
runs-keep J K from k z [] front r t i l h e j
    = z front r t h (at_ok (Closes (width front) r) (finish r (width front)) t e
    (closes r (width front) (reached-good front r h))) j
runs-keep J K from k z (c ∷ cs) front r t i l h e j =
    let u = ok_bind (step r (width front) c) (λ s. run s (width front + len_utf8 c) cs) t e in
    runs-keep J K from k z cs (front ++ c ∷ []) u.0 t i.1 (omega (arith, width-push front c))
    (onward front r u.0 c i.0 h u.1) (run_same u.0 u.0 (width (front ++ c ∷ []))
    (width front + len_utf8 c) cs refl (width-push front c) ∙ u.2)
    (k front r u.0 c l h (reached-moves front r u.0 c h u.1) j)

pub reached-deep : (front : List ℕ) (r : Reader) → Reached front r
    → IsDeep front (length r.brackets)
reached-deep front r h rest v s =
    let p = width front in
    let placed = reached-placed front r h in
    let here : Count p r ≡ length r.brackets
    = omega (arith, placed.nodes p (omega arith), before-all p r.brackets placed.brackets) in
    runs-keep (λ u. Count p u ≡ length r.brackets) (λ t. open_at p t.nodes ≡ length r.brackets) p
    (λ f u w c l k m j. moves-count p (width f) c u w l m ∙ j)
    (λ f u t k m j. closes-count p (width f) u t m (reached-placed f u k).outside ∙ j)
    rest front r (tree_of v) (front-scalars v front rest s).1 (omega arith) h
    (reached-tree front rest r v h s) here
