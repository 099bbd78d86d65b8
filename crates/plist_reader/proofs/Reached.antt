-- The readers that the characters of a front lead to, and what goes on from them.
use Rattle.std.proofs.Common.{◌≡◌, ℕ, ◌+◌, List, [], ◌∷◌, ◌++◌, Result, Ok, Err, refl, sym, ap}
use Rattle.std.proofs.Common.{subst, ◌∙◌, arith, append_assoc, IfOk}
use Rattle.std.proofs.lemmas.List.{append-nil}
use Rattle.std.specs.Char.{IsScalar, len_utf8}
use Rattle.refusal_codes.specs.declared.refusal.Refusal.{Refusal}
use Rattle.plist_reader.specs.declared.tree.Tree.{Tree}
use Rattle.plist_reader.specs.declared.reader.Reader.{Reader}
use Rattle.plist_reader.specs.Grammar.{Value, width, IsTextOf, tree_of}
use Rattle.plist_reader.specs.Refusals.{CanGoOn, IsWhole}
use Rattle.refusal_codes.specs.Gives.{◌>>=◌}
use Rattle.plist_reader.specs.Reading.{start, step, finish, run}
use Rattle.plist_reader.proofs.RunLemmas.{run_step}
use Rattle.plist_reader.proofs.GivenTokens.{run_same, width-append}
use Rattle.plist_reader.proofs.GivenTexts.{run-text_of}
use Rattle.plist_reader.proofs.Scalars.{AreScalars, all-append}
use Rattle.plist_reader.proofs.SpelledSteps.{Good, Back}
use Rattle.plist_reader.proofs.SpelledTexts.{back-step, Spelled, run-spelled}
use Rattle.plist_reader.proofs.Moves.{Moves, moves}
use Rattle.plist_reader.proofs.CanGoOn.{completes}
use Rattle.plist_reader.proofs.Fronts.{TokenIn, lively-in, moves-token}

-- the reader behind these characters
pub data Reached : List ℕ → Reader → Type 0 where
  at_start : Reached [] start
  onward : (front : List ℕ) (r s : Reader) (c : ℕ) → IsScalar c → Reached front r
      → step r (width front) c ≡ Ok s → Reached (front ++ c ∷ []) s

pub at_ok : {A : Type 0} (P : A → Type 0) (d : Result A Refusal) (s : A) → d ≡ Ok s → IfOk d P → P s
at_ok {A} P d s e h = let Q : Result A Refusal → Type 0 = λ x. IfOk x P in subst Q e h

start-good : Good start
unfolding start
start-good = (tt, refl, refl)

start-token : TokenIn start.token [] start.text
unfolding start
start-token = tt

pub reached-good : (front : List ℕ) (r : Reader) → Reached front r → Good r
reached-good _ _ at_start = start-good
reached-good _ _ (onward front r s c i h e)
    = (at_ok (Back r (width front) c) (step r (width front) c) s e
    (back-step r (width front) c i (reached-good front r h))).0

pub reached-moves : (front : List ℕ) (r s : Reader) (c : ℕ) → Reached front r
    → step r (width front) c ≡ Ok s → Moves (width front) c r s
reached-moves front r s c h e = at_ok (Moves (width front) c r) (step r (width front) c) s e
    (moves r (width front) c (reached-good front r h))

pub reached-token : (front : List ℕ) (r : Reader) → Reached front r → TokenIn r.token front r.text
reached-token _ _ at_start = start-token
reached-token _ _ (onward front r s c i h e)
    = moves-token front (width front) c r s refl i (reached-moves front r s c h e)
    (reached-token front r h)

pub reached-scalars : (front : List ℕ) (r : Reader) → Reached front r → AreScalars front
reached-scalars _ _ at_start = tt
reached-scalars _ _ (onward front r s c i h e)
    = all-append IsScalar front (c ∷ []) (reached-scalars front r h) (i, tt)

pub width-push : (front : List ℕ) (c : ℕ) → width (front ++ c ∷ []) ≡ width front + len_utf8 c
width-push front c = omega (arith, width-append front (c ∷ []))

-- what goes on behind a front goes on from its reader
pub reached-run : (front : List ℕ) (r : Reader) → Reached front r → (more : List ℕ)
    → run start 0 (front ++ more) ≡ run r (width front) more
reached-run _ _ at_start more = refl
reached-run _ _ (onward front r s c i h e) more =
    ap (λ x. run start 0 x) (append_assoc front (c ∷ []) more) ∙ reached-run front r h (c ∷ more)
    ∙ run_step r s (width front) c more e
    ∙ run_same s s (width front + len_utf8 c) (width (front ++ c ∷ [])) more refl
    (sym (width-push front c))

-- ---- some text goes on

pub spelled-ok : (cs : List ℕ) (t : Tree) → AreScalars cs → run start 0 cs ≡ Ok t → Spelled cs t
spelled-ok cs t i e = at_ok (Spelled cs) (run start 0 cs) t e (run-spelled cs i)

pub reached-goes_on : (front : List ℕ) (r : Reader) → Reached front r → CanGoOn front
reached-goes_on front r h =
    let c = completes r (width front) (reached-good front r h)
    (lively-in r.token front r.text (reached-token front r h)) in
    let k = spelled-ok (front ++ c.rest) c.tree
    (all-append IsScalar front c.rest (reached-scalars front r h) c.scalars)
    (reached-run front r h c.rest ∙ c.runs) in
    (c.rest, k.0, k.1)

-- a text with a tree that begins with a front is read from there
pub reached-tree : (front rest : List ℕ) (r : Reader) (v : Value) → Reached front r
    → IsTextOf v (front ++ rest) → run r (width front) rest ≡ Ok (tree_of v)
reached-tree front rest r v h s = sym (reached-run front r h rest) ∙ run-text_of v (front ++ rest) s

pub reached-finish : (front : List ℕ) (r : Reader) → Reached front r
    → run start 0 front ≡ finish r (width front)
reached-finish front r h = ap (λ x. run start 0 x) (sym (append-nil front))
    ∙ reached-run front r h []

pub err_not_ok : {A : Type 0} (e : Refusal) (t : A) (d : Result A Refusal) → d ≡ Err e → d ≡ Ok t
    → ⊥
err_not_ok e t d h k = cc

pub whole-finishes : (front : List ℕ) (r : Reader) → Reached front r → IsWhole front
    → (t : Tree) × (finish r (width front) ≡ Ok t)
whole-finishes front r h w = (
  tree_of w.0,
  sym (reached-finish front r h)
      ∙ run-text_of w.0 front w.1,
)

pub finishes-whole : (front : List ℕ) (r : Reader) (t : Tree) → Reached front r
    → finish r (width front) ≡ Ok t → IsWhole front
finishes-whole front r t h e = let k = spelled-ok front t (reached-scalars front r h)
    (reached-finish front r h ∙ e) in (k.0, k.1)

pub refused-stops : (front : List ℕ) (r : Reader) (c : ℕ) (e : Refusal) → Reached front r
    → step r (width front) c ≡ Err e → ¬ (CanGoOn (front ++ c ∷ []))
refused-stops front r c e h s g =
    err_not_ok e (tree_of g.1) (run r (width front) (c ∷ g.0))
    (ap (λ d. d >>= (λ u. run u (width front + len_utf8 c) g.0)) s)
    (reached-tree front (c ∷ g.0) r g.1 h (subst (λ (x : List ℕ). IsTextOf g.1 x)
    (append_assoc front (c ∷ []) g.0) g.2))

-- ---- where reading stops

abbrev pub StopOf : Reader → ℕ → List ℕ → Refusal → Type 0
StopOf r place [] e = finish r place ≡ Err e
StopOf r place (c ∷ cs) e = step r place c ≡ Err e

pub record StopsBehind (cs : List ℕ) (e : Refusal) : Type 0 where
  pub front : List ℕ
  pub rest : List ℕ
  pub state : Reader
  pub reached : Reached front state
  pub parts : cs ≡ front ++ rest
  pub stop : StopOf state (width front) rest e

same_error : {A : Type 0} (x e : Refusal) (d : Result A Refusal) → d ≡ Err x → d ≡ Err e → x ≡ e
same_error x e d h k = cc

stops-step : (cs front : List ℕ) (r : Reader) (c : ℕ) (e : Refusal) (d : Result Reader Refusal)
    → IsScalar c → step r (width front) c ≡ d → Reached front r
    → ((u : Reader) → Reached (front ++ c ∷ []) u → run u (width (front ++ c ∷ [])) cs ≡ Err e
    → StopsBehind ((front ++ c ∷ []) ++ cs) e)
    → (d >>= (λ u. run u (width front + len_utf8 c) cs)) ≡ Err e → StopsBehind (front ++ c ∷ cs) e
stops-step cs front r c e (Ok u) i q h next s =
    let P : List ℕ → Type 0 = λ x. StopsBehind x e in
    subst P (append_assoc front (c ∷ []) cs)
    (next u (onward front r u c i h q) (run_same u u (width (front ++ c ∷ []))
    (width front + len_utf8 c) cs refl (width-push front c) ∙ s))
stops-step cs front r c e (Err x) i q h next s =
    let E : Refusal → Result Reader Refusal = λ y. Err y in
    record {
      front = front;
      rest = c ∷ cs;
      state = r;
      reached = h;
      parts = refl;
      stop = q
          ∙ ap E (same_error x e ((Err x) >>= (λ u. run u (width front + len_utf8 c) cs)) refl s);
    }

stops-behind : (cs front : List ℕ) (r : Reader) (e : Refusal) → AreScalars cs → Reached front r
    → run r (width front) cs ≡ Err e → StopsBehind (front ++ cs) e
stops-behind [] front r e i h s = record
    { front = front; rest = []; state = r; reached = h; parts = refl; stop = s }
stops-behind (c ∷ cs) front r e i h s = stops-step cs front r c e (step r (width front) c) i.0 refl
    h (λ u k q. stops-behind cs (front ++ c ∷ []) u e i.1 k q) s

pub stopped : (cs : List ℕ) (e : Refusal) → AreScalars cs → run start 0 cs ≡ Err e
    → StopsBehind cs e
stopped cs e i s = stops-behind cs [] start e i at_start s
