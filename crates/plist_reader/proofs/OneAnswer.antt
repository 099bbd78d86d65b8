-- A source has one answer: its tree or its refusal.
use Rattle.std.proofs.Common.{inl, inr, ◌≡◌, ℕ, List, [], ◌∷◌, ◌++◌, Result, Ok, Err, refl, sym, ap}
use Rattle.std.proofs.Common.{subst, ◌∙◌}
use Rattle.std.specs.Prelude.{◌⊎◌}
use Rattle.std.proofs.lemmas.List.{append-nil}
use Rattle.std.specs.Char.{IsScalar}
use Rattle.std.specs.Str.{chars, is_utf8, IsUtf8}
use Rattle.std.proofs.lemmas.Str.{IsUtf8-from_is_utf8, is_utf8-from_IsUtf8}
use Rattle.std.proofs.lemmas.Bool.{cases_Bool, both_ways}
use Rattle.refusal_codes.specs.declared.refusal.Refusal.{Refusal}
use Rattle.refusal_codes.specs.declared.rule.Rule.TheVariants.{UnexpectedEnd}
use Rattle.plist_reader.specs.declared.tree.Tree.{Tree}
use Rattle.plist_reader.specs.declared.reader.Reader.{Reader}
use Rattle.plist_reader.specs.Grammar.{width, HasTree}
use Rattle.plist_reader.specs.Refusals.{CanGoOn, IsExplained, bad_escape, twice, too_deep, trailing}
use Rattle.plist_reader.specs.Refusals.{unexpected, IsReason, IsRefusal, refusal}
use Rattle.plist_reader.specs.Reading.{start, step, finish, run, read_of}
use Rattle.plist_reader.proofs.RunLemmas.{read_of-text, read_of-bad}
use Rattle.plist_reader.proofs.Scalars.{AreScalars, all-parts, source-scalars}
use Rattle.plist_reader.proofs.GivenTexts.{given}
use Rattle.plist_reader.proofs.SpelledTexts.{read_of-spelled}
use Rattle.plist_reader.proofs.Reached.{err_not_ok, Reached, onward, at_ok, reached-good}
use Rattle.plist_reader.proofs.Reached.{reached-goes_on, reached-run, reached-finish}
use Rattle.plist_reader.proofs.Reached.{finishes-whole}
use Rattle.plist_reader.proofs.InEscapes.{reached-front, escape-refuses}
use Rattle.plist_reader.proofs.TwiceRefused.{err-run, twice-refuses}
use Rattle.plist_reader.proofs.Fails.{Fails, fails}
use Rattle.plist_reader.proofs.RefusalLemmas.{at_err, explain, finish-end, run-refused}

same_error : {A : Type 0} (x y : Refusal) (d : Result A Refusal) → d ≡ Err x → d ≡ Err y → x ≡ y
same_error x y d h k = cc

-- ---- one explanation

not_end : (front : List ℕ) (c : ℕ) (e : Refusal) → IsExplained front c e → e.rule ≡ UnexpectedEnd
    → ⊥
not_end front c _ (bad_escape place i) q = cc
not_end front c _ (twice place n i) q = cc
not_end front c _ (too_deep n m d) q = cc
not_end front c _ (trailing n m d w) q = cc
not_end front c _ (unexpected n m d w) q = cc

-- what a step refuses is all that is explained
one-explanation : (front : List ℕ) (r : Reader) (c : ℕ) (e f : Refusal) → Reached front r
    → step r (width front) c ≡ Err e → IsExplained front c e → IsExplained front c f → e ≡ f
one-explanation front r c e _ h s k (bad_escape place i)
    = escape-refuses front r c place e h i s (λ q. not_end front c e k q)
one-explanation front r c e _ h s k (twice place n i) = twice-refuses front r c place e h i s
one-explanation front r c _ _ h s (bad_escape place i) (too_deep n m d) = absurd (n place i)
one-explanation front r c _ _ h s (twice place x i) (too_deep n m d) = absurd (m place i)
one-explanation front r c _ _ h s (too_deep x y z) (too_deep n m d) = refl
one-explanation front r c _ _ h s (trailing x y z w) (too_deep n m d) = absurd (z d)
one-explanation front r c _ _ h s (unexpected x y z w) (too_deep n m d) = absurd (z d)
one-explanation front r c _ _ h s (bad_escape place i) (trailing n m d w) = absurd (n place i)
one-explanation front r c _ _ h s (twice place x i) (trailing n m d w) = absurd (m place i)
one-explanation front r c _ _ h s (too_deep x y z) (trailing n m d w) = absurd (d z)
one-explanation front r c _ _ h s (trailing x y z v) (trailing n m d w) = refl
one-explanation front r c _ _ h s (unexpected x y z v) (trailing n m d w) = absurd (v w)
one-explanation front r c _ _ h s (bad_escape place i) (unexpected n m d w) = absurd (n place i)
one-explanation front r c _ _ h s (twice place x i) (unexpected n m d w) = absurd (m place i)
one-explanation front r c _ _ h s (too_deep x y z) (unexpected n m d w) = absurd (d z)
one-explanation front r c _ _ h s (trailing x y z v) (unexpected n m d w) = absurd (w v)
one-explanation front r c _ _ h s (unexpected x y z v) (unexpected n m d w) = refl

-- ---- one reason

-- the reader behind a front that can go on
reader-of : (front : List ℕ) → CanGoOn front → (r : Reader) × Reached front r
reader-of front g = reached-front front g.0 g.1 g.2

ends-so : (front : List ℕ) (r : Reader) (e : Refusal) (d : Result Tree Refusal)
    → finish r (width front) ≡ d → Reached front r → IsReason front [] e → run start 0 front ≡ Err e
ends-so front r e (Ok t) q h k = absurd (k.1 (finishes-whole front r t h q))
ends-so front r e (Err x) q h k =
    let E : Refusal → Result Tree Refusal = λ y. Err y in
    let same : x ≡ refusal UnexpectedEnd (width front)
    = at_err (λ y. y ≡ refusal UnexpectedEnd (width front)) (finish r (width front)) x q
    (finish-end r (width front) (reached-good front r h)) in
    reached-finish front r h ∙ q ∙ ap E (same ∙ sym k.2)

stops-so : (front : List ℕ) (c : ℕ) (rest : List ℕ) (r : Reader) (e : Refusal)
    (d : Result Reader Refusal) → IsScalar c → step r (width front) c ≡ d → Reached front r
    → IsReason front (c ∷ rest) e → run start 0 (front ++ c ∷ rest) ≡ Err e
stops-so front c rest r e (Ok u) i q h k
    = absurd (k.0.no_more (reached-goes_on (front ++ c ∷ []) u (onward front r u c i h q)))
stops-so front c rest r e (Err x) i q h k =
    let E : Refusal → Result Tree Refusal = λ y. Err y in
    let why = explain front r c x h q (at_err (Fails (width front) c r) (step r (width front) c) x q
    (fails r (width front) c (reached-good front r h))) in
    reached-run front r h (c ∷ rest) ∙ err-run r (width front) c rest x q
    ∙ ap E (one-explanation front r c x e h q why k.1)

reason-so : (front rest : List ℕ) (e : Refusal) → AreScalars rest → IsReason front rest e
    → run start 0 (front ++ rest) ≡ Err e
reason-so front [] e i k = let r = reader-of front k.0
    in ap (λ x. run start 0 x) (append-nil front)
    ∙ ends-so front r.0 e (finish r.0 (width front)) refl r.1 k
reason-so front (c ∷ rest) e i k = let r = reader-of front k.0.goes_on
    in stops-so front c rest r.0 e (step r.0 (width front) c) i.0 refl r.1 k

-- ---- one answer

pub refused : (source : List ℕ) (e : Refusal) → IsRefusal source e → read_of source ≡ Err e
refused source e (inl (n, q)) = let E : Refusal → Result Tree Refusal = λ y. Err y
    in read_of-bad source n ∙ ap E (sym q)
refused source e (inr (u, k)) =
    let i = all-parts IsScalar k.front k.rest
    (subst (λ (x : List ℕ). AreScalars x) k.parts (source-scalars source u)) in
    read_of-text source u ∙ ap (λ x. run start 0 x) k.parts
    ∙ reason-so k.front k.rest e i.1 k.reason

-- what is read is a tree or a refusal of the source
pub refusal-of : (source : List ℕ) (e : Refusal) → read_of source ≡ Err e → IsRefusal source e
refusal-of source e q = elim (cases_Bool (is_utf8 source)) [
  | inl b ↦ (let u = IsUtf8-from_is_utf8 source b
      in inr (
        u,
        run-refused (chars source) e (source-scalars source u)
            (sym (read_of-text source u) ∙ q),
      ))
  | inr b ↦ (let n : ¬ (IsUtf8 source) = λ u. both_ways (is_utf8 source) b
      (is_utf8-from_IsUtf8 source u) in inl
      (n, same_error e _ (read_of source) q (read_of-bad source n)))
]

pub tree-of : (source : List ℕ) (t : Tree) → read_of source ≡ Ok t → HasTree source t
tree-of source t q = at_ok (HasTree source) (read_of source) t q (read_of-spelled source)

pub answer-of : (source : List ℕ) (d : Result Tree Refusal) → read_of source ≡ d
    → ((t : Tree) × HasTree source t) ⊎ ((e : Refusal) × IsRefusal source e)
answer-of source (Ok t) q = inl (t, tree-of source t q)
answer-of source (Err e) q = inr (e, refusal-of source e q)

pub refusals-same : (source : List ℕ) (e f : Refusal) → IsRefusal source e → IsRefusal source f
    → e ≡ f
refusals-same source e f h k = same_error e f (read_of source) (refused source e h)
    (refused source f k)

pub not_both : (source : List ℕ) (t : Tree) (e : Refusal) → HasTree source t
    → ¬ (IsRefusal source e)
not_both source t e h k = err_not_ok e t (read_of source) (refused source e k) (given source t h)
