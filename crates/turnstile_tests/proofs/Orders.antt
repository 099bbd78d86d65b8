-- What the passes of a turnstile know of the numbers, put together.
use Rattle.std.proofs.Common.{◌≡◌, ℕ, zero, suc, ◌+◌, ◌<◌, ◌≤◌, List, [], ◌∷◌, ◌++◌, length, drop}
use Rattle.std.proofs.Common.{slice_index_or, ◌⊎◌, inl, inr, refl, sym, ap, ◌∙◌, subst, arith}
use Rattle.std.specs.List.{All}
use Rattle.std.proofs.lemmas.List.{append-nil, drop_at}
use Rattle.std.proofs.lemmas.List.Elements.{All-nil, All-cons}
use mathlib.Core.Logic.{dite}
use native.Mathlib.Decide.{dec_lt}
use Rattle.turnstile.specs.Entries.{entries_of}
use Rattle.turnstile.specs.Passes.{TurnstileView, PassView, new_pass, new_passes, entered, has_left}
use Rattle.turnstile.specs.Passes.{IsHistoryOf}
use Rattle.turnstile_tests.specs.Turns.{numbers_of, IsInOrder, IsFresh, IsDone, SameWorkers}

numbers_more : (worker n : ℕ) → numbers_of worker (n + 1) ≡ numbers_of worker n ++ (worker, n) ∷ []
numbers_more worker n = let e : n + 1 ≡ suc n = omega arith in ap (λ k. numbers_of worker k) e

-- a turn: one number more, or none
pub one_turn : (old mid new : PassView ℕ ℕ) (seen list : List (ℕ × ℕ)) (worker number next : ℕ)
    → mid ≡ entered seen old → new ≡ has_left list mid → worker ≡ mid.worker
    → old.mine ≡ numbers_of old.worker number
    → ((next ≡ number + 1) × (list ≡ seen ++ (worker, number) ∷ []))
    ⊎ ((next ≡ number) × (list ≡ seen))
    → new.mine ≡ numbers_of new.worker next
one_turn old mid new seen list worker number next came left by so_far (inl w) =
    let one : List (ℕ × ℕ) = (worker, number) ∷ [] in
    let who : worker ≡ old.worker = by ∙ ap (λ p. p.worker) came in
    let same : new.worker ≡ old.worker = ap (λ p. p.worker) left ∙ ap (λ p. p.worker) came in
    let cut : drop (length seen) list ≡ one = ap (λ xs. drop (length seen) xs) w.1
    ∙ drop_at seen one (length seen) refl in
    let mine : new.mine ≡ old.mine ++ drop (length seen) list = ap (λ p. p.mine) left
    ∙ ap (λ p. p.mine ++ drop (length p.seen) list) came in
    let more : new.mine ≡ numbers_of old.worker number ++ (old.worker, number) ∷ [] =
    mine ∙ (ap (λ xs. old.mine ++ xs) cut ∙
    (ap (λ xs. xs ++ one) so_far ∙ ap (λ k. numbers_of old.worker number ++ (k, number) ∷ [])
    who)) in
    more ∙ (sym (numbers_more old.worker number)
    ∙ (ap (λ n. numbers_of old.worker n) (sym w.0) ∙ ap (λ k. numbers_of k next) (sym same)))
one_turn old mid new seen list worker number next came left by so_far (inr w) =
    let same : new.worker ≡ old.worker = ap (λ p. p.worker) left ∙ ap (λ p. p.worker) came in
    let cut : drop (length seen) list ≡ []
    = ap (λ xs. drop (length seen) xs) (w.1 ∙ sym (append-nil seen))
    ∙ drop_at seen [] (length seen) refl in
    let mine : new.mine ≡ old.mine ++ drop (length seen) list = ap (λ p. p.mine) left
    ∙ ap (λ p. p.mine ++ drop (length p.seen) list) came in
    let none_more : new.mine ≡ numbers_of old.worker number = mine
    ∙ (ap (λ xs. old.mine ++ xs) cut ∙ (append-nil old.mine ∙ so_far)) in
    none_more ∙ (ap (λ n. numbers_of old.worker n) (sym w.0)
    ∙ ap (λ k. numbers_of k next) (sym same))

-- the passes of a new turnstile
pub fresh : (t : TurnstileView) (root from n : ℕ)
    → All (IsFresh t) (new_passes {E = ℕ} t.table root from n)
fresh t root from zero = All-nil (IsFresh t)
fresh t root from (suc n) = All-cons (IsFresh t) (new_pass t.table root from)
    (new_passes t.table root (from + 1) n) (refl, refl, refl) (fresh t root (from + 1) n)

pub length-new_passes : (t : TurnstileView) (root from n : ℕ)
    → length (new_passes {E = ℕ} t.table root from n) ≡ n
length-new_passes t root from zero = refl
length-new_passes t root from (suc n) = omega (arith, length-new_passes t root (from + 1) n)

numbered : (t : TurnstileView) (root from n k : ℕ) (d : PassView ℕ ℕ) → k < n
    → (slice_index_or (new_passes {E = ℕ} t.table root from n) k d).worker ≡ from + k
numbered t root from zero k d lt = omega arith
numbered t root from (suc n) zero d lt = let e : from ≡ from + 0 = omega arith in e
numbered t root from (suc n) (suc k) d lt = let e : from + 1 + k ≡ from + suc k = omega arith
    in numbered t root (from + 1) n k d (omega arith) ∙ e

-- the list that is closed has the numbers of each worker in order
module _ (t : TurnstileView) (root origin workers : ℕ) (old new : List (PassView ℕ ℕ))
    (list : List (ℕ × ℕ)) where
  pub in_order : old ≡ new_passes t.table root 0 workers → length new ≡ length old
      → SameWorkers old new → All (IsDone t) new → All (IsHistoryOf list origin) new
      → ((k : ℕ) → workers ≤ k → entries_of k list ≡ []) → (k : ℕ) → IsInOrder k (entries_of k list)
  in_order is len same done history nobody k = dite (dec_lt k workers)
      (λ lt.
      let d : PassView ℕ ℕ = new_pass t.table root 0 in
      let among : k < length old = omega (
        arith,
        ap (λ ps. length ps) is,
        length-new_passes t root 0
            workers,
      ) in
      let there : k < length new = omega (arith, len, among) in
      let from_zero : 0 + k ≡ k = omega arith in
      let worker : (slice_index_or new k d).worker ≡ k = same k d among
      ∙ (ap (λ ps. (slice_index_or ps k d).worker) is
      ∙ (numbered t root 0 workers k d lt ∙ from_zero)) in
      let wrote = (done k d there).2 in
      subst (λ w. IsInOrder w (entries_of w list)) worker
      (wrote.0, (history k d there).mine ∙ wrote.1))
      (λ ge. (0, nobody k (omega arith)))
