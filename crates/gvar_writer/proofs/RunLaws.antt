-- The runs of some values are the only longest ones.
use Rattle.std.proofs.Common.{◌≡◌, ◌≢◌, ℕ, ◌+◌, ◌<◌, ◌≤◌, Bool, true, false, cond, ◌&&◌, List, []}
use Rattle.std.proofs.Common.{◌∷◌, ◌++◌, length, refl, ap, sym, ◌∙◌, arith, append_assoc, eqb}
use Rattle.std.proofs.Common.{nat_lt}
use Rattle.std.specs.List.{AllByRecursion, flat_map}
use Rattle.std.proofs.lemmas.Bool.{eqb-true, eq-eqb}
use Rattle.std.proofs.lemmas.Bool.Decides.{nat_tests}
use Rattle.std.proofs.lemmas.List.{length-append, append-nil}
use Rattle.gvar_writer.specs.Runs.{IsRun, AreRuns, IsEnded, AreEnded, AreLongestRuns, goes_on}
use Rattle.gvar_writer.specs.Runs.{runs_after, longest_runs}

both_true : (a b : Bool) → (a && b) ≡ true → (a ≡ true) × (b ≡ true)
both_true true b e = (refl, e)
both_true false b e = absurd cc

first_false : (a b : Bool) → (a && b) ≡ false → b ≡ true → a ≡ false
first_false true b e f = absurd cc
first_false false b e f = refl

-- a value that goes on is written as the run is, which isn't full
pub on_means : {A : Type 0} (flags : A → ℕ) (most : ℕ) (first : A) (more : List A) (x : A)
    → goes_on flags most (first ∷ more) x ≡ true
    → (flags first ≡ flags x) × (length (first ∷ more) < most)
on_means flags most first more x e =
    let parts = both_true (eqb (flags first) (flags x)) (nat_lt (length (first ∷ more)) most) e in
    let short : nat_lt (length (first ∷ more)) most ≡ true = parts.1 in
    (eqb-true _ _ parts.0, grind (arith, nat_tests))

on_where : {A : Type 0} (flags : A → ℕ) (most : ℕ) (first : A) (more : List A) (x : A)
    → flags first ≡ flags x → length (first ∷ more) < most
    → goes_on flags most (first ∷ more) x ≡ true
on_where flags most first more x same short =
    let below : nat_lt (length (first ∷ more)) most ≡ true = grind (arith, nat_tests) in
    ap (λ b. b && nat_lt (length (first ∷ more)) most) (eq-eqb _ _ same) ∙ below

off_means : {A : Type 0} (flags : A → ℕ) (most : ℕ) (first : A) (more : List A) (x : A)
    → goes_on flags most (first ∷ more) x ≡ false → length (first ∷ more) < most
    → flags first ≢ flags x
off_means flags most first more x e short same =
    let on = on_where flags most first more x same short in cc

off_where : {A : Type 0} (flags : A → ℕ) (most : ℕ) (first : A) (more : List A) (x : A)
    → (length (first ∷ more) < most → flags first ≢ flags x)
    → goes_on flags most (first ∷ more) x ≡ false
off_where flags most first more x different = by (goes_on flags most (first ∷ more) x) refl
  where
    by : (b : Bool) → goes_on flags most (first ∷ more) x ≡ b → b ≡ false
    by true e = let on = on_means flags most first more x e in absurd (different on.1 on.0)
    by false e = refl

all_push : {A : Type 0} (P : A → Type 0) (xs : List A) (x : A) → AllByRecursion P xs → P x
    → AllByRecursion P (xs ++ x ∷ [])
all_push P [] x h p = (p, tt)
all_push P (y ∷ xs) x h p = (h.0, all_push P xs x h.1 p)

pushed : {A : Type 0} (flags : A → ℕ) (most : ℕ) (first : A) (more : List A) (x : A)
    → IsRun flags most first more → goes_on flags most (first ∷ more) x ≡ true
    → IsRun flags most first (more ++ x ∷ [])
pushed flags most first more x run e =
    let on = on_means flags most first more x e in
    record {
      alike = all_push (λ y. flags y ≡ flags first) more x run.alike (sym on.0);
      short = omega (arith, on.1, length-append more (x ∷ []));
    }

one : {A : Type 0} (flags : A → ℕ) (most : ℕ) (x : A) → 0 < most → IsRun flags most x []
one flags most x some = record { alike = tt; short = omega arith }

-- ---- the runs

runs_are_after : {A : Type 0} (flags : A → ℕ) (most : ℕ) (first : A) (more xs : List A) → 0 < most
    → IsRun flags most first more → AreRuns flags most (runs_after flags most (first ∷ more) xs)
runs_are_after flags most first more [] some run = (run, tt)
runs_are_after {A} flags most first more (x ∷ xs) some run =
    by (goes_on flags most (first ∷ more) x) refl
    (λ h. runs_are_after flags most first (more ++ x ∷ []) xs some h)
    (runs_are_after flags most x [] xs some (one flags most x some))
  where
    by : (b : Bool) → goes_on flags most (first ∷ more) x ≡ b
        → (IsRun flags most first (more ++ x ∷ [])
        → AreRuns flags most (runs_after flags most (first ∷ (more ++ x ∷ [])) xs))
        → AreRuns flags most (runs_after flags most (x ∷ []) xs)
        → AreRuns flags most (cond b (runs_after flags most (first ∷ (more ++ x ∷ [])) xs)
        ((first ∷ more) ∷ runs_after flags most (x ∷ []) xs))
    by true e longer next = longer (pushed flags most first more x run e)
    by false e longer next = (run, next)

whole_after : {A : Type 0} (flags : A → ℕ) (most : ℕ) (run xs : List A)
    → flat_map (λ r. r) (runs_after flags most run xs) ≡ run ++ xs
whole_after flags most run [] = refl
whole_after {A} flags most run (x ∷ xs) =
    by (goes_on flags most run x) (whole_after flags most (run ++ x ∷ []) xs)
    (whole_after flags most (x ∷ []) xs)
  where
    by : (b : Bool) → flat_map (λ r. r) (runs_after flags most (run ++ x ∷ []) xs)
        ≡ run ++ x ∷ [] ++ xs
        → flat_map (λ r. r) (runs_after flags most (x ∷ []) xs) ≡ x ∷ xs
        → flat_map (λ r. r) (cond b (runs_after flags most (run ++ x ∷ []) xs)
        (run ∷ runs_after flags most (x ∷ []) xs)) ≡ run ++ (x ∷ xs)
    by true longer next = longer ∙ append_assoc run (x ∷ []) xs
    by false longer next = ap (λ ys. run ++ ys) next

ended_before : {A : Type 0} (flags : A → ℕ) (most : ℕ) (start : A) (run : List A) (first : A)
    (more xs : List A) → (length (start ∷ run) < most → flags start ≢ flags first)
    → IsEnded flags most (start ∷ run) (runs_after flags most (first ∷ more) xs)
ended_before flags most start run first more [] h = h
ended_before {A} flags most start run first more (x ∷ xs) h =
    by (goes_on flags most (first ∷ more) x)
    (ended_before flags most start run first (more ++ x ∷ []) xs h)
  where
    by : (b : Bool)
        → IsEnded flags most (start ∷ run) (runs_after flags most (first ∷ (more ++ x ∷ [])) xs)
        → IsEnded flags most (start ∷ run)
        (cond b (runs_after flags most (first ∷ (more ++ x ∷ [])) xs)
        ((first ∷ more) ∷ runs_after flags most (x ∷ []) xs))
    by true longer = longer
    by false longer = h

ended_after : {A : Type 0} (flags : A → ℕ) (most : ℕ) (first : A) (more xs : List A)
    → AreEnded flags most (runs_after flags most (first ∷ more) xs)
ended_after flags most first more [] = (tt, tt)
ended_after {A} flags most first more (x ∷ xs) =
    by (goes_on flags most (first ∷ more) x) refl
    (ended_after flags most first (more ++ x ∷ []) xs)
    (ended_after flags most x [] xs)
  where
    by : (b : Bool) → goes_on flags most (first ∷ more) x ≡ b
        → AreEnded flags most (runs_after flags most (first ∷ (more ++ x ∷ [])) xs)
        → AreEnded flags most (runs_after flags most (x ∷ []) xs)
        → AreEnded flags most (cond b (runs_after flags most (first ∷ (more ++ x ∷ [])) xs)
        ((first ∷ more) ∷ runs_after flags most (x ∷ []) xs))
    by true e longer next = longer
    by false e longer next =
        (ended_before flags most first more x [] xs (off_means flags most first more x e), next)

pub are_longest : {A : Type 0} (flags : A → ℕ) (most : ℕ) (values : List A) → 0 < most
    → AreLongestRuns flags most values (longest_runs flags most values)
are_longest flags most [] some = record { whole = refl; are_runs = tt; ended = tt }
are_longest flags most (x ∷ xs) some = record {
  whole = whole_after flags most (x ∷ []) xs;
  are_runs = runs_are_after flags most x [] xs some (one flags most x some);
  ended = ended_after flags most x [] xs;
}

-- ---- no others

-- a run is taken whole
taken : {A : Type 0} (flags : A → ℕ) (most : ℕ) (first : A) (seen more rest : List A)
    → AllByRecursion (λ x. flags x ≡ flags first) more
    → length (first ∷ seen) + length more ≤ most
    → runs_after flags most (first ∷ seen) (more ++ rest)
    ≡ runs_after flags most (first ∷ (seen ++ more)) rest
taken flags most first seen [] rest alike short =
    ap (λ s. runs_after flags most (first ∷ s) rest) (sym (append-nil seen))
taken {A} flags most first seen (x ∷ more) rest alike short =
    let on = on_where flags most first seen x (sym alike.0) (omega arith) in
    ap (λ b. cond b (runs_after flags most (first ∷ (seen ++ x ∷ [])) (more ++ rest))
    ((first ∷ seen) ∷ runs_after flags most (x ∷ []) (more ++ rest))) on
    ∙ taken flags most first (seen ++ x ∷ []) more rest alike.1
    (omega (arith, length-append seen (x ∷ [])))
    ∙ ap (λ s. runs_after flags most (first ∷ s) rest) (append_assoc seen (x ∷ []) more)

only_by : {A : Type 0} (flags : A → ℕ) (most : ℕ) (runs : List (List A))
    → AreRuns flags most runs → AreEnded flags most runs
    → runs ≡ longest_runs flags most (flat_map (λ r. r) runs)
only_by flags most [] are ended = refl
only_by flags most ([] ∷ runs) are ended = absurd are
only_by flags most ((first ∷ more) ∷ []) are ended =
    sym (taken flags most first [] more [] are.0.alike (omega (arith, are.0.short)))
only_by flags most ((first ∷ more) ∷ [] ∷ runs) are ended = absurd are.1
only_by {A} flags most ((first ∷ more) ∷ (next ∷ others) ∷ runs) are ended =
    let rest : List A = others ++ flat_map (λ r. r) runs in
    let off = off_where flags most first more next ended.0 in
    sym (taken flags most first [] more (next ∷ rest) are.0.alike (omega (arith, are.0.short))
    ∙ ap (λ b. cond b (runs_after flags most (first ∷ (more ++ next ∷ [])) rest)
    ((first ∷ more) ∷ runs_after flags most (next ∷ []) rest)) off
    ∙ ap (λ rs. (first ∷ more) ∷ rs)
    (sym (only_by flags most ((next ∷ others) ∷ runs) are.1 ended.1)))

pub only : {A : Type 0} (flags : A → ℕ) (most : ℕ) (values : List A) (runs : List (List A))
    → AreLongestRuns flags most values runs → runs ≡ longest_runs flags most values
only flags most values runs are =
    only_by flags most runs are.are_runs are.ended ∙ ap (longest_runs flags most) are.whole
