-- Runs that are found from the front, one value after another.
use Rattle.std.proofs.Common.{◌≡◌, ℕ, ◌+◌, ◌-◌, ◌<◌, ◌≤◌, true, false, cond, List, [], ◌∷◌, ◌++◌}
use Rattle.std.proofs.Common.{length, get_or, take, drop, refl, ap, sym, ◌∙◌, arith, append_assoc}
use Rattle.std.proofs.Common.{suc, Bool, ◌&&◌, nat_lt, eqb}
use Rattle.std.proofs.lemmas.Bool.Decides.{nat_tests}
use Rattle.std.specs.List.{flat_map}
use Rattle.std.proofs.lemmas.List.{at_drop_more, at_drop_all, take_more, get_or-drop, length-drop}
use Rattle.std.proofs.lemmas.List.{append-nil, length-take-le}
use Rattle.gvar_writer.specs.Runs.{goes_on, runs_after, longest_runs, run_bytes, packed}

-- the values from `start` to `at`
abbrev pub run_from : {A : Type 0} → List A → ℕ → ℕ → List A
run_from values start at = take (at - start) (drop start values)

-- the runs of such a run and of the values after it
abbrev pub from_run : {A : Type 0} → (A → ℕ) → ℕ → List A → ℕ → ℕ → List (List A)
from_run flags most values start at = runs_after flags most (run_from values start at)
    (drop at values)

run_more : {A : Type 0} (values : List A) (start at : ℕ) (d : A) → start ≤ at → at < length values
    → run_from values start at ++ get_or values at d ∷ [] ≡ run_from values start (at + 1)
run_more {A} values start at d begun within =
    let rest : List A = drop start values in
    let here : get_or rest (at - start) d ≡ get_or values at d = get_or-drop start values
    (at - start) d ∙ ap (λ n. get_or values n d) (omega arith) in
    let next : at - start + 1 ≡ at + 1 - start = omega arith in
    ap (λ x. take (at - start) rest ++ x ∷ []) (sym here)
    ∙ sym (take_more rest (at - start) d (omega (arith, length-drop start values)))
    ∙ ap (λ n. take n rest) next

run_one : {A : Type 0} (values : List A) (at : ℕ) (d : A) → at < length values
    → get_or values at d ∷ [] ≡ run_from values at (at + 1)
run_one {A} values at d within =
    let none : at - at ≡ 0 = omega arith in
    ap (λ n. take n (drop at values) ++ get_or values at d ∷ []) (sym none)
    ∙ run_more values at at d (omega arith) within

-- the next value goes into the run
pub run_on : {A : Type 0} (flags : A → ℕ) (most : ℕ) (values : List A) (start at : ℕ) (d : A)
    → start ≤ at → at < length values
    → goes_on flags most (run_from values start at) (get_or values at d) ≡ true
    → from_run flags most values start at ≡ from_run flags most values start (at + 1)
run_on {A} flags most values start at d begun within on =
    let run : List A = run_from values start at in
    let x : A = get_or values at d in
    let rest : List A = drop (at + 1) values in
    at_drop_more (runs_after flags most run) values at d within
    ∙ ap (λ b. cond b (runs_after flags most (run ++ x ∷ []) rest)
    (run ∷ runs_after flags most (x ∷ []) rest)) on
    ∙ ap (λ r. runs_after flags most r rest) (run_more values start at d begun within)

-- or it begins the next run
pub run_off : {A : Type 0} (flags : A → ℕ) (most : ℕ) (values : List A) (start at : ℕ) (d : A)
    → start ≤ at → at < length values
    → goes_on flags most (run_from values start at) (get_or values at d) ≡ false
    → from_run flags most values start at
    ≡ run_from values start at ∷ from_run flags most values at (at + 1)
run_off {A} flags most values start at d begun within off =
    let run : List A = run_from values start at in
    let x : A = get_or values at d in
    let rest : List A = drop (at + 1) values in
    at_drop_more (runs_after flags most run) values at d within
    ∙ ap (λ b. cond b (runs_after flags most (run ++ x ∷ []) rest)
    (run ∷ runs_after flags most (x ∷ []) rest)) off
    ∙ ap (λ r. run ∷ runs_after flags most r rest) (run_one values at d within)

pub run_first : {A : Type 0} (flags : A → ℕ) (most : ℕ) (values : List A) → 0 < length values
    → from_run flags most values 0 1 ≡ longest_runs flags most values
run_first flags most [] some = absurd (omega arith)
run_first flags most (x ∷ values) some = refl

pub run_last : {A : Type 0} (flags : A → ℕ) (most : ℕ) (values : List A) (start at : ℕ)
    → length values ≤ at
    → from_run flags most values start at ≡ run_from values start at ∷ []
run_last flags most values start at past =
    at_drop_all (runs_after flags most (run_from values start at)) values at past

-- a run as bytes, by its first value
pub run_whole : {A : Type 0} (flags : A → ℕ) (bytes : ℕ → A → List ℕ) (run : List A) (d : A)
    → 0 < length run → run_bytes flags bytes run
    ≡ (flags (get_or run 0 d) + (length run - 1)) ∷ flat_map (bytes (flags (get_or run 0 d))) run
run_whole flags bytes [] d some = absurd (omega arith)
run_whole flags bytes (first ∷ more) d some =
    let n : length more ≡ suc (length more) - 1 = omega arith in
    ap (λ n. (flags first + n) ∷ flat_map (bytes (flags first)) (first ∷ more)) n

-- ---- the same as bytes, after what is written

pub told_on : {A : Type 0} (flags : A → ℕ) (most : ℕ) (bytes : ℕ → A → List ℕ) (values : List A)
    (start at : ℕ) (d : A) (old all : List ℕ) → start ≤ at → at < length values
    → goes_on flags most (run_from values start at) (get_or values at d) ≡ true
    → old ++ flat_map (run_bytes flags bytes) (from_run flags most values start at) ≡ all
    → old ++ flat_map (run_bytes flags bytes) (from_run flags most values start (at + 1)) ≡ all
told_on flags most bytes values start at d old all begun within on told =
    ap (λ runs. old ++ flat_map (run_bytes flags bytes) runs)
    (sym (run_on flags most values start at d begun within on)) ∙ told

pub told_off : {A : Type 0} (flags : A → ℕ) (most : ℕ) (bytes : ℕ → A → List ℕ) (values : List A)
    (start at : ℕ) (d : A) (old new all : List ℕ) → start ≤ at → at < length values
    → goes_on flags most (run_from values start at) (get_or values at d) ≡ false
    → new ≡ old ++ run_bytes flags bytes (run_from values start at)
    → old ++ flat_map (run_bytes flags bytes) (from_run flags most values start at) ≡ all
    → new ++ flat_map (run_bytes flags bytes) (from_run flags most values at (at + 1)) ≡ all
told_off {A} flags most bytes values start at d old new all begun within off e told =
    let run : List ℕ = run_bytes flags bytes (run_from values start at) in
    let rest : List ℕ = flat_map (run_bytes flags bytes) (from_run flags most values at (at + 1)) in
    ap (λ written. written ++ rest) e ∙ append_assoc old run rest
    ∙ ap (λ runs. old ++ flat_map (run_bytes flags bytes) runs)
    (sym (run_off flags most values start at d begun within off))
    ∙ told

pub told_first : {A : Type 0} (flags : A → ℕ) (most : ℕ) (bytes : ℕ → A → List ℕ)
    (values : List A) (old : List ℕ) → 0 < length values
    → old ++ flat_map (run_bytes flags bytes) (from_run flags most values 0 1)
    ≡ old ++ packed flags most bytes values
told_first flags most bytes values old some =
    ap (λ runs. old ++ flat_map (run_bytes flags bytes) runs) (run_first flags most values some)

pub told_last : {A : Type 0} (flags : A → ℕ) (most : ℕ) (bytes : ℕ → A → List ℕ)
    (values : List A) (start at : ℕ) (old new all : List ℕ) → length values ≤ at
    → new ≡ old ++ run_bytes flags bytes (take (length values - start) (drop start values))
    → at ≤ length values
    → old ++ flat_map (run_bytes flags bytes) (from_run flags most values start at) ≡ all
    → new ≡ all
told_last flags most bytes values start at old new all past e within told =
    let end : length values ≡ at = omega arith in
    e ∙ ap (λ n. old ++ run_bytes flags bytes (take (n - start) (drop start values))) end
    ∙ ap (λ bs. old ++ bs) (sym (append-nil (run_bytes flags bytes (run_from values start at))))
    ∙ ap (λ runs. old ++ flat_map (run_bytes flags bytes) runs)
    (sym (run_last flags most values start at past))
    ∙ told

-- ---- lists that are written value by value

pub value_step : {A : Type 0} (f : A → List ℕ) (values : List A) (i : ℕ) (d : A)
    (old new all : List ℕ) → i < length values → new ≡ old ++ f (get_or values i d)
    → old ++ flat_map f (drop i values) ≡ all → new ++ flat_map f (drop (i + 1) values) ≡ all
value_step f values i d old new all within e told =
    let x : List ℕ = f (get_or values i d) in
    ap (λ written. written ++ flat_map f (drop (i + 1) values)) e
    ∙ append_assoc old x (flat_map f (drop (i + 1) values))
    ∙ ap (λ bs. old ++ bs) (sym (at_drop_more (flat_map f) values i d within))
    ∙ told

-- ---- a run that goes on isn't full

second_true : (a b : Bool) → (a && b) ≡ true → b ≡ true
second_true true b e = e
second_true false b e = cc

not_full : {A : Type 0} (flags : A → ℕ) (most : ℕ) (run : List A) (x : A) → 0 < length run
    → goes_on flags most run x ≡ true → length run < most
not_full flags most [] x some on = absurd (omega arith)
not_full flags most (first ∷ more) x some on =
    let short : nat_lt (length (first ∷ more)) most ≡ true = second_true (eqb (flags first)
    (flags x)) _ on in
    grind (arith, nat_tests)

length_run : {A : Type 0} (values : List A) (start at : ℕ) → start ≤ at → at ≤ length values
    → length (run_from values start at) ≡ at - start
length_run values start at begun within =
    length-take-le (at - start) (drop start values) (omega (arith, length-drop start values))

pub room_for : {A : Type 0} (flags : A → ℕ) (most : ℕ) (values : List A) (start at : ℕ) (x : A)
    → start < at → at ≤ length values → goes_on flags most (run_from values start at) x ≡ true
    → at + 1 - start ≤ most
room_for flags most values start at x begun within on =
    let count : length (run_from values start at) ≡ at - start = length_run values start at
    (omega arith) within in
    let short = not_full flags most (run_from values start at) x (omega arith) on in
    omega arith
