-- Taking a run of equal flags off the front takes its bytes off the front.
use Rattle.std.proofs.Common.{◌≡◌, ◌≢◌, ℕ, zero, suc, ◌+◌, ◌-◌, ◌/◌, ◌%◌, ◌<◌, ◌≤◌, Bool, true}
use Rattle.std.proofs.Common.{false, cond, List, [], ◌∷◌, ◌++◌, length, get_or, take, drop}
use Rattle.std.proofs.Common.{replicate, eqb, nat_lt, refl, ap, sym, ◌∙◌, arith, append_assoc}
use Rattle.std.proofs.Common.{length-drop}
use Rattle.std.proofs.lemmas.List.{take-append-drop, get_or-drop, take_all}
use Rattle.std.specs.List.{flat_map}
use Rattle.std.proofs.lemmas.Bool.{eqb-true, eq-eqb}
use Rattle.std.proofs.lemmas.Bool.Decides.{nat_tests}
use Rattle.glyf_writer.specs.GlyphData.{onto_runs, longest_runs, cut_at_256, flag_bytes}
use Rattle.glyf_writer.specs.GlyphData.{with_repeats}

abbrev Runs : Type 0
Runs = List (ℕ × ℕ)

-- n more of x before some runs
abbrev join : ℕ → ℕ → Runs → Runs
join x n [] = (x, n) ∷ []
join x n (run ∷ runs) = cond (eqb x run.0) ((x, run.1 + n) ∷ runs) ((x, n) ∷ run ∷ runs)

onto-again : (x n : ℕ) (runs : Runs) → onto_runs x ((x, n) ∷ runs) ≡ (x, n + 1) ∷ runs
onto-again x n runs = ap (λ b. cond b ((x, n + 1) ∷ runs) ((x, 1) ∷ (x, n) ∷ runs))
    (eq-eqb x x refl)

join-more : (x n : ℕ) (runs : Runs) → onto_runs x (join x n runs) ≡ join x (n + 1) runs
join-more x n [] = onto-again x n []
join-more x n (run ∷ runs) = by (eqb x run.0)
  where
    by : (b : Bool) → onto_runs x (cond b ((x, run.1 + n) ∷ runs) ((x, n) ∷ run ∷ runs))
        ≡ cond b ((x, run.1 + (n + 1)) ∷ runs) ((x, n + 1) ∷ run ∷ runs)
    by true = onto-again x (run.1 + n) runs ∙ ap (λ m. (x, m) ∷ runs) (omega arith)
    by false = onto-again x n (run ∷ runs)

join-one : (x : ℕ) (runs : Runs) → onto_runs x runs ≡ join x 1 runs
join-one x [] = refl
join-one x (run ∷ runs) = refl

-- the runs of n + 1 of x before more flags
runs-replicate : (x n : ℕ) (rest : List ℕ)
    → longest_runs (replicate (suc n) x ++ rest) ≡ join x (n + 1) (longest_runs rest)
runs-replicate x zero rest = join-one x (longest_runs rest)
runs-replicate x (suc n) rest = ap (onto_runs x) (runs-replicate x n rest)
    ∙ join-more x (n + 1) (longest_runs rest) ∙ ap (λ m. join x m (longest_runs rest)) (omega arith)

abbrev run_bytes : (ℕ × ℕ) → List ℕ
run_bytes run = flat_map flag_bytes (cut_at_256 run)

abbrev runs_bytes : Runs → List ℕ
runs_bytes runs = flat_map run_bytes runs

append-none : (xs : List ℕ) → xs ++ [] ≡ xs
append-none [] = refl
append-none (x ∷ xs) = ap (λ ys. x ∷ ys) (append-none xs)

-- a run that is short enough is one piece
short_piece : (x n : ℕ) → 0 < n → n < 256 → run_bytes (x, n) ≡ flag_bytes (x, n)
short_piece x n some few =
    let q : n / 256 ≡ 0 = omega arith in
    let r : n % 256 ≡ n = omega arith in
    let t : eqb n 0 ≡ false = grind (arith, nat_tests) in
    ap (λ k. flat_map flag_bytes (replicate k (x, 256)
    ++ cond (eqb (n % 256) 0) [] ((x, n % 256) ∷ []))) q
    ∙ ap (λ k. flat_map flag_bytes (cond (eqb k 0) [] ((x, k) ∷ []))) r
    ∙ ap (λ b. flat_map flag_bytes (cond b [] ((x, n) ∷ []))) t
    ∙ append-none (flag_bytes (x, n))

-- 256 more of a run are a piece before its own
long_piece : (x n : ℕ) → run_bytes (x, n + 256) ≡ flag_bytes (x, 256) ++ run_bytes (x, n)
long_piece x n =
    let q : (n + 256) / 256 ≡ suc (n / 256) = omega arith in
    let r : (n + 256) % 256 ≡ n % 256 = omega arith in
    ap (λ k. flat_map flag_bytes (replicate k (x, 256)
    ++ cond (eqb ((n + 256) % 256) 0) [] ((x, (n + 256) % 256) ∷ []))) q
    ∙ ap (λ k. flag_bytes (x, 256) ++ flat_map flag_bytes
    (replicate (n / 256) (x, 256) ++ cond (eqb k 0) [] ((x, k) ∷ []))) r

-- what begins with another flag begins with another run
abbrev BeginsElse : ℕ → Runs → Type 0
BeginsElse x [] = Unit {0}
BeginsElse x (run ∷ runs) = eqb x run.0 ≡ false

begins_onto : (x y : ℕ) (runs : Runs) → eqb x y ≡ false → BeginsElse x (onto_runs y runs)
begins_onto x y [] h = h
begins_onto x y (run ∷ runs) h = by (eqb y run.0)
  where
    by : (b : Bool) → BeginsElse x (cond b ((y, run.1 + 1) ∷ runs) ((y, 1) ∷ run ∷ runs))
    by true = h
    by false = h

begins_else : (x : ℕ) (rest : List ℕ) → (0 < length rest → get_or rest 0 0 ≢ x)
    → BeginsElse x (longest_runs rest)
begins_else x [] h = tt
begins_else x (y ∷ rest) h = begins_onto x y (longest_runs rest)
    (let ne : y ≢ x = h (omega arith) in grind (arith, nat_tests))

join-else : (x n : ℕ) (runs : Runs) → BeginsElse x runs → join x n runs ≡ (x, n) ∷ runs
join-else x n [] h = refl
join-else x n (run ∷ runs) h = ap (λ b. cond b ((x, run.1 + n) ∷ runs) ((x, n) ∷ run ∷ runs)) h

-- 256 of a flag are a piece, whatever follows
join-long : (x : ℕ) (runs : Runs) → runs_bytes (join x 256 runs)
    ≡ flag_bytes (x, 256) ++ runs_bytes runs
join-long x [] = refl
join-long x (run ∷ runs) = by (eqb x run.0) refl
  where
    by : (b : Bool) → eqb x run.0 ≡ b → runs_bytes
        (cond b ((x, run.1 + 256) ∷ runs) ((x, 256) ∷ run ∷ runs))
        ≡ flag_bytes (x, 256) ++ runs_bytes (run ∷ runs)
    by true e =
        ap (λ bytes. bytes ++ runs_bytes runs) (long_piece x run.1)
        ∙ append_assoc (flag_bytes (x, 256)) (run_bytes (x, run.1)) (runs_bytes runs)
        ∙ ap (λ y. flag_bytes (x, 256) ++ (run_bytes (y, run.1) ++ runs_bytes runs))
        (eqb-true x run.0 e)
    by false e = refl

long_front : (x : ℕ) (rest : List ℕ) → with_repeats (replicate 256 x ++ rest)
    ≡ flag_bytes (x, 256) ++ with_repeats rest
long_front x rest = ap runs_bytes (runs-replicate x 255 rest) ∙ join-long x (longest_runs rest)

short_front : (x n : ℕ) (rest : List ℕ) → suc n < 256 → (0 < length rest → get_or rest 0 0 ≢ x)
    → with_repeats (replicate (suc n) x ++ rest) ≡ flag_bytes (x, suc n) ++ with_repeats rest
short_front x n rest few else =
    let one_more : n + 1 ≡ suc n = omega arith in
    ap runs_bytes (runs-replicate x n rest
    ∙ join-else x (n + 1) (longest_runs rest) (begins_else x rest else))
    ∙ ap (λ m. run_bytes (x, m) ++ with_repeats rest) one_more
    ∙ ap (λ bytes. bytes ++ with_repeats rest) (short_piece x (suc n) (omega arith) few)

-- a run at the front, as long as can be or cut at 256, is written before the rest
pub front : (x n : ℕ) (rest : List ℕ) → 0 < n → n ≤ 256
    → (n < 256 → 0 < length rest → get_or rest 0 0 ≢ x)
    → with_repeats (replicate n x ++ rest) ≡ flag_bytes (x, n) ++ with_repeats rest
front x zero rest some few else = absurd (omega arith)
front x (suc n) rest some few else = by (nat_lt (suc n) 256) refl
  where
    by : (b : Bool) → nat_lt (suc n) 256 ≡ b
        → with_repeats (replicate (suc n) x ++ rest) ≡ flag_bytes (x, suc n) ++ with_repeats rest
    by true e = let short : suc n < 256 = grind (arith, nat_tests)
        in short_front x n rest short (else short)
    by false e =
        let full : suc n ≡ 256 = grind (arith, nat_tests) in
        ap (λ m. with_repeats (replicate m x ++ rest)) full ∙ long_front x rest
        ∙ ap (λ m. flag_bytes (x, m) ++ with_repeats rest) (sym full)

-- the same of flags whose first n are equal
pub front_of : (flags : List ℕ) (n : ℕ) → 0 < n → n ≤ 256
    → take n flags ≡ replicate n (get_or flags 0 0)
    → (n < 256 → n < length flags → get_or flags n 0 ≢ get_or flags 0 0)
    → with_repeats flags ≡ flag_bytes (get_or flags 0 0, n) ++ with_repeats (drop n flags)
front_of flags n some few equal longest =
    let x : ℕ = get_or flags 0 0 in
    let rest : List ℕ = drop n flags in
    let here : get_or rest 0 0 ≡ get_or flags n 0 = get_or-drop n flags 0 0
    ∙ ap (λ k. get_or flags k 0) (omega arith) in
    let else : n < 256 → 0 < length rest → get_or rest 0 0 ≢ x
    = λ short more same. longest short (omega (arith, length-drop n flags)) (sym here ∙ same) in
    ap with_repeats (sym (take-append-drop n flags) ∙ ap (λ run. run ++ rest) equal)
    ∙ front x n rest some few else

-- a slice to the end is what is left
pub take_whole : (n : ℕ) (xs : List ℕ) → take (length xs - n) (drop n xs) ≡ drop n xs
take_whole n xs = take_all (length xs - n) (drop n xs) (omega (arith, length-drop n xs))
