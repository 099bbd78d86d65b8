-- How many codes and runs there are, and how high they go.
use Rattle.std.proofs.Common.{◌≡◌, ℕ, zero, suc, ◌+◌, ◌<◌, ◌≤◌, Bool, true, false, cond, List, []}
use Rattle.std.proofs.Common.{◌∷◌, length, filter, take, get_or, refl, ap, sym, ◌∙◌, arith, nat_le}
use Rattle.std.proofs.Common.{⊎_elim}
use Rattle.std.proofs.lemmas.Bool.{cases_lt}
use Rattle.std.specs.List.Sorted.{IsNonDecreasingBy}
use Rattle.std.proofs.lemmas.Bool.Decides.{nat_tests}
use Rattle.std.proofs.lemmas.List.Elements.{All-nil, All-cons, All-head, All-tail, All-filter}
use Rattle.std.proofs.lemmas.List.Elements.{All-weaker, filter_passes}
use Rattle.std.proofs.lemmas.List.Kept.{AllPairs-filter}
use Rattle.std.specs.List.{All, AllPairs, AllWithin}
use Rattle.cmap_writer.specs.declared.runs.Run.{Run}
use Rattle.cmap_writer.specs.Runs.{Codes, run_of, continues, both, joined, longest_runs}
use Rattle.cmap_writer.specs.Runs.{short_codes}
use Rattle.cmap_writer.specs.Cmap.{AreCodes, segments}
use Rattle.cmap_writer.specs.Reading.{AreGlyphNumbers}
use Rattle.cmap_writer.proofs.Joins.{is_next}
use Rattle.cmap_writer.proofs.Fields.{length-segments}

-- ---- lists of pairs

pub pairs-tail : {X : Type 0} (R : X → X → Type 0) (x : X) (xs : List X) → AllPairs R (x ∷ xs)
    → AllPairs R xs
pairs-tail R x xs h = λ i j d below in_list. h (suc i) (suc j) d (omega arith) (omega arith)

pub pairs-head : {X : Type 0} (R : X → X → Type 0) (x : X) (xs : List X) → AllPairs R (x ∷ xs)
    → All (R x) xs
pairs-head R x xs h = λ k d in_list. h zero (suc k) d (omega arith) (omega arith)

-- ---- codes

abbrev pub Rises : (ℕ × ℕ) → (ℕ × ℕ) → Type 0
Rises a b = a.0 < b.0

few_rising : (codes : Codes) (low high : ℕ) → AllPairs Rises codes
    → All (λ code. low ≤ code.0) codes → All (λ code. code.0 ≤ high) codes → low ≤ high + 1
    → length codes + low ≤ high + 1
few_rising [] low high rise above below h = omega arith
few_rising (code ∷ codes) low high rise above below h =
    let from : low ≤ code.0 = All-head (λ c. low ≤ c.0) code codes above in
    let to : code.0 ≤ high = All-head (λ c. c.0 ≤ high) code codes below in
    let higher : All (λ c. code.0 + 1 ≤ c.0) codes =
    All-weaker (λ c. code.0 < c.0) (λ c. code.0 + 1 ≤ c.0) (λ c (l : code.0 < c.0). omega arith)
    codes (pairs-head Rises code codes rise) in
    let more = few_rising codes (code.0 + 1) high (pairs-tail Rises code codes rise) higher
    (All-tail (λ c. c.0 ≤ high) code codes below) (omega arith) in
    omega arith

pub count_of_rising : (codes : Codes) (high : ℕ) → AllPairs Rises codes
    → All (λ code. code.0 ≤ high) codes → length codes ≤ high + 1
count_of_rising codes high rise below =
    let n = few_rising codes 0 high rise (λ k d in_list. omega arith) below (omega arith)
    in omega arith

pub short_rise : (codes : Codes) → AllPairs Rises codes → AllPairs Rises (short_codes codes)
short_rise codes rise = AllPairs-filter Rises (λ code. nat_le code.0 65534) codes rise

pub short_below : (codes : Codes) → All (λ code. code.0 ≤ 65534) (short_codes codes)
short_below codes =
    All-weaker (λ code. nat_le code.0 65534 ≡ true) (λ code. code.0 ≤ 65534)
    (λ code (h : nat_le code.0 65534 ≡ true). grind (arith, nat_tests)) (short_codes codes)
    (filter_passes (λ code. nat_le code.0 65534) codes)

pub rising_keys : (codes : Codes) → AllPairs Rises codes → IsNonDecreasingBy (λ code. code.0) codes
rising_keys codes rise i j d low high =
    ⊎_elim
    (λ (less : i < j). let h : (get_or codes i d).0 < (get_or codes j d).0 = rise i j d less high
    in omega arith)
    (λ (most : j ≤ i).
    let same : i ≡ j = omega arith in
    let e : (get_or codes i d).0 ≡ (get_or codes j d).0 = ap (λ k. (get_or codes k d).0) same in
    omega arith)
    (cases_lt i j)

-- what a partition point parts is what the test keeps
pub take-filter : {X : Type 0} (p : X → Bool) (xs : List X) (i : ℕ) → i ≤ length xs
    → AllWithin (λ x. p x ≡ true) xs 0 i → AllWithin (λ x. p x ≡ false) xs i (length xs)
    → take i xs ≡ filter p xs
take-filter p [] zero h ts fs = refl
take-filter p [] (suc i) h ts fs = refl
take-filter p (x ∷ xs) zero h ts fs =
    let here : p x ≡ false = fs zero x (omega arith) (omega arith) in
    take-filter p xs zero (omega arith) (λ k d low high. absurd (omega arith))
    (λ k d low high. fs (suc k) d (omega arith) (omega arith))
    ∙ sym (ap (λ b. cond b (x ∷ filter p xs) (filter p xs)) here)
take-filter p (x ∷ xs) (suc i) h ts fs =
    let here : p x ≡ true = ts zero x (omega arith) (omega arith) in
    ap (λ ys. x ∷ ys) (take-filter p xs i (omega arith)
    (λ k d low high. ts (suc k) d (omega arith) (omega arith))
    (λ k d low high. fs (suc k) d (omega arith) (omega arith)))
    ∙ sym (ap (λ b. cond b (x ∷ filter p xs) (filter p xs)) here)

-- ---- runs

joined_count : (run : Run) (runs : List Run) → length (joined run runs) ≤ length runs + 1
joined_count run [] = omega arith
joined_count run (next ∷ runs) = by (continues run next)
  where
    by : (b : Bool) → length (cond b (both run next ∷ runs) (run ∷ next ∷ runs)) ≤ length
        (next ∷ runs) + 1
    by true = omega arith
    by false = omega arith

pub run_count : (codes : Codes) → length (longest_runs codes) ≤ length codes
run_count [] = omega arith
run_count (code ∷ codes) =
    let more = run_count codes in
    let one = joined_count (run_of code) (longest_runs codes) in
    omega arith

abbrev EndsBy : ℕ → Run → Type 0
EndsBy high run = run.first + run.more ≤ high

joined_ends : (high : ℕ) (run : Run) (runs : List Run) → EndsBy high run → All (EndsBy high) runs
    → All (EndsBy high) (joined run runs)
joined_ends high run [] h hs = All-cons (EndsBy high) run [] h hs
joined_ends high run (next ∷ runs) h hs = by (continues run next) refl
  where
    by : (b : Bool) → continues run next ≡ b
        → All (EndsBy high) (cond b (both run next ∷ runs) (run ∷ next ∷ runs))
    by true e =
        let on = is_next run next e in
        let ends : next.first + next.more ≤ high = All-head (EndsBy high) next runs hs in
        All-cons (EndsBy high) (both run next) runs (omega arith)
        (All-tail (EndsBy high) next runs hs)
    by false e = All-cons (EndsBy high) run (next ∷ runs) h hs

pub run_ends : (high : ℕ) (codes : Codes) → All (λ code. code.0 ≤ high) codes
    → All (λ run. run.first + run.more ≤ high) (longest_runs codes)
run_ends high [] h = All-nil (EndsBy high)
run_ends high (code ∷ codes) h =
    let here : code.0 ≤ high = All-head (λ c. c.0 ≤ high) code codes h in
    joined_ends high (run_of code) (longest_runs codes) (omega arith)
    (run_ends high codes (All-tail (λ c. c.0 ≤ high) code codes h))

-- ---- of a font's codes

pub short_within : (codes : Codes) → AreCodes codes
    → All (λ code. code.0 ≤ 1114111) (short_codes codes)
short_within codes are = All-filter (λ code. nat_le code.0 65534) (λ code. code.0 ≤ 1114111) codes
    are.within

pub short_runs_end : (codes : Codes) → All (λ run. run.first + run.more ≤ 65534)
    (longest_runs (short_codes codes))
short_runs_end codes = run_ends 65534 (short_codes codes) (short_below codes)

pub few_segments : (codes : Codes) → AreCodes codes → length (segments codes) ≤ 65536
few_segments codes are =
    let runs = run_count (short_codes codes) in
    let few = count_of_rising (short_codes codes) 65534 (short_rise codes are.rise)
    (short_below codes) in
    omega (arith, length-segments (longest_runs (short_codes codes)))

pub some_segments : (codes : Codes) → 0 < length (segments codes)
some_segments codes = omega (arith, length-segments (longest_runs (short_codes codes)))

pub few_groups : (codes : Codes) → AreCodes codes → length (longest_runs codes) ≤ 1114112
few_groups codes are =
    let runs = run_count codes in
    let few = count_of_rising codes 1114111 are.rise are.within in
    omega arith

pub short_glyphs : (codes : Codes) → AreGlyphNumbers codes → AreGlyphNumbers (short_codes codes)
short_glyphs codes are = All-filter (λ code. nat_le code.0 65534) (λ code. code.1 < 65536) codes are
