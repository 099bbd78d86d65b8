-- Joining a run to the runs after it, and that the runs of codes are the only longest ones.
use Rattle.std.proofs.Common.{◌≡◌, ℕ, zero, suc, ◌+◌, ◌<◌, Bool, true, false, cond, ◌&&◌, drop}
use Rattle.std.proofs.Common.{get_or, drop-cons, List, [], ◌∷◌, ◌++◌, length, refl, ap, sym, ◌∙◌}
use Rattle.std.proofs.Common.{arith, append_assoc, eqb}
use Rattle.std.proofs.lemmas.Bool.{eqb-true, eq-eqb}
use Rattle.std.specs.List.{flat_map}
use Rattle.cmap_writer.specs.declared.runs.Run.{Run}
use Rattle.cmap_writer.specs.Runs.{Codes, codes_from, codes_of, Continues, IsApart, AreApart}
use Rattle.cmap_writer.specs.Runs.{AreLongestRuns, run_of, continues, both, joined, longest_runs}

both_true : (a b : Bool) → (a && b) ≡ true → (a ≡ true) × (b ≡ true)
both_true true b e = (refl, e)
both_true false b e = cc

pub is_next : (run next : Run) → continues run next ≡ true → Continues run next
is_next run next e =
    let parts = both_true (eqb next.first (run.first + run.more + 1))
    (eqb next.glyph (run.glyph + run.more + 1)) e in
    (eqb-true _ _ parts.0, eqb-true _ _ parts.1)

pub goes_on : (run next : Run) → Continues run next → continues run next ≡ true
goes_on run next h =
    ap (λ b. b && eqb next.glyph (run.glyph + run.more + 1)) (eq-eqb next.first _ h.0)
    ∙ eq-eqb next.glyph _ h.1

not_next : (run next : Run) → continues run next ≡ false → ¬ (Continues run next)
not_next run next e h = let t = goes_on run next h in cc

is_apart : (run next : Run) → ¬ (Continues run next) → continues run next ≡ false
is_apart run next h = by (continues run next) refl
  where
    by : (b : Bool) → continues run next ≡ b → b ≡ false
    by true e = absurd (h (is_next run next e))
    by false e = refl

abbrev pub made : ℕ → ℕ → ℕ → Run
made first glyph more = record { first = first; glyph = glyph; more = more }

same_run : (first glyph m n : ℕ) → m ≡ n → made first glyph m ≡ made first glyph n
same_run first glyph m n e = ap (made first glyph) e

-- a run that goes on takes in the next one, with all that that one takes in
pub joined_on : (run next : Run) (runs : List Run) → continues run next ≡ true
    → joined run (joined next runs) ≡ joined (both run next) runs
joined_on run next [] e = ap (λ b. cond b (both run next ∷ []) (run ∷ next ∷ [])) e
joined_on run next (r ∷ rs) e = by (continues next r) refl
  where
    by : (b : Bool) → continues next r ≡ b
        → joined run (cond b (both next r ∷ rs) (next ∷ r ∷ rs)) ≡ joined (both run next) (r ∷ rs)
    by true f =
        let h = is_next run next e in
        let k = is_next next r f in
        let on : continues (both run next) r
        ≡ true = goes_on (both run next) r (omega arith, omega arith) in
        ap (λ b. cond b (both run (both next r) ∷ rs) (run ∷ both next r ∷ rs)) e
        ∙ ap (λ r'. r' ∷ rs) (same_run run.first run.glyph (run.more + 1 + (next.more + 1 + r.more))
        (run.more + 1 + next.more + 1 + r.more) (omega arith))
        ∙ sym (ap (λ b. cond b (both (both run next) r ∷ rs) (both run next ∷ r ∷ rs)) on)
    by false f =
        let h = is_next run next e in
        let not : ¬ (Continues next r) = not_next next r f in
        let off : continues (both run next) r
        ≡ false = is_apart (both run next) r (λ k. not (omega arith, omega arith)) in
        ap (λ b. cond b (both run next ∷ r ∷ rs) (run ∷ next ∷ r ∷ rs)) e
        ∙ sym (ap (λ b. cond b (both (both run next) r ∷ rs) (both run next ∷ r ∷ rs)) off)

-- a run that doesn't go on stands before the others
pub joined_off : (run next : Run) (runs : List Run) → continues run next ≡ false
    → joined run (joined next runs) ≡ run ∷ joined next runs
joined_off run next [] e = ap (λ b. cond b (both run next ∷ []) (run ∷ next ∷ [])) e
joined_off run next (r ∷ rs) e = by (continues next r)
  where
    by : (b : Bool) → joined run (cond b (both next r ∷ rs) (next ∷ r ∷ rs))
        ≡ run ∷ cond b (both next r ∷ rs) (next ∷ r ∷ rs)
    by true = ap (λ b. cond b (both run (both next r) ∷ rs) (run ∷ both next r ∷ rs)) e
    by false = ap (λ b. cond b (both run next ∷ r ∷ rs) (run ∷ next ∷ r ∷ rs)) e

-- ---- what the runs stand for

codes_from-more : (code glyph m n : ℕ) → codes_from code glyph (m + 1 + n)
    ≡ codes_from code glyph m ++ codes_from (code + m + 1) (glyph + m + 1) n
codes_from-more code glyph zero n =
    let more : zero + 1 + n ≡ suc n = omega arith in
    let c : code + 1 ≡ code + zero + 1 = omega arith in
    let g : glyph + 1 ≡ glyph + zero + 1 = omega arith in
    ap (codes_from code glyph) more ∙ (λ i. (code, glyph) ∷ codes_from (c i) (g i) n)
codes_from-more code glyph (suc m) n =
    let more : suc m + 1 + n ≡ suc (m + 1 + n) = omega arith in
    let c : code + 1 + m + 1 ≡ code + suc m + 1 = omega arith in
    let g : glyph + 1 + m + 1 ≡ glyph + suc m + 1 = omega arith in
    ap (codes_from code glyph) more
    ∙ ap (λ codes. (code, glyph) ∷ codes) (codes_from-more (code + 1) (glyph + 1) m n)
    ∙ (λ i. (code, glyph) ∷ (codes_from (code + 1) (glyph + 1) m ++ codes_from (c i) (g i) n))

flat_map-joined : (run : Run) (runs : List Run)
    → flat_map codes_of (joined run runs) ≡ codes_of run ++ flat_map codes_of runs
flat_map-joined run [] = refl
flat_map-joined run (next ∷ runs) = by (continues run next) refl
  where
    by : (b : Bool) → continues run next ≡ b
        → flat_map codes_of (cond b (both run next ∷ runs) (run ∷ next ∷ runs))
        ≡ codes_of run ++ (codes_of next ++ flat_map codes_of runs)
    by true e =
        let h = is_next run next e in
        ap (λ codes. codes ++ flat_map codes_of runs)
        (codes_from-more run.first run.glyph run.more next.more
        ∙ (λ i. codes_of run ++ codes_from (sym h.0 i) (sym h.1 i) next.more))
        ∙ append_assoc (codes_of run) (codes_of next) (flat_map codes_of runs)
    by false e = refl

pub whole : (codes : Codes) → flat_map codes_of (longest_runs codes) ≡ codes
whole [] = refl
whole (code ∷ codes) = flat_map-joined (run_of code) (longest_runs codes)
    ∙ ap (λ cs. code ∷ cs) (whole codes)

apart-joined : (run : Run) (runs : List Run) → AreApart runs → AreApart (joined run runs)
apart-joined run [] h = (tt, tt)
apart-joined run (next ∷ runs) h = by (continues run next) refl
  where
    still : (rs : List Run) → Continues run next → IsApart next rs → IsApart (both run next) rs
    still [] n a = tt
    still (r ∷ rs) n a = λ k. a (omega arith, omega arith)

    by : (b : Bool) → continues run next ≡ b
        → AreApart (cond b (both run next ∷ runs) (run ∷ next ∷ runs))
    by true e = (still runs (is_next run next e) h.0, h.1)
    by false e = (not_next run next e, h)

apart : (codes : Codes) → AreApart (longest_runs codes)
apart [] = tt
apart (code ∷ codes) = apart-joined (run_of code) (longest_runs codes) (apart codes)

pub are_longest : (codes : Codes) → AreLongestRuns codes (longest_runs codes)
are_longest codes = record { whole = whole codes; apart = apart codes }

-- ---- they are the only ones

longest_runs-front : (code glyph m : ℕ) (rest : Codes)
    → longest_runs (codes_from code glyph m ++ rest)
    ≡ joined (record { first = code; glyph = glyph; more = m }) (longest_runs rest)
longest_runs-front code glyph zero rest = refl
longest_runs-front code glyph (suc m) rest =
    let next : Run = record { first = code + 1; glyph = glyph + 1; more = m } in
    ap (joined (run_of (code, glyph))) (longest_runs-front (code + 1) (glyph + 1) m rest)
    ∙ joined_on (run_of (code, glyph)) next (longest_runs rest)
    (goes_on (run_of (code, glyph)) next (omega arith, omega arith))
    ∙ ap (λ run. joined run (longest_runs rest))
    (same_run code glyph (0 + 1 + m) (suc m) (omega arith))

joined-apart : (run : Run) (runs : List Run) → IsApart run runs → joined run runs ≡ run ∷ runs
joined-apart run [] h = refl
joined-apart run (next ∷ runs) h = ap (λ b. cond b (both run next ∷ runs) (run ∷ next ∷ runs))
    (is_apart run next h)

of_runs : (runs : List Run) → AreApart runs → longest_runs (flat_map codes_of runs) ≡ runs
of_runs [] h = refl
of_runs (run ∷ runs) h =
    longest_runs-front run.first run.glyph run.more (flat_map codes_of runs)
    ∙ ap (joined run) (of_runs runs h.1)
    ∙ joined-apart run runs h.0

pub only : (codes : Codes) (runs : List Run) → AreLongestRuns codes runs → runs ≡ longest_runs codes
only codes runs h = sym (of_runs runs h.apart) ∙ ap longest_runs h.whole

-- ---- one code more

onto_drop : (codes : Codes) (i : ℕ) (d : ℕ × ℕ) (run : Run) → i < length codes
    → joined run (longest_runs (drop i codes))
    ≡ joined run (joined (run_of (get_or codes i d)) (longest_runs (drop (i + 1) codes)))
onto_drop codes i d run h =
    let more : suc i ≡ i + 1 = omega arith in
    ap (λ cs. joined run (longest_runs cs)) (drop-cons codes i d h)
    ∙ ap (λ k. joined run (joined (run_of (get_or codes i d)) (longest_runs (drop k codes)))) more

pub step_on : (codes : Codes) (i : ℕ) (d : ℕ × ℕ) (run : Run) → i < length codes
    → continues run (run_of (get_or codes i d)) ≡ true
    → joined run (longest_runs (drop i codes))
    ≡ joined (made run.first run.glyph (run.more + 1)) (longest_runs (drop (i + 1) codes))
step_on codes i d run h e =
    onto_drop codes i d run h
    ∙ joined_on run (run_of (get_or codes i d)) (longest_runs (drop (i + 1) codes)) e
    ∙ ap (λ r. joined r (longest_runs (drop (i + 1) codes)))
    (same_run run.first run.glyph (run.more + 1 + 0) (run.more + 1) (omega arith))

pub step_off : (codes : Codes) (i : ℕ) (d : ℕ × ℕ) (run : Run) → i < length codes
    → continues run (run_of (get_or codes i d)) ≡ false
    → joined run (longest_runs (drop i codes))
    ≡ run ∷ joined (run_of (get_or codes i d)) (longest_runs (drop (i + 1) codes))
step_off codes i d run h e =
    onto_drop codes i d run h ∙ joined_off run (run_of (get_or codes i d))
    (longest_runs (drop (i + 1) codes)) e
