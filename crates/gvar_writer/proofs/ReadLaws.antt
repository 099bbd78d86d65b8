-- Packed deltas read back as what they were made of.
use Rattle.std.proofs.Common.{◌≡◌, ℕ, suc, ◌+◌, ◌-◌, ◌*◌, ◌/◌, ◌%◌, ◌<◌, ◌≤◌, Bool, true, false}
use Rattle.std.proofs.Common.{cond}
use Rattle.std.proofs.Common.{ℤ, pos, negsuc, List, [], ◌∷◌, ◌++◌, length, replicate, refl, ap}
use Rattle.std.proofs.Common.{sym, ◌∙◌, arith, FitsSigned, to_z-of_z, subst}
use Rattle.std.specs.Prelude.{nat_le}
use Rattle.std.specs.Int.{w8, w16, cast_signed, cast_unsigned}
use Rattle.std.specs.Ordering.{int_eq}
use Rattle.std.specs.List.{AllByRecursion, flat_map}
use Rattle.std.proofs.lemmas.Int.{ints}
use Rattle.std.proofs.lemmas.Bool.Decides.{nat_tests}
use Rattle.gvar_writer.specs.Runs.{IsRun, AreRuns, run_bytes, longest_runs}
use Rattle.gvar_writer.specs.PackedDeltas.{delta_flags, delta_bytes, is_short, packed_deltas}
use Rattle.gvar_writer.specs.Reading.{read_deltas, deltas_in}
use Rattle.gvar_writer.proofs.RunLaws.{are_longest}

-- ---- one delta

below_word : (z : ℤ) → FitsSigned w16 z → cast_unsigned w16 z < 65536
below_word (pos n) fits = omega arith
below_word (negsuc n) fits = omega arith

word_back : (z : ℤ) → FitsSigned w16 z
    → cast_signed w16 (256 * (cast_unsigned w16 z / 256 % 256) + cast_unsigned w16 z % 256) ≡ z
word_back z fits =
    let n : ℕ = cast_unsigned w16 z in
    let below : n < 65536 = below_word z fits in
    let same : 256 * (n / 256 % 256) + n % 256 ≡ n = omega arith in
    ap (cast_signed w16) same ∙ to_z-of_z fits

byte_back : (z : ℤ) → is_short z ≡ true → cast_signed w8 (cast_unsigned w16 z % 256) ≡ z
byte_back (pos n) e =
    let small : n ≤ 127 = grind (arith, nat_tests) in
    let fits : FitsSigned w8 (pos n) = record { sfits = omega arith } in
    let same : n % 256 ≡ n = omega arith in
    ap (cast_signed w8) same ∙ to_z-of_z fits
byte_back (negsuc n) e =
    let small : n ≤ 127 = grind (arith, nat_tests) in
    let fits : FitsSigned w8 (negsuc n) = record { sfits = omega arith } in
    let same : (65536 - suc n) % 256 ≡ 256 - suc n = omega arith in
    ap (cast_signed w8) same ∙ to_z-of_z fits

abbrev flags_by : Bool → Bool → ℕ
flags_by zero short = cond zero 128 (cond short 0 64)

is_byte : (zero short : Bool) → flags_by zero short ≡ 0 → short ≡ true
is_byte true short e = absurd (omega (arith, e))
is_byte false true e = refl
is_byte false false e = absurd (omega (arith, e))

is_zero : (zero short : Bool) → flags_by zero short ≡ 128 → zero ≡ true
is_zero true short e = refl
is_zero false true e = absurd (omega (arith, e))
is_zero false false e = absurd (omega (arith, e))

zero_back : (z : ℤ) → int_eq z (pos 0) ≡ true → z ≡ pos 0
zero_back z e = grind (arith, ints)

-- ---- the deltas of a run

abbrev Alike : ℕ → List ℤ → Type 0
Alike flags xs = AllByRecursion (λ x. delta_flags x ≡ flags) xs

abbrev Fit : List ℤ → Type 0
Fit xs = AllByRecursion (FitsSigned w16) xs

any_kind : (bytes : List ℕ) → read_deltas true 0 bytes ≡ read_deltas false 0 bytes
any_kind [] = refl
any_kind (control ∷ bytes) = refl

bytes_back : (xs : List ℤ) (rest : List ℕ) → Alike 0 xs
    → read_deltas false (length xs) (flat_map (delta_bytes 0) xs ++ rest)
    ≡ xs ++ read_deltas false 0 rest
bytes_back [] rest alike = refl
bytes_back (x ∷ xs) rest alike =
    let short : is_short x ≡ true = is_byte (int_eq x (pos 0)) (is_short x) alike.0 in
    (λ i. byte_back x short i ∷ bytes_back xs rest alike.1 i)

words_back : (xs : List ℤ) (rest : List ℕ) → Fit xs
    → read_deltas true (length xs) (flat_map (delta_bytes 64) xs ++ rest)
    ≡ xs ++ read_deltas false 0 rest
words_back [] rest fit = any_kind rest
words_back (x ∷ xs) rest fit =
    (λ i. word_back x fit.0 i ∷ words_back xs rest fit.1 i)

no_bytes : (xs : List ℤ) → flat_map (delta_bytes 128) xs ≡ []
no_bytes [] = refl
no_bytes (x ∷ xs) = no_bytes xs

zeros_back : (xs : List ℤ) → Alike 128 xs → replicate (length xs) (pos 0) ≡ xs
zeros_back [] alike = refl
zeros_back (x ∷ xs) alike =
    let zero : x ≡ pos 0 = zero_back x (is_zero (int_eq x (pos 0)) (is_short x) alike.0) in
    (λ i. sym zero i ∷ zeros_back xs alike.1 i)

-- ---- a run

-- what is read after a control byte
abbrev after_control : ℕ → List ℕ → List ℤ
after_control control bytes =
    cond (nat_le 128 control) (replicate (control % 64 + 1) (pos 0) ++ read_deltas false 0 bytes)
    (read_deltas (nat_le 64 control) (control % 64 + 1) bytes)

control_zero : (n : ℕ) (bytes : List ℕ) → n < 64
    → after_control (128 + n) bytes ≡ replicate (suc n) (pos 0) ++ read_deltas false 0 bytes
control_zero n bytes few =
    let high : nat_le 128 (128 + n) ≡ true = grind (arith, nat_tests) in
    let count : (128 + n) % 64 + 1 ≡ suc n = omega arith in
    ap (λ b. cond b (replicate ((128 + n) % 64 + 1) (pos 0) ++ read_deltas false 0 bytes)
    (read_deltas (nat_le 64 (128 + n)) ((128 + n) % 64 + 1) bytes)) high
    ∙ ap (λ m. replicate m (pos 0) ++ read_deltas false 0 bytes) count

control_byte : (n : ℕ) (bytes : List ℕ) → n < 64
    → after_control (0 + n) bytes ≡ read_deltas false (suc n) bytes
control_byte n bytes few =
    let high : nat_le 128 (0 + n) ≡ false = grind (arith, nat_tests) in
    let low : nat_le 64 (0 + n) ≡ false = grind (arith, nat_tests) in
    let count : (0 + n) % 64 + 1 ≡ suc n = omega arith in
    ap (λ b. cond b (replicate ((0 + n) % 64 + 1) (pos 0) ++ read_deltas false 0 bytes)
    (read_deltas (nat_le 64 (0 + n)) ((0 + n) % 64 + 1) bytes)) high
    ∙ (λ i. read_deltas (low i) (count i) bytes)

control_word : (n : ℕ) (bytes : List ℕ) → n < 64
    → after_control (64 + n) bytes ≡ read_deltas true (suc n) bytes
control_word n bytes few =
    let high : nat_le 128 (64 + n) ≡ false = grind (arith, nat_tests) in
    let low : nat_le 64 (64 + n) ≡ true = grind (arith, nat_tests) in
    let count : (64 + n) % 64 + 1 ≡ suc n = omega arith in
    ap (λ b. cond b (replicate ((64 + n) % 64 + 1) (pos 0) ++ read_deltas false 0 bytes)
    (read_deltas (nat_le 64 (64 + n)) ((64 + n) % 64 + 1) bytes)) high
    ∙ (λ i. read_deltas (low i) (count i) bytes)

-- a run whose deltas have these flags
run_with : (zero short : Bool) (run : List ℤ) (n : ℕ) (rest : List ℕ) → length run ≡ suc n → n < 64
    → Alike (flags_by zero short) run → Fit run
    → after_control (flags_by zero short + n)
    (flat_map (delta_bytes (flags_by zero short)) run ++ rest) ≡ run ++ read_deltas false 0 rest
run_with true short run n rest is few alike fit =
    control_zero n (flat_map (delta_bytes 128) run ++ rest) few
    ∙ ap (λ m. replicate m (pos 0) ++ read_deltas false 0 (flat_map (delta_bytes 128) run ++ rest))
    (sym is)
    ∙ (λ i. zeros_back run alike i ++ read_deltas false 0 (no_bytes run i ++ rest))
run_with false true run n rest is few alike fit =
    control_byte n (flat_map (delta_bytes 0) run ++ rest) few
    ∙ ap (λ m. read_deltas false m (flat_map (delta_bytes 0) run ++ rest)) (sym is)
    ∙ bytes_back run rest alike
run_with false false run n rest is few alike fit =
    control_word n (flat_map (delta_bytes 64) run ++ rest) few
    ∙ ap (λ m. read_deltas true m (flat_map (delta_bytes 64) run ++ rest)) (sym is)
    ∙ words_back run rest fit

run_back : (first : ℤ) (more : List ℤ) (rest : List ℕ) → IsRun delta_flags 64 first more
    → Fit (first ∷ more)
    → read_deltas false 0 (run_bytes delta_flags delta_bytes (first ∷ more) ++ rest)
    ≡ first ∷ more ++ read_deltas false 0 rest
run_back first more rest run fit =
    run_with (int_eq first (pos 0)) (is_short first) (first ∷ more) (length more) rest refl
    (omega (arith, run.short)) (refl, run.alike) fit

-- ---- all runs

fit_parts : (xs ys : List ℤ) → Fit (xs ++ ys) → Fit xs × Fit ys
fit_parts [] ys fit = (tt, fit)
fit_parts (x ∷ xs) ys fit = let parts = fit_parts xs ys fit.1 in ((fit.0, parts.0), parts.1)

runs_back : (runs : List (List ℤ)) → AreRuns delta_flags 64 runs → Fit (flat_map (λ r. r) runs)
    → deltas_in (flat_map (run_bytes delta_flags delta_bytes) runs) ≡ flat_map (λ r. r) runs
runs_back [] are fit = refl
runs_back ([] ∷ runs) are fit = absurd are
runs_back ((first ∷ more) ∷ runs) are fit =
    let parts = fit_parts (first ∷ more) (flat_map (λ r. r) runs) fit in
    run_back first more (flat_map (run_bytes delta_flags delta_bytes) runs) are.0 parts.0
    ∙ ap (λ ds. first ∷ more ++ ds) (runs_back runs are.1 parts.1)

pub deltas_back : (deltas : List ℤ) → Fit deltas → deltas_in (packed_deltas deltas) ≡ deltas
unfolding packed_deltas
deltas_back deltas fit =
    let are = are_longest delta_flags 64 deltas (omega arith) in
    runs_back (longest_runs delta_flags 64 deltas) are.are_runs
    (subst Fit (sym are.whole) fit) ∙ are.whole
