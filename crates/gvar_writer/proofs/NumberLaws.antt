-- Packed point numbers read back as what they were made of.
use Rattle.std.proofs.Common.{◌≡◌, ℕ, suc, ◌+◌, ◌-◌, ◌*◌, ◌/◌, ◌%◌, ◌<◌, ◌≤◌, Bool, true, false}
use Rattle.std.proofs.Common.{cond}
use Rattle.std.proofs.Common.{List, [], ◌∷◌, ◌++◌, length, refl, ap, sym, ◌∙◌, arith}
use Rattle.std.proofs.Common.{subst}
use Rattle.std.specs.Prelude.{nat_le, nat_lt}
use Rattle.std.specs.List.{AllByRecursion, flat_map}
use Rattle.std.proofs.lemmas.Bool.Decides.{nat_tests}
use Rattle.table_bytes.specs.DataTypes.{uint16}
use Rattle.gvar_writer.specs.Runs.{AreRuns, run_bytes, longest_runs}
use Rattle.gvar_writer.specs.PackedPoints.{differences, point_flags, point_bytes}
use Rattle.gvar_writer.specs.PackedPoints.{packed_differences, packed_points}
use Rattle.gvar_writer.specs.Reading.{read_numbers, numbers_in, AreRising}
use Rattle.gvar_writer.proofs.RunLaws.{are_longest}

-- ---- numbers from differences

abbrev sums : ℕ → List ℕ → List ℕ
sums before [] = []
sums before (d ∷ ds) = (before + d) ∷ sums (before + d) ds

abbrev last_sum : ℕ → List ℕ → ℕ
last_sum before [] = before
last_sum before (d ∷ ds) = last_sum (before + d) ds

sums_both : (before : ℕ) (xs ys : List ℕ)
    → sums before (xs ++ ys) ≡ sums before xs ++ sums (last_sum before xs) ys
sums_both before [] ys = refl
sums_both before (x ∷ xs) ys = ap (λ ns. (before + x) ∷ ns) (sums_both (before + x) xs ys)

abbrev Fit : List ℕ → Type 0
Fit ds = AllByRecursion (λ d. d < 65536) ds

back_to : (before : ℕ) (numbers : List ℕ) → AreRising before numbers
    → sums before (differences before numbers) ≡ numbers
back_to before [] rising = refl
back_to before (number ∷ numbers) rising =
    let here : before + (number - before) ≡ number = omega (arith, rising.0) in
    ap (λ n. n ∷ sums n (differences number numbers)) here
    ∙ ap (λ ns. number ∷ ns) (back_to number numbers rising.2)

fit_differences : (before : ℕ) (numbers : List ℕ) → AreRising before numbers
    → Fit (differences before numbers)
fit_differences before [] rising = tt
fit_differences before (number ∷ numbers) rising =
    (omega (arith, rising.1), fit_differences number numbers rising.2)

-- ---- the differences of a run

abbrev Alike : ℕ → List ℕ → Type 0
Alike flags ds = AllByRecursion (λ d. point_flags d ≡ flags) ds

abbrev flags_by : Bool → ℕ
flags_by short = cond short 0 128

is_byte : (short : Bool) → flags_by short ≡ 0 → short ≡ true
is_byte true e = refl
is_byte false e = absurd (omega (arith, e))

any_kind : (before : ℕ) (bytes : List ℕ)
    → read_numbers before true 0 bytes ≡ read_numbers before false 0 bytes
any_kind before [] = refl
any_kind before (control ∷ bytes) = refl

bytes_back : (before : ℕ) (ds rest : List ℕ) → Alike 0 ds
    → read_numbers before false (length ds) (flat_map (point_bytes 0) ds ++ rest)
    ≡ sums before ds ++ read_numbers (last_sum before ds) false 0 rest
bytes_back before [] rest alike = refl
bytes_back before (d ∷ ds) rest alike =
    let short : nat_le d 255 ≡ true = is_byte (nat_le d 255) alike.0 in
    let small : d ≤ 255 = grind (arith, nat_tests) in
    let back : d % 256 ≡ d = omega arith in
    ap (λ m. (before + m) ∷ read_numbers (before + m) false (length ds)
    (flat_map (point_bytes 0) ds ++ rest)) back
    ∙ ap (λ ns. (before + d) ∷ ns) (bytes_back (before + d) ds rest alike.1)

words_back : (before : ℕ) (ds rest : List ℕ) → Fit ds
    → read_numbers before true (length ds) (flat_map (point_bytes 128) ds ++ rest)
    ≡ sums before ds ++ read_numbers (last_sum before ds) false 0 rest
words_back before [] rest fit = any_kind before rest
words_back before (d ∷ ds) rest fit =
    let back : 256 * (d / 256 % 256) + d % 256 ≡ d = omega (arith, fit.0) in
    ap (λ m. (before + m) ∷ read_numbers (before + m) true (length ds)
    (flat_map (point_bytes 128) ds ++ rest)) back
    ∙ ap (λ ns. (before + d) ∷ ns) (words_back (before + d) ds rest fit.1)

-- ---- a run

abbrev after_control : ℕ → ℕ → List ℕ → List ℕ
after_control before control bytes = read_numbers before (nat_le 128 control) (control % 128 + 1)
    bytes

run_with : (before : ℕ) (short : Bool) (run : List ℕ) (n : ℕ) (rest : List ℕ)
    → length run ≡ suc n → n < 128 → Alike (flags_by short) run → Fit run
    → after_control before (flags_by short + n)
    (flat_map (point_bytes (flags_by short)) run ++ rest)
    ≡ sums before run ++ read_numbers (last_sum before run) false 0 rest
run_with before true run n rest is few alike fit =
    let low : nat_le 128 (0 + n) ≡ false = grind (arith, nat_tests) in
    let count : (0 + n) % 128 + 1 ≡ length run = omega arith in
    (λ i. read_numbers before (low i) (count i) (flat_map (point_bytes 0) run ++ rest))
    ∙ bytes_back before run rest alike
run_with before false run n rest is few alike fit =
    let high : nat_le 128 (128 + n) ≡ true = grind (arith, nat_tests) in
    let count : (128 + n) % 128 + 1 ≡ length run = omega arith in
    (λ i. read_numbers before (high i) (count i) (flat_map (point_bytes 128) run ++ rest))
    ∙ words_back before run rest fit

-- ---- all runs

fit_parts : (xs ys : List ℕ) → Fit (xs ++ ys) → Fit xs × Fit ys
fit_parts [] ys fit = (tt, fit)
fit_parts (x ∷ xs) ys fit = let parts = fit_parts xs ys fit.1 in ((fit.0, parts.0), parts.1)

runs_back : (before : ℕ) (runs : List (List ℕ)) → AreRuns point_flags 128 runs
    → Fit (flat_map (λ r. r) runs)
    → read_numbers before false 0 (flat_map (run_bytes point_flags point_bytes) runs)
    ≡ sums before (flat_map (λ r. r) runs)
runs_back before [] are fit = refl
runs_back before ([] ∷ runs) are fit = absurd are
runs_back before ((first ∷ more) ∷ runs) are fit =
    let parts = fit_parts (first ∷ more) (flat_map (λ r. r) runs) fit in
    run_with before (nat_le first 255) (first ∷ more) (length more)
    (flat_map (run_bytes point_flags point_bytes) runs) refl (omega (arith, are.0.short))
    (refl, are.0.alike) parts.0
    ∙ ap (λ ns. sums before (first ∷ more) ++ ns)
    (runs_back (last_sum before (first ∷ more)) runs are.1 parts.1)
    ∙ sym (sums_both before (first ∷ more) (flat_map (λ r. r) runs))

differences_back : (numbers : List ℕ) → AreRising 0 numbers
    → read_numbers 0 false 0 (packed_differences (differences 0 numbers)) ≡ numbers
unfolding packed_differences
differences_back numbers rising =
    let ds : List ℕ = differences 0 numbers in
    let are = are_longest point_flags 128 ds (omega arith) in
    runs_back 0 (longest_runs point_flags 128 ds) are.are_runs
    (subst Fit (sym are.whole) (fit_differences 0 numbers rising))
    ∙ ap (sums 0) are.whole
    ∙ back_to 0 numbers rising

-- ---- the count

short_count : (n : ℕ) (bytes : List ℕ) → nat_lt n 128 ≡ true
    → numbers_in (n ∷ bytes) ≡ (n, read_numbers 0 false 0 bytes)
short_count n [] e = refl
short_count n (second ∷ bytes) e =
    ap (λ b. cond b (n, read_numbers 0 false 0 (second ∷ bytes))
    (256 * (n - 128) + second, read_numbers 0 false 0 bytes)) e

long_count : (n : ℕ) (bytes : List ℕ) → n < 32768
    → numbers_in (uint16 (32768 + n) ++ bytes) ≡ (n, read_numbers 0 false 0 bytes)
long_count n bytes few =
    let high : ℕ = (32768 + n) / 256 % 256 in
    let low : ℕ = (32768 + n) % 256 in
    let bit : nat_lt high 128 ≡ false = grind (arith, nat_tests) in
    let count : 256 * (high - 128) + low ≡ n = omega arith in
    ap (λ b. cond b (high, read_numbers 0 false 0 (low ∷ bytes))
    (256 * (high - 128) + low, read_numbers 0 false 0 bytes)) bit
    ∙ ap (λ m. (m, read_numbers 0 false 0 bytes)) count

pub numbers_back : (numbers : List ℕ) → length numbers < 32768 → AreRising 0 numbers
    → numbers_in (packed_points numbers) ≡ (length numbers, numbers)
numbers_back numbers few rising = by (nat_lt (length numbers) 128) refl
  where
    by : (b : Bool) → nat_lt (length numbers) 128 ≡ b
        → numbers_in (cond b (length numbers ∷ []) (uint16 (32768 + length numbers))
        ++ packed_differences (differences 0 numbers)) ≡ (length numbers, numbers)
    by true e = short_count (length numbers) (packed_differences (differences 0 numbers)) e
        ∙ ap (λ ns. (length numbers, ns)) (differences_back numbers rising)
    by false e = long_count (length numbers) (packed_differences (differences 0 numbers)) few
        ∙ ap (λ ns. (length numbers, ns)) (differences_back numbers rising)
