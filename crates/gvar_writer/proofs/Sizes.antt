-- Packed values take at most three bytes each.
use Rattle.std.proofs.Common.{◌≡◌, ℕ, ◌+◌, ◌*◌, ◌≤◌, ℤ, Bool, true, false, cond, List, []}
use Rattle.std.proofs.Common.{◌∷◌, ◌++◌, length, eqb, arith, nat_lt, refl}
use Rattle.std.specs.List.{flat_map}
use Rattle.std.proofs.lemmas.List.{length-append}
use Rattle.std.proofs.lemmas.Bool.Decides.{nat_tests}
use Rattle.table_bytes.specs.DataTypes.{int16}
use Rattle.gvar_writer.specs.Runs.{goes_on, runs_after, run_bytes, packed}
use Rattle.gvar_writer.specs.PackedDeltas.{delta_flags, delta_bytes, int8, packed_deltas}
use Rattle.gvar_writer.specs.TupleData.{all_form, shorter, tuple_data}

-- a way to write a value that takes at most two bytes
abbrev IsShort : {A : Type 0} → (A → List ℕ) → Type 0
IsShort {A} f = (x : A) → length (f x) ≤ 2

short_values : {A : Type 0} (f : A → List ℕ) (xs : List A) → IsShort f
    → length (flat_map f xs) ≤ 2 * length xs
short_values f [] short = omega arith
short_values f (x ∷ xs) short = omega (
  arith,
  short x,
  short_values f xs short,
  length-append (f x) (flat_map f xs),
)

short_run : {A : Type 0} (flags : A → ℕ) (bytes : ℕ → A → List ℕ) (run : List A)
    → ((k : ℕ) → IsShort (bytes k)) → length (run_bytes flags bytes run) ≤ 3 * length run
short_run flags bytes [] short = omega arith
short_run flags bytes (first ∷ more) short = omega (
  arith,
  short_values (bytes (flags first)) (first ∷ more) (short (flags first)),
)

short_runs : {A : Type 0} (flags : A → ℕ) (most : ℕ) (bytes : ℕ → A → List ℕ) (run xs : List A)
    → ((k : ℕ) → IsShort (bytes k))
    → length (flat_map (run_bytes flags bytes) (runs_after flags most run xs))
    ≤ 3 * (length run + length xs)
short_runs flags most bytes run [] short = omega (
  arith,
  short_run flags bytes run short,
  length-append (run_bytes flags bytes run) [],
)
short_runs {A} flags most bytes run (x ∷ xs) short =
    by (goes_on flags most run x) (short_runs flags most bytes (run ++ x ∷ []) xs short)
    (short_runs flags most bytes (x ∷ []) xs short)
  where
    by : (b : Bool)
        → length (flat_map (run_bytes flags bytes) (runs_after flags most (run ++ x ∷ []) xs))
        ≤ 3 * (length (run ++ x ∷ []) + length xs)
        → length (flat_map (run_bytes flags bytes) (runs_after flags most (x ∷ []) xs))
        ≤ 3 * (1 + length xs)
        → length (flat_map (run_bytes flags bytes)
        (cond b (runs_after flags most (run ++ x ∷ []) xs)
        (run ∷ runs_after flags most (x ∷ []) xs)))
        ≤ 3 * (length run + length (x ∷ xs))
    by true longer next = omega (arith, longer, length-append run (x ∷ []))
    by false longer next = omega (
      arith,
      next,
      short_run flags bytes run short,
      length-append
          (run_bytes flags bytes run)
          (flat_map (run_bytes flags bytes) (runs_after flags most (x ∷ []) xs)),
    )

short_packed : {A : Type 0} (flags : A → ℕ) (most : ℕ) (bytes : ℕ → A → List ℕ) (xs : List A)
    → ((k : ℕ) → IsShort (bytes k)) → length (packed flags most bytes xs) ≤ 3 * length xs
short_packed flags most bytes [] short = omega arith
short_packed flags most bytes (x ∷ xs) short = omega
    (arith, short_runs flags most bytes (x ∷ []) xs short)

short_delta : (k : ℕ) → IsShort (delta_bytes k)
short_delta k delta = by (eqb k 128) (eqb k 64)
  where
    by : (a b : Bool) → length (cond a [] (cond b (int16 delta) (int8 delta))) ≤ 2
    by true b = omega arith
    by false true = omega arith
    by false false = omega arith

short_deltas : (deltas : List ℤ) → length (packed_deltas deltas) ≤ 3 * length deltas
unfolding packed_deltas
short_deltas deltas = short_packed delta_flags 64 delta_bytes deltas short_delta

short_all : (xs ys : List ℤ) → length (all_form xs ys) ≤ 1 + 3 * (length xs + length ys)
unfolding all_form
short_all xs ys = omega (
  arith,
  short_deltas xs,
  short_deltas ys,
  length-append (packed_deltas xs) (packed_deltas ys),
)

-- so does the shorter form
pub short_data : (contours : List (List (ℤ × ℤ))) (xs ys : List ℤ) → length ys ≡ length xs
    → length xs ≤ 8004 → length (tuple_data contours xs ys) ≤ 65535
unfolding tuple_data
short_data contours xs ys pairs few =
    by (all_form xs ys) _ (omega (arith, short_all xs ys))
  where
    by : (all named : List ℕ) → length all ≤ 65535 → length (shorter all named) ≤ 65535
    by all named short = at (nat_lt (length named) (length all)) refl
      where
        at : (b : Bool) → nat_lt (length named) (length all) ≡ b
            → length (cond b named all) ≤ 65535
        at true e = grind (arith, nat_tests)
        at false e = short
