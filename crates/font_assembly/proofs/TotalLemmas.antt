-- The sum of the 32-bit numbers of bytes, part by part.
use Rattle.std.proofs.Common.{◌≡◌, ℕ, suc, ◌+◌, ◌-◌, ◌%◌, ◌^◌, ◌<◌, ◌≤◌, List, [], ◌∷◌, ◌++◌}
use Rattle.std.proofs.Common.{length, replicate, take, drop, refl, ap, arith, length-append}
use Rattle.std.proofs.Common.{append_assoc}
use Rattle.std.proofs.Math.Seq.{take-length}
use Rattle.std.specs.Int.{w32, from_be_bytes}
use Rattle.std.proofs.lemmas.List.{append-nil}
use Rattle.std.proofs.lemmas.List.Sums.{sum_by-cons, sum_by-append}
use Rattle.byteorder.specs.Endian.{big_number}
use Rattle.table_bytes.specs.DataTypes.{padding, padded}
use Rattle.font_assembly.specs.Checksum.{words, total}

pub padding-four : (n : ℕ) → padding (suc (suc (suc (suc n)))) ≡ padding n
padding-four n = omega arith

pub padding-whole : (m n : ℕ) → m % 4 ≡ 0 → padding (m + n) ≡ padding n
padding-whole m n e = omega arith

pub padding-none : (m : ℕ) → m % 4 ≡ 0 → padding m ≡ 0
padding-none m e = omega arith

-- four bytes in front add their number
pub total-four : (a b c d : ℕ) (rest : List ℕ)
    → total (a ∷ b ∷ c ∷ d ∷ rest) ≡ from_be_bytes w32 (a ∷ b ∷ c ∷ d ∷ []) + total rest
unfolding total
total-four a b c d rest =
    rw (padding-four (length rest)) (sum_by-cons (λ x. x) (from_be_bytes w32 (a ∷ b ∷ c ∷ d ∷ []))
    (words (padded rest)))

pub words-append : (xs ys : List ℕ) → length xs % 4 ≡ 0 → words (xs ++ ys) ≡ words xs ++ words ys
words-append [] ys e = refl
words-append (a ∷ []) ys e = absurd (omega arith)
words-append (a ∷ b ∷ []) ys e = absurd (omega arith)
words-append (a ∷ b ∷ c ∷ []) ys e = absurd (omega arith)
words-append (a ∷ b ∷ c ∷ d ∷ xs) ys e =
    ap (λ ws. from_be_bytes w32 (a ∷ b ∷ c ∷ d ∷ []) ∷ ws) (words-append xs ys (omega arith))

-- bytes in front whose length is a multiple of four add their sum
pub total-append : (xs ys : List ℕ) → length xs % 4 ≡ 0 → total (xs ++ ys) ≡ total xs + total ys
unfolding total
total-append xs ys e =
    rw (
      length-append xs ys,
      padding-whole (length xs) (length ys) e,
      padding-none (length xs) e,
      append-nil xs,
      append_assoc xs ys (replicate (padding (length ys)) 0),
      words-append xs (padded ys) e,
    )
    (sum_by-append (λ x. x) (words xs) (words (padded ys)))

-- a wrapping sum goes on with one number
pub wraps : (s x t m : ℕ) → (s + (x + t)) % 2 ^ 32 ≡ m → ((s + x) % 2 ^ 32 + t) % 2 ^ 32 ≡ m
wraps s x t m e = omega arith

-- the first four bytes of a list go into the sum
pub total-step : (s x m : ℕ) (rest : List ℕ) → 4 ≤ length rest → x ≡ big_number 4 rest
    → (s + total rest) % 2 ^ 32 ≡ m → ((s + x) % 2 ^ 32
    + total (take (length rest - 4) (drop 4 rest))) % 2 ^ 32 ≡ m
total-step s x m [] h e i = absurd (omega arith)
total-step s x m (a ∷ []) h e i = absurd (omega arith)
total-step s x m (a ∷ b ∷ []) h e i = absurd (omega arith)
total-step s x m (a ∷ b ∷ c ∷ []) h e i = absurd (omega arith)
total-step s x m (a ∷ b ∷ c ∷ d ∷ rest) h e i =
    let same : length (a ∷ b ∷ c ∷ d ∷ rest) - 4 ≡ length rest = omega arith in
    let number : x ≡ from_be_bytes w32 (a ∷ b ∷ c ∷ d ∷ []) = omega arith in
    rw (same, take-length rest) (wraps s x (total rest) m
    (rw (number, ← total-four a b c d rest) i))

-- the number of fewer than four bytes and zeros
pub total-last : (bytes : List ℕ) → length bytes < 4
    → big_number 4 (bytes ++ drop (length bytes) (0 ∷ 0 ∷ 0 ∷ 0 ∷ [])) ≡ total bytes
unfolding total
total-last [] h = refl
total-last (a ∷ []) h = omega arith
total-last (a ∷ b ∷ []) h = omega arith
total-last (a ∷ b ∷ c ∷ []) h = omega arith
total-last (a ∷ b ∷ c ∷ d ∷ rest) h = absurd (omega arith)
