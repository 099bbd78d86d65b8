-- What the parts of a file's definition say of tables, one at a time.
use Rattle.std.proofs.Common.{◌≡◌, ℕ, zero, suc, ◌+◌, ◌-◌, ◌*◌, ◌%◌, ◌^◌, ◌<◌, ◌≤◌, Bool, true}
use Rattle.std.proofs.Common.{false, cond, not, ◌||◌, ◌&&◌, lit<, ⊎_elim, IsTrue, nat_eq, List, []}
use Rattle.std.proofs.Common.{◌∷◌, ◌++◌, length, take, drop, refl, ◌∙◌, arith, length-append}
use Rattle.std.proofs.Common.{length-drop}
use Rattle.std.proofs.lemmas.List.{length-take, take_all}
use Rattle.std.specs.List.{list_any, list_all}
use Rattle.std.proofs.lemmas.Bool.Decides.{nat_tests}
use Rattle.std.proofs.lemmas.Bool.{cases_lt}
use Rattle.std.proofs.Math.Nat.{pow-le-pow_right, pow-suc}
use Rattle.table_bytes.specs.DataTypes.{padding}
use Rattle.font_assembly.specs.Checksum.{total, checksum}
use Rattle.font_assembly.specs.File.{Table, greatest_power, is_head, fits_head, unadjusted, room_of}
use Rattle.font_assembly.specs.File.{room_of_all, head_offset}
use Rattle.font_assembly.proofs.TotalLemmas.{total-append}

-- ---- the directory's head

power_fits : (bound n : ℕ) → 2 ^ suc bound ≤ n → greatest_power (suc bound) n ≡ suc bound
power_fits bound n h = grind (arith, nat_tests)

power_is_less : (bound n : ℕ) → n < 2 ^ suc bound
    → greatest_power (suc bound) n ≡ greatest_power bound n
power_is_less bound n h = grind (arith, nat_tests)

doubles : (r k : ℕ) → r ≤ k → 2 * 2 ^ r ≤ 2 ^ suc k
doubles r k h = omega (arith, pow-suc 2 k, pow-le-pow_right {n = 2} (lit< tt) {i = r} {j = k} h)

pub greatest_power-is : (bound n r : ℕ) → 2 ^ r ≤ n → n < 2 * 2 ^ r → r ≤ bound
    → greatest_power bound n ≡ r
greatest_power-is zero n r low high small = omega arith
greatest_power-is (suc k) n r low high small =
    ⊎_elim
    (λ (less : r < suc k). power_is_less k n (omega (arith, doubles r k (omega arith)))
    ∙ greatest_power-is k n r low high (omega arith))
    (λ (most : suc k ≤ r).
    let same : suc k ≡ r = omega arith in
    power_fits k n (rw same low) ∙ same)
    (cases_lt r (suc k))

pub selector-fits : (n r : ℕ) → 2 ^ r ≤ n → n ≤ 4095 → r ≤ 15
selector-fits n r low few =
    ⊎_elim
    (λ (less : r < 16). omega arith)
    (λ (most : 16 ≤ r). let large : 2 ^ 16 ≤ 2 ^ r = pow-le-pow_right (lit< tt) most
    in absurd (omega arith))
    (cases_lt r 16)

-- ---- 'head'

long_if : (b : Bool) (n : ℕ) → b ≡ true → IsTrue (not b || nat_eq n 54) → n ≡ 54
long_if true n e h = grind (arith, nat_tests)
long_if false n e h = cc

pub head_has_54 : (t : Table) → is_head t ≡ true → IsTrue (fits_head t) → length t.bytes ≡ 54
head_has_54 t e h = long_if (is_head t) (length t.bytes) e h

length-cleared : (b : Bool) (bytes : List ℕ) → IsTrue (not b || nat_eq (length bytes) 54)
    → length (cond b (take 8 bytes ++ (0 ∷ 0 ∷ 0 ∷ 0 ∷ []) ++ drop 12 bytes) bytes) ≡ length bytes
length-cleared true bytes h =
    let long : length bytes ≡ 54 = long_if true (length bytes) refl h in
    simp (length-append, length-take, length-drop) (omega arith)
length-cleared false bytes h = refl

pub length_unadjusted : (t : Table) → IsTrue (fits_head t) → length (unadjusted t) ≡ length t.bytes
length_unadjusted t h = length-cleared (is_head t) t.bytes h

pub total-zeros : total (0 ∷ 0 ∷ 0 ∷ 0 ∷ []) ≡ 0
unfolding total
total-zeros = refl

-- the sum of 'head' with 0 as its checksumAdjustment is that of the bytes before it and after it
pub total-cleared : (front back : List ℕ) → length front % 4 ≡ 0
    → total (front ++ (0 ∷ 0 ∷ 0 ∷ 0 ∷ []) ++ back) ≡ total front + total back
total-cleared front back e =
    let four : length (front ++ (0 ∷ 0 ∷ 0 ∷ 0 ∷ [])) % 4
    ≡ 0 = omega (arith, length-append front (0 ∷ 0 ∷ 0 ∷ 0 ∷ [])) in
    rw (
      total-append (front ++ (0 ∷ 0 ∷ 0 ∷ 0 ∷ [])) back four,
      total-append front
          (0 ∷ 0 ∷ 0 ∷ 0 ∷ []) e,
      total-zeros,
    ) (omega arith)

pub checksum-cleared : (bytes : List ℕ) → 12 ≤ length bytes
    → (checksum (take 8 bytes) + checksum (drop 12 bytes)) % 2 ^ 32
    ≡ checksum (take 8 bytes ++ (0 ∷ 0 ∷ 0 ∷ 0 ∷ []) ++ drop 12 bytes)
checksum-cleared bytes h =
    let four : length (take 8 bytes) % 4 ≡ 0 = omega (arith, length-take 8 bytes) in
    rw (total-cleared (take 8 bytes) (drop 12 bytes) four) (omega arith)

-- ---- places

pub and_first : (a b : Bool) → IsTrue (a && b) → IsTrue a
and_first true b h = refl
and_first false b h = h

pub and_second : (a b : Bool) → IsTrue (a && b) → IsTrue b
and_second true b h = h
and_second false b h = cc

head_step : (b more : Bool) (n offset rest later : ℕ) → IsTrue (not b || nat_eq n 54)
    → IsTrue (b || more) → (IsTrue more → later + 54 ≤ offset + (n + padding n) + rest)
    → cond b offset later + 54 ≤ offset + (n + padding n + rest)
head_step true more n offset rest later long there h = omega (arith, long_if true n refl long)
head_step false more n offset rest later long there h = omega (arith, h there)

pub head_offset_fits : (ts : List Table) (offset : ℕ) → IsTrue (list_any is_head ts)
    → IsTrue (list_all fits_head ts) → head_offset ts offset + 54 ≤ offset + room_of_all ts
head_offset_fits [] offset there long = cc
head_offset_fits (t ∷ ts) offset there long =
    head_step (is_head t) (list_any is_head ts) (length t.bytes) offset (room_of_all ts)
    (head_offset ts (offset + room_of t))
    (and_first (fits_head t) (list_all fits_head ts) long) there
    (λ more. head_offset_fits ts (offset + room_of t) more
    (and_second (fits_head t) (list_all fits_head ts) long))

-- ---- the table 'head'

pub checksum-head : (t : Table) (bytes : List ℕ) (front back : ℕ) → bytes ≡ t.bytes
    → is_head t ≡ true → IsTrue (fits_head t) → front ≡ checksum (take 8 bytes)
    → back ≡ checksum (take (length bytes - 12) (drop 12 bytes))
    → (front + back) % 2 ^ 32 ≡ checksum (unadjusted t)
checksum-head t bytes front back same is_it long front_is back_is =
    let fifty_four : length bytes ≡ 54 = rw same (head_has_54 t is_it long) in
    let all : take (length bytes - 12) (drop 12 bytes)
    ≡ drop 12 bytes = take_all (length bytes - 12) (drop 12 bytes)
    (omega (arith, length-drop 12 bytes)) in
    rw (front_is, back_is, all, is_it, ← same) (checksum-cleared bytes (omega arith))
