-- The fields of subtables: a count's binary logarithm, arrays of a segment's fields, and how long
-- they are.
use Rattle.std.proofs.Common.{◌≡◌, ℕ, zero, suc, ◌+◌, ◌*◌, ◌^◌, ◌<◌, ◌≤◌, List, [], ◌∷◌, ◌++◌}
use Rattle.std.proofs.Common.{length, map, refl, ap, sym, ◌∙◌, arith, length-append, ⊎_elim, lit<}
use Rattle.std.proofs.Common.{nat_lt, Bool, true, false, Some, None}
use Rattle.std.specs.Prelude.{if◌then◌else◌}
use Rattle.std.proofs.Math.Nat.{pow-le-pow_right, pow-suc}
use Rattle.std.proofs.lemmas.Bool.{cases_lt}
use Rattle.std.proofs.lemmas.Bool.Decides.{nat_tests}
use Rattle.std.specs.List.{flat_map}
use Rattle.refusal_codes.specs.declared.limits.TheConstants.{CHARACTER_MAP_BYTES}
use Rattle.table_bytes.specs.DataTypes.{uint16}
use Rattle.cmap_writer.specs.declared.runs.Run.{Run}
use Rattle.cmap_writer.specs.declared.segments.Segment.{Segment}
use Rattle.cmap_writer.specs.Subtables.{segments_of, greatest_power, format_4, format_4_head}
use Rattle.cmap_writer.specs.Subtables.{search_fields, later_arrays, format_4_length, format_12}
use Rattle.cmap_writer.specs.Runs.{Codes}
use Rattle.cmap_writer.specs.Cmap.{two_records, table_of, short_encoding, whole_encoding, segments}
use Rattle.cmap_writer.specs.Cmap.{too_large}

power_fits : (bound n : ℕ) → 2 ^ suc bound ≤ n → greatest_power (suc bound) n ≡ suc bound
power_fits bound n h = grind (arith, nat_tests)

power_is_less : (bound n : ℕ) → n < 2 ^ suc bound
    → greatest_power (suc bound) n ≡ greatest_power bound n
power_is_less bound n h = grind (arith, nat_tests)

doubles : (r k : ℕ) → r ≤ k → 2 * 2 ^ r ≤ 2 ^ suc k
doubles r k h = omega (arith, pow-suc 2 k, pow-le-pow_right {n = 2} (lit< tt) {i = r} {j = k} h)

pub greatest_power-is : (bound n r : ℕ) → 2 ^ r ≤ n → n < 2 * 2 ^ r → r ≤ bound
    → greatest_power bound n ≡ r
greatest_power-is zero n r low high small = omega arith
greatest_power-is (suc k) n r low high small =
    ⊎_elim
    (λ (less : r < suc k). power_is_less k n (omega (arith, doubles r k (omega arith)))
    ∙ greatest_power-is k n r low high (omega arith))
    (λ (most : suc k ≤ r).
    let same : suc k ≡ r = omega arith in
    power_fits k n (rw same low) ∙ same)
    (cases_lt r (suc k))

pub selector-fits : (n r : ℕ) → 2 ^ r ≤ n → n ≤ 8189 → r ≤ 15
selector-fits n r low few =
    ⊎_elim
    (λ (less : r < 16). omega arith)
    (λ (most : 16 ≤ r). let large : 2 ^ 16 ≤ 2 ^ r = pow-le-pow_right (lit< tt) most
    in absurd (omega arith))
    (cases_lt r 16)

pub length-segments : (runs : List Run) → length (segments_of runs) ≡ length runs + 1
length-segments [] = refl
length-segments (run ∷ runs) = let rest = length-segments runs in omega arith

append_none : (xs : List ℕ) → xs ++ [] ≡ xs
append_none [] = refl
append_none (x ∷ xs) = ap (λ ys. x ∷ ys) (append_none xs)

field_length : (f : Segment → ℕ) (segments : List Segment)
    → length (flat_map uint16 (map f segments)) ≡ 2 * length segments
field_length f [] = refl
field_length f (segment ∷ segments) =
    let rest = field_length f segments in
    length-append (uint16 (f segment)) (flat_map uint16 (map f segments)) ∙ omega arith

length-head : (count : ℕ) → length (format_4_head count) ≡ 14
unfolding format_4_head search_fields
length-head count = refl

length-later : (segments : List Segment) → length (later_arrays segments) ≡ 6 * length segments
unfolding later_arrays
length-later segments =
    let starts = flat_map uint16 (map (λ s. s.start_code) segments) in
    let deltas = flat_map uint16 (map (λ s. s.id_delta) segments) in
    let offsets = flat_map uint16 (map (λ s. s.id_range_offset) segments) in
    omega (
      arith,
      length-append (starts ++ deltas) offsets,
      length-append starts deltas,
      field_length (λ s. s.start_code) segments,
      field_length (λ s. s.id_delta) segments,
      field_length (λ s. s.id_range_offset) segments,
    )

-- the subtable has the length that it says
pub length-format_4 : (segments : List Segment)
    → length (format_4 segments) ≡ format_4_length (length segments)
unfolding format_4
length-format_4 segments =
    let head = format_4_head (length segments) in
    let ends = flat_map uint16 (map (λ s. s.end_code) segments) in
    omega (
      arith,
      length-append (head ++ ends ++ uint16 0) (later_arrays segments),
      length-append (head ++ ends) (uint16 0),
      length-append head ends,
      length-head (length segments),
      field_length (λ s. s.end_code) segments,
      length-later segments,
    )

-- ---- the whole table

pub whole_table_is : (segments : List Segment) (groups : List Run) (len : ℕ)
    → len ≡ length (format_4 segments)
    → two_records len ++ format_4 segments ++ format_12 groups
    ≡ table_of (short_encoding segments ∷ whole_encoding groups ∷ [])
unfolding table_of
whole_table_is segments groups len e =
    ap (λ n. two_records n ++ format_4 segments ++ format_12 groups) e
    ∙ ap (λ bytes. two_records (length (format_4 segments)) ++ (format_4 segments ++ bytes))
    (sym (append_none (format_12 groups)))

pub is_too_large : (codes : Codes) (n : ℕ) → n ≡ format_4_length (length (segments codes))
    → CHARACTER_MAP_BYTES < n → too_large codes ≡ Some n
is_too_large codes n is over =
    let same : length (format_4 (segments codes)) ≡ n = length-format_4 (segments codes) ∙ sym is in
    let long : nat_lt CHARACTER_MAP_BYTES n ≡ true = grind (arith, nat_tests) in
    ap (λ m. if nat_lt CHARACTER_MAP_BYTES m then Some m else None) same
    ∙ ap (λ (b : Bool). if b then Some n else None) long

pub is_not_too_large : (codes : Codes) (n : ℕ) → n ≡ format_4_length (length (segments codes))
    → n ≤ CHARACTER_MAP_BYTES → too_large codes ≡ None
is_not_too_large codes n is within =
    let same : length (format_4 (segments codes)) ≡ n = length-format_4 (segments codes) ∙ sym is in
    let short : nat_lt CHARACTER_MAP_BYTES n ≡ false = grind (arith, nat_tests) in
    ap (λ m. if nat_lt CHARACTER_MAP_BYTES m then Some m else None) same
    ∙ ap (λ (b : Bool). if b then Some n else None) short
