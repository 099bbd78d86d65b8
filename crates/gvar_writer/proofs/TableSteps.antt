-- The parts of the table "gvar", and how long it is.
use Rattle.std.proofs.Common.{◌≡◌, ℕ, ◌+◌, ◌*◌, ◌<◌, ◌≤◌, min, List, [], ◌∷◌, ◌++◌}
use Rattle.std.proofs.Common.{length, map, get_or, drop, replicate, refl, ap, sym, ◌∙◌, arith}
use Rattle.std.proofs.Common.{append_assoc, Bool, true, false}
use Rattle.std.specs.Prelude.{nat_lt}
use Rattle.std.specs.List.{concat, flat_map}
use Rattle.std.proofs.lemmas.Bool.Decides.{nat_tests}
use Rattle.std.proofs.lemmas.List.{at_drop_more, length-append, length-replicate}
use Rattle.font_ir.specs.declared.variation.Region.{Region}
use Rattle.table_bytes.specs.DataTypes.{uint32, padding, padded}
use Rattle.gvar_writer.specs.TupleHeaders.{Side, peak_tuple}
use Rattle.gvar_writer.specs.Gvar.{offsets_from, offsets_bytes, shared_peaks, shared_tuples}
use Rattle.gvar_writer.specs.Gvar.{gvar_head, gvar_table, table_length}

-- ---- lengths

length_peak : (sides : List Side) → length (peak_tuple sides) ≡ 2 * length sides
length_peak [] = refl
length_peak (side ∷ sides) = omega (arith, length_peak sides)

-- the peaks from the i-th region on
pub peaks_step : (shared : List Region) (i : ℕ) (region : Region) → i < length shared
    → region ≡ get_or shared i region
    → length (shared_peaks (drop i shared))
    ≡ 2 * length region.sides + length (shared_peaks (drop (i + 1) shared))
peaks_step shared i region within is =
    at_drop_more (λ rs. length (shared_peaks rs)) shared i region within
    ∙ length-append (peak_tuple ((get_or shared i region).sides))
    (shared_peaks (drop (i + 1) shared))
    ∙ ap (λ r. length (peak_tuple r.sides) + length (shared_peaks (drop (i + 1) shared))) (sym is)
    ∙ ap (λ n. n + length (shared_peaks (drop (i + 1) shared))) (length_peak region.sides)

pub parts_step : {P : Type 0} (bytes_of : P → List ℕ) (parts : List P) (i : ℕ) (item : P)
    → i < length parts → item ≡ get_or parts i item
    → length (concat (map bytes_of (drop i parts)))
    ≡ length (bytes_of item) + length (concat (map bytes_of (drop (i + 1) parts)))
parts_step bytes_of parts i item within is =
    at_drop_more (λ ps. length (concat (map bytes_of ps))) parts i item within
    ∙ length-append (bytes_of (get_or parts i item)) (concat (map bytes_of (drop (i + 1) parts)))
    ∙ ap (λ p. length (bytes_of p) + length (concat (map bytes_of (drop (i + 1) parts)))) (sym is)

length_padded : (bytes : List ℕ) → length (padded bytes) ≡ length bytes + padding (length bytes)
length_padded bytes = length-append bytes (replicate (padding (length bytes)) 0)
    ∙ ap (λ n. length bytes + n) (length-replicate (padding (length bytes)) 0)

-- numbers that are cut to 64 bits
pub cut_sum : (head peaks parts m p q : ℕ) → head ≤ 262164
    → m ≡ min peaks 18446744073709551615 → q ≡ min parts 18446744073709551615
    → p ≡ padding m
    → min (min (min (head + m) 18446744073709551615 + p) 18446744073709551615 + q)
    18446744073709551615
    ≡ min (head + (peaks + padding peaks) + parts) 18446744073709551615
cut_sum head peaks parts m p q few is_m is_q is_p = by (nat_lt peaks 18446744073709551615) refl
  where
    by : (b : Bool) → nat_lt peaks 18446744073709551615 ≡ b
        → min (min (min (head + m) 18446744073709551615 + p) 18446744073709551615 + q)
        18446744073709551615
        ≡ min (head + (peaks + padding peaks) + parts) 18446744073709551615
    by true e =
        let below : peaks < 18446744073709551615 = grind (arith, nat_tests) in
        let same : m ≡ peaks = omega arith in
        let pad : p ≡ padding peaks = is_p ∙ ap padding same in
        omega arith
    by false e =
        let above : 18446744073709551615 ≤ peaks = grind (arith, nat_tests) in
        omega arith

length_offsets : (offset : ℕ) (parts : List (List ℕ))
    → length (flat_map uint32 (offsets_from offset parts)) ≡ 4 * (length parts + 1)
length_offsets offset [] = refl
length_offsets offset (part ∷ parts) = omega (
  arith,
  length_offsets (offset + length part) parts,
  length-append (uint32 offset) (flat_map uint32 (offsets_from (offset + length part) parts)),
)

length_head : (axes shared glyphs n : ℕ) → length (gvar_head axes shared glyphs n) ≡ 20
unfolding gvar_head
length_head axes shared glyphs n = refl

pub length_table : (shared : List Region) (axes : ℕ) (parts : List (List ℕ))
    → length (gvar_table shared axes parts) ≡ table_length shared parts
unfolding gvar_table
length_table shared axes parts =
    let head : List ℕ = gvar_head axes (length shared) (length parts)
    (length (shared_tuples shared)) in
    omega (
      arith,
      length_head axes (length shared) (length parts) (length (shared_tuples shared)),
      length_offsets 0 parts,
      length-append head (offsets_bytes parts),
      length-append (head ++ offsets_bytes parts) (shared_tuples shared),
      length-append (head ++ offsets_bytes parts ++ shared_tuples shared) (concat parts),
    )

-- ---- offsets

-- a part's offset, before those of the parts after it
pub offset_step : {P : Type 0} (bytes_of : P → List ℕ) (parts : List P) (i : ℕ) (item : P)
    (old new all : List ℕ) (offset n : ℕ) → i < length parts → item ≡ get_or parts i item
    → n ≡ length (bytes_of item) → new ≡ old ++ uint32 offset
    → old ++ flat_map uint32 (offsets_from offset (map bytes_of (drop i parts))) ≡ all
    → new ++ flat_map uint32 (offsets_from (offset + n) (map bytes_of (drop (i + 1) parts))) ≡ all
offset_step {P} bytes_of parts i item old new all offset n within is sized e told =
    let rest : ℕ → List ℕ = λ m. flat_map uint32
    (offsets_from (offset + m) (map bytes_of (drop (i + 1) parts))) in
    ap (λ written. written ++ rest n) e
    ∙ append_assoc old (uint32 offset) (rest n)
    ∙ ap (λ m. old ++ (uint32 offset ++ rest m)) (sized ∙ ap (λ p. length (bytes_of p)) is)
    ∙ ap (λ more. old ++ more)
    (sym (at_drop_more (λ ps. flat_map uint32 (offsets_from offset (map bytes_of ps))) parts i item
    within))
    ∙ told
