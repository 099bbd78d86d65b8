-- One step of the loops that write a list from its front.
use Rattle.std.proofs.Common.{◌≡◌, ℕ, ◌+◌, ◌-◌, ◌<◌, ◌≤◌, ℤ, ◌-ℤ◌, ◌*◌, min, Some, None, nat_lt}
use Rattle.std.proofs.Common.{false, cond, List, [], ◌∷◌, ◌++◌, length, map, get_or, drop, refl, ap}
use Rattle.std.proofs.Common.{sym, ◌∙◌, arith, append_assoc, length-append}
use Rattle.std.specs.List.{flat_map, concat, sum_by}
use Rattle.std.specs.Int.{w16, cast_signed, cast_unsigned}
use Rattle.std.proofs.lemmas.List.{at_drop_more, length-map}
use Rattle.std.proofs.lemmas.Bool.Decides.{nat_tests}
use Rattle.std.proofs.lemmas.Int.{ints}
use Rattle.std.proofs.lemmas.List.Sums.{sum_by-cons}
use Rattle.refusal_codes.specs.declared.limits.TheConstants.{TABLE_BYTES}
use Rattle.font_ir.specs.FlatGlyphs.{IsSmall}
use Rattle.font_ir.specs.declared.outline.StoredPoint.{StoredPoint}
use Rattle.glyf_writer.specs.declared.outline.Step.{Step}
use Rattle.glyf_writer.specs.Outlines.{end_points, steps_from}
use Rattle.table_bytes.specs.DataTypes.{uint16, uint32}
use Rattle.table_bytes.specs.Tables.{over_limit}
use Rattle.table_bytes.specs.LimitLaws.{is_over, is_within}
use Rattle.glyf_writer.specs.Tables.{offsets, loca_bytes, too_large}

pub shift_zero : (ns : List ℕ) → map (λ n. 0 + n) ns ≡ ns
shift_zero [] = refl
shift_zero (n ∷ ns) = let e : 0 + n ≡ n = omega arith
    in ap (λ m. m ∷ map (λ n. 0 + n) ns) e ∙ ap (λ ms. n ∷ ms) (shift_zero ns)

shift_shift : (a b : ℕ) (ns : List ℕ) → map (λ n. a + n) (map (λ n. b + n) ns)
    ≡ map (λ n. (a + b) + n) ns
shift_shift a b [] = refl
shift_shift a b (n ∷ ns) = let e : a + (b + n) ≡ (a + b) + n = omega arith
    in ap (λ m. m ∷ map (λ n. a + n) (map (λ n. b + n) ns)) e
    ∙ ap (λ ms. ((a + b) + n) ∷ ms) (shift_shift a b ns)

-- the number of a contour's last point, before those of the contours after it
pub end_step : {C : Type 0} (size : C → ℕ) (contours : List C) (i : ℕ) (item : C)
    (old new all : List ℕ) (count n : ℕ) → i < length contours → item ≡ get_or contours i item
    → n ≡ size item → 0 < n → new ≡ old ++ uint16 (count + n - 1)
    → old ++ flat_map uint16 (map (λ end. count + end) (end_points (map size (drop i contours))))
    ≡ all → new ++ flat_map uint16 (map (λ end. (count + n) + end)
    (end_points (map size (drop (i + 1) contours)))) ≡ all
end_step {C} size contours i item old new all count n lt is sized some e told =
    let rest : List ℕ = map size (drop (i + 1) contours) in
    let F : List C → List ℕ = λ cs. flat_map uint16
    (map (λ end. count + end) (end_points (map size cs))) in
    let last : count + n - 1 ≡ count + (n - 1) = omega arith in
    let first : size (get_or contours i item) ≡ n = ap size (sym is) ∙ sym sized in
    ap (λ written. written ++ flat_map uint16 (map (λ end. (count + n) + end) (end_points rest)))
    (e ∙ ap (λ m. old ++ uint16 m) last)
    ∙ append_assoc old (uint16 (count + (n - 1)))
    (flat_map uint16 (map (λ end. (count + n) + end) (end_points rest)))
    ∙ ap (λ ms. old ++ (uint16 (count + (n - 1)) ++ flat_map uint16 ms))
    (sym (shift_shift count n (end_points rest)))
    ∙ ap (λ m. old ++ flat_map uint16 (map (λ end. count + end) (end_points (m ∷ rest))))
    (sym first)
    ∙ ap (λ more. old ++ more) (sym (at_drop_more F contours i item lt))
    ∙ told

-- a part's place, before those of the parts after it
pub offset_step : {P : Type 0} (bytes_of : P → List ℕ) (parts : List P) (i : ℕ) (item : P)
    (old new all : List ℕ) (offset n : ℕ) → i < length parts → item ≡ get_or parts i item
    → n ≡ length (bytes_of item) → new ≡ old ++ uint32 offset
    → old ++ flat_map uint32 (map (λ o. offset + o) (offsets (map bytes_of (drop i parts)))) ≡ all
    → new ++ flat_map uint32 (map (λ o. (offset + n) + o)
    (offsets (map bytes_of (drop (i + 1) parts)))) ≡ all
offset_step {P} bytes_of parts i item old new all offset n lt is sized e told =
    let rest : List ℕ = offsets (map bytes_of (drop (i + 1) parts)) in
    let F : List P → List ℕ = λ ps. flat_map uint32
    (map (λ o. offset + o) (offsets (map bytes_of ps))) in
    let here : offset ≡ offset + 0 = omega arith in
    let first : length (bytes_of (get_or parts i item)) ≡ n = ap (λ p. length (bytes_of p)) (sym is)
    ∙ sym sized in
    ap (λ written. written ++ flat_map uint32 (map (λ o. (offset + n) + o) rest))
    (e ∙ ap (λ m. old ++ uint32 m) here)
    ∙ append_assoc old (uint32 (offset + 0)) (flat_map uint32 (map (λ o. (offset + n) + o) rest))
    ∙ ap (λ ms. old ++ (uint32 (offset + 0) ++ flat_map uint32 ms))
    (sym (shift_shift offset n rest))
    ∙ ap (λ m. old ++ (uint32 (offset + 0)
    ++ flat_map uint32 (map (λ o. offset + o) (map (λ o. m + o) rest)))) (sym first)
    ∙ ap (λ more. old ++ more) (sym (at_drop_more F parts i item lt))
    ∙ told

pub count_step : {C : Type 0} (size : C → ℕ) (contours : List C) (i : ℕ) (item : C)
    → i < length contours → item ≡ get_or contours i item
    → sum_by size (drop i contours) ≡ size item + sum_by size (drop (i + 1) contours)
count_step size contours i item lt is =
    at_drop_more (sum_by size) contours i item lt
    ∙ sum_by-cons size (get_or contours i item) (drop (i + 1) contours)
    ∙ ap (λ c. size c + sum_by size (drop (i + 1) contours)) (sym is)

pub total_step : {P : Type 0} (bytes_of : P → List ℕ) (parts : List P) (i : ℕ) (item : P)
    → i < length parts → item ≡ get_or parts i item
    → length (concat (map bytes_of (drop i parts)))
    ≡ length (bytes_of item) + length (concat (map bytes_of (drop (i + 1) parts)))
total_step bytes_of parts i item lt is =
    at_drop_more (λ ps. length (concat (map bytes_of ps))) parts i item lt
    ∙ length-append (bytes_of (get_or parts i item)) (concat (map bytes_of (drop (i + 1) parts)))
    ∙ ap (λ p. length (bytes_of p) + length (concat (map bytes_of (drop (i + 1) parts)))) (sym is)

-- how a point lies to the one before it, before the steps of the points after it
pub step_step : (points : List StoredPoint) (i : ℕ) (d : StoredPoint) (old new all : List Step)
    (x y : ℤ) → i < length points → new ≡ old
    ++ (record {
      dx = (get_or points i d).x -ℤ x;
      dy = (get_or points i d).y -ℤ y;
      on
          = (get_or points i d).on;
    }) ∷ [] → old ++ steps_from x y (drop i points) ≡ all
    → new ++ steps_from (get_or points i d).x (get_or points i d).y (drop (i + 1) points) ≡ all
step_step points i d old new all x y lt e told =
    let point : StoredPoint = get_or points i d in
    ap (λ written. written ++ steps_from point.x point.y (drop (i + 1) points)) e
    ∙ append_assoc old (record { dx = point.x -ℤ x; dy = point.y -ℤ y; on = point.on } ∷ [])
    (steps_from point.x point.y (drop (i + 1) points))
    ∙ ap (λ more. old ++ more) (sym (at_drop_more (steps_from x y) points i d lt))
    ∙ told

length_flat4 : (ns : List ℕ) → length (flat_map uint32 ns) ≡ 4 * length ns
length_flat4 [] = refl
length_flat4 (n ∷ ns) = omega (
  arith,
  length_flat4 ns,
  length-append (uint32 n)
      (flat_map uint32 ns),
)

length_offsets : (parts : List (List ℕ)) → length (offsets parts) ≡ length parts + 1
length_offsets [] = refl
length_offsets (part ∷ parts) = omega (
  arith,
  length_offsets parts,
  length-map (offsets parts)
      (λ offset. length part + offset),
)

-- "loca" has an offset more than there are parts
pub length_loca : (parts : List (List ℕ)) → length (loca_bytes parts) ≡ 4 * (length parts + 1)
length_loca parts = omega (arith, length_flat4 (offsets parts), length_offsets parts)

pub loca_over : (parts : List (List ℕ)) (n m : ℕ)
    → n ≡ min (length (concat parts)) 18446744073709551615 → n ≤ TABLE_BYTES
    → m ≡ min (4 * (length parts + 1)) 18446744073709551615 → TABLE_BYTES < m
    → too_large parts ≡ Some m
loca_over parts n m e few f many =
    let short : nat_lt TABLE_BYTES (length (concat parts)) ≡ false = grind (arith, nat_tests) in
    ap (λ b. cond b (over_limit (length (concat parts))) (over_limit (length (loca_bytes parts))))
    short
    ∙ is_over (length (loca_bytes parts)) m
    (f ∙ ap (λ k. min k 18446744073709551615) (sym (length_loca parts))) many

pub none_over : (parts : List (List ℕ)) (n m : ℕ)
    → n ≡ min (length (concat parts)) 18446744073709551615 → n ≤ TABLE_BYTES
    → m ≡ min (4 * (length parts + 1)) 18446744073709551615 → m ≤ TABLE_BYTES
    → too_large parts ≡ None
none_over parts n m e few f less =
    let short : nat_lt TABLE_BYTES (length (concat parts)) ≡ false = grind (arith, nat_tests) in
    ap (λ b. cond b (over_limit (length (concat parts))) (over_limit (length (loca_bytes parts))))
    short
    ∙ is_within (length (loca_bytes parts)) m
    (f ∙ ap (λ k. min k 18446744073709551615) (sym (length_loca parts))) less

-- an int16 holds a small number, and the difference of two
pub kept : (z : ℤ) → IsSmall z → cast_signed w16 (cast_unsigned w16 z) ≡ z
kept z small = omega (arith, ints)

pub kept_difference : (z x : ℤ) → IsSmall z → IsSmall x
    → cast_signed w16 (cast_unsigned w16 (cast_signed w16 (cast_unsigned w16 z) -ℤ x)) ≡ z -ℤ x
kept_difference z x a b = omega (arith, ints)
