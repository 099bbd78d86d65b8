-- The scalars that a model keeps, and that deltas formed by them are those that are defined.
use Rattle.std.proofs.Common.{◌≡◌, ℕ, zero, suc, ◌+◌, ◌*◌, ◌<◌, ◌≤◌, List, [], ◌∷◌, ◌++◌, refl, sym}
use Rattle.std.proofs.Common.{ap, ◌∙◌, arith, length, get_or, map, take, drop, append_assoc}
use Rattle.std.proofs.Common.{append-nil, mul-le-mul, ℤ, pos, negsuc, ◌+ℤ◌, ◌-ℤ◌, ◌*ℤ◌, FitsSigned}
use Rattle.std.proofs.lemmas.Int.{ints, unsigned_abs-mul, fits_signed_from_abs}
use Rattle.std.proofs.lemmas.List.{get_or_default, length-append, take_more, map-append, drop_all}
use Rattle.std.specs.Prelude.{unsigned_abs}
use Rattle.std.specs.Int.{w16, w32, w64}
use Rattle.fixed_math.specs.declared.F2Dot14.{F2Dot14}
use Rattle.fixed_math.specs.declared.Fixed.{Fixed}
use Rattle.fixed_math.specs.FixedPoint.{half_up}
use Rattle.font_ir.specs.declared.variation.Region.{Region}
use Rattle.variation_model.specs.Places.{place_at}
use Rattle.variation_model.specs.Scalar.{scalar_of}
use Rattle.variation_model.specs.Deltas.{deltas_after, value_of}
use Rattle.variation_model.specs.Parts.{AreSmall, deltas_by, row_at, rows_from, scalar_at}
use Rattle.variation_model.specs.Parts.{scalars_at, weighted}
use Rattle.variation_model.proofs.ScalarLemmas.{scalar_of-IsScalar}
use Rattle.variation_model.proofs.Steps.{step_both, step_one}
use Rattle.variation_model.proofs.ValueLemmas.{abs_scalar, abs_small, abs_sum, shifted}
use Rattle.variation_model.proofs.ValueLemmas.{shifted_none}

pub length-rows_from : (regions : List Region) (n : ℕ) (places : List (List F2Dot14))
    → length (rows_from regions n places) ≡ length places
length-rows_from regions n [] = refl
length-rows_from regions n (place ∷ places) = omega (arith, length-rows_from regions (n + 1) places)

pub row_at-rows_from : (regions : List Region) (n : ℕ) (places : List (List F2Dot14)) (k : ℕ)
    → k < length places → row_at (rows_from regions n places) k
    ≡ scalars_at (take (n + k) regions) (place_at places k)
row_at-rows_from regions n [] k h = absurd (omega arith)
row_at-rows_from regions n (place ∷ places) zero h =
    let start : n ≡ n + 0 = omega arith in ap (λ i. scalars_at (take i regions) place) start
row_at-rows_from regions n (place ∷ places) (suc k) h =
    let next : n + 1 + k ≡ n + suc k = omega arith in
    row_at-rows_from regions (n + 1) places k (omega arith)
    ∙ ap (λ i. scalars_at (take i regions) (place_at places k)) next

pub scalars_at-small : (regions : List Region) (place : List F2Dot14)
    → AreSmall (scalars_at regions place)
scalars_at-small [] place k d h = absurd (omega arith)
scalars_at-small (region ∷ regions) place zero d h
    = abs_scalar (scalar_of region.sides place) (scalar_of-IsScalar region.sides place)
scalars_at-small (region ∷ regions) place (suc k) d h
    = scalars_at-small regions place k d (omega arith)

-- deltas formed by the scalars of so many regions as there are deltas
weighted-value : (regions : List Region) (deltas : List ℤ) (place : List F2Dot14)
    → weighted (scalars_at (take (length deltas) regions) place) deltas
    ≡ value_of regions deltas place
weighted-value [] [] place = refl
weighted-value [] (delta ∷ deltas) place = refl
weighted-value (region ∷ regions) [] place = refl
weighted-value (region ∷ regions) (delta ∷ deltas) place =
    ap (λ z. (scalar_of region.sides place *ℤ delta) +ℤ z) (weighted-value regions deltas place)

pub deltas_by-rows : (regions : List Region) (n : ℕ) (places : List (List F2Dot14))
    (earlier values : List ℤ) → length earlier ≡ n
    → deltas_by (rows_from regions n places) earlier values
    ≡ deltas_after regions earlier places values
deltas_by-rows regions n [] earlier values e = refl
deltas_by-rows regions n (place ∷ places) earlier [] e = refl
deltas_by-rows regions n (place ∷ places) earlier (value ∷ values) e =
    let given : weighted (scalars_at (take n regions) place) earlier
    ≡ value_of regions earlier place =
    ap (λ i. weighted (scalars_at (take i regions) place) earlier) (sym e)
    ∙ weighted-value regions earlier place in
    let delta = half_up (value -ℤ value_of regions earlier place) in
    let longer : length (earlier ++ delta ∷ [])
    ≡ n + 1 = omega (arith, length-append earlier (delta ∷ [])) in
    ap (λ z. half_up (value -ℤ z) ∷ deltas_by (rows_from regions (n + 1) places)
    (earlier ++ half_up (value -ℤ z) ∷ []) values) given
    ∙ ap (λ (ds : List ℤ). delta ∷ ds) (deltas_by-rows regions (n + 1) places
    (earlier ++ delta ∷ []) values longer)

-- the loop that makes a row
abbrev pub row_so_far : List Region → List F2Dot14 → ℕ → List Fixed
row_so_far regions place i = scalars_at (take i regions) place

pub scalars_more : (regions : List Region) (place : List F2Dot14) (i : ℕ) (region : Region)
    (x : Fixed) (done next : List Fixed) → i < length regions → region ≡ get_or regions i region
    → x.0 ≡ scalar_of region.sides place → done ≡ row_so_far regions place i → next ≡ done ++ x ∷ []
    → next ≡ row_so_far regions place (i + 1)
scalars_more regions place i region x done next h at made f g =
    let number : ℤ → Fixed = λ z. record { 0 = z } in
    let own : x ≡ scalar_at place (get_or regions i region) = ap number made
    ∙ ap (scalar_at place) at in
    g ∙ ap (λ (l : List Fixed). l ++ x ∷ []) f
    ∙ ap (λ (y : Fixed). scalars_at (take i regions) place ++ y ∷ []) own
    ∙ sym (map-append (scalar_at place) (take i regions) (get_or regions i region ∷ []))
    ∙ ap (λ (l : List Region). scalars_at l place) (sym (take_more regions i region h))

-- and the loop that makes all rows
abbrev pub rows_to_come : List Region → List (List F2Dot14) → List ℕ → ℕ → List (List Fixed)
rows_to_come regions places order k = rows_from regions k (map (place_at places) (drop k order))

pub rows_more : (regions : List Region) (places : List (List F2Dot14)) (order : List ℕ) (k : ℕ)
    (item slice : List F2Dot14) (earlier : List Region) (row : List Fixed)
    (done next total : List (List Fixed)) → k < length order → get_or order k 0 < length places
    → item ≡ get_or places (get_or order k 0) item → slice ≡ item → earlier ≡ take k regions
    → row ≡ scalars_at earlier slice → done ++ rows_to_come regions places order k ≡ total
    → next ≡ done ++ row ∷ [] → next ++ rows_to_come regions places order (k + 1) ≡ total
rows_more regions places order k item slice earlier row done next total h l at at_slice from made f
    g =
    let p = place_at places (get_or order k 0) in
    let rest = rows_from regions (k + 1) (map (place_at places) (drop (k + 1) order)) in
    let is_place : slice ≡ p = at_slice ∙ at ∙ get_or_default places (get_or order k 0) item [] l in
    let own : row ≡ scalars_at (take k regions) p =
    made ∙ ap (λ (e : List Region). scalars_at e slice) from
    ∙ ap (λ (v : List F2Dot14). scalars_at (take k regions) v) is_place in
    let opened : done ++ (scalars_at (take k regions) p ∷ rest) ≡ total =
    sym (ap (λ (l : List (List Fixed)). done ++ l)
    (step_one (λ (o : List ℕ). rows_from regions k (map (place_at places) o)) order k 0 h)) ∙ f
    in
    ap (λ (l : List (List Fixed)). l ++ rest) g ∙ append_assoc done (row ∷ []) rest
    ∙ ap (λ (r : List Fixed). done ++ (r ∷ rest)) own ∙ opened

pub rows_all : (regions : List Region) (places : List (List F2Dot14)) (order : List ℕ) (k : ℕ)
    (done total : List (List Fixed)) → length order ≤ k
    → done ++ rows_to_come regions places order k ≡ total → done ≡ total
rows_all regions places order k done total h f =
    let none : rows_from regions k (map (place_at places) (drop k order)) ≡ [] =
    ap (λ (o : List ℕ). rows_from regions k (map (place_at places) o)) (drop_all k order h) in
    sym (append-nil done) ∙ ap (λ (l : List (List Fixed)). done ++ l) (sym none) ∙ f

-- the loop that sums
pub record WeighsTo (row : List Fixed) (deltas : List ℤ) (i : ℕ) (sum : ℤ) : Type 0 where
  pub total : (sum +ℤ weighted (drop i row) (drop i deltas)) ≡ weighted row deltas
  pub within : unsigned_abs sum ≤ 2147483648 * i

pub WeighsTo-none : (row : List Fixed) (deltas : List ℤ) → WeighsTo row deltas 0 (pos 0)
WeighsTo-none row deltas = record { total = omega (arith, ints); within = omega arith }

pub times_within : (s d : ℤ) → unsigned_abs s ≤ 65536 → FitsSigned w16 d
    → unsigned_abs (s *ℤ d) ≤ 2147483648
times_within s d h f = rw (unsigned_abs-mul s d) (mul-le-mul h (abs_small d f))

abs_word : (z : ℤ) → FitsSigned w32 z → unsigned_abs z ≤ 2147483648
abs_word (pos n) f = omega (arith, ints)
abs_word (negsuc n) f = omega (arith, ints)

pub times_fits : (s d : ℤ) → FitsSigned w32 s → FitsSigned w16 d → FitsSigned w64 (s *ℤ d)
times_fits s d f g =
    let product : unsigned_abs (s *ℤ d) ≤ 2147483648 * 32768
    = rw (unsigned_abs-mul s d) (mul-le-mul (abs_word s f) (abs_small d g)) in
    fits_signed_from_abs w64 (s *ℤ d) (omega (arith, product))

-- what is looked up past the end of a row
abbrev pub no_scalar : Fixed
no_scalar = record { 0 = pos 0 }

pub WeighsTo-more : (row : List Fixed) (deltas : List ℤ) (i : ℕ) (sum term : ℤ) → i < length row
    → i < length deltas → WeighsTo row deltas i sum → unsigned_abs term ≤ 2147483648
    → term ≡ (get_or row i no_scalar).0 *ℤ get_or deltas i (pos 0)
    → WeighsTo row deltas (i + 1) (sum +ℤ term)
WeighsTo-more row deltas i sum term h k f small own =
    let d = get_or deltas i (pos 0) in
    let rest = weighted (drop (i + 1) row) (drop (i + 1) deltas) in
    let opened : (sum +ℤ (((get_or row i no_scalar).0 *ℤ d) +ℤ rest)) ≡ weighted row deltas =
    sym (ap (λ z. sum +ℤ z) (step_both weighted row deltas i no_scalar (pos 0) h k)) ∙ f.total in
    let both = abs_sum sum term (2147483648 * i) 2147483648 f.within small in
    record {
      total = shifted sum term (sum +ℤ term) rest (weighted row deltas) refl (rw own opened);
      within = omega (arith, both);
    }

weighted-none : (row : List Fixed) → weighted row [] ≡ pos 0
weighted-none [] = refl
weighted-none (scalar ∷ scalars) = refl

pub WeighsTo-all : (row : List Fixed) (deltas : List ℤ) (i : ℕ) (sum : ℤ) → length deltas ≤ i
    → WeighsTo row deltas i sum → sum ≡ weighted row deltas
WeighsTo-all row deltas i sum h f =
    let none : weighted (drop i row) (drop i deltas) ≡ pos 0 =
    ap (λ (ds : List ℤ). weighted (drop i row) ds) (drop_all i deltas h)
    ∙ weighted-none (drop i row) in
    let total = f.total in
    shifted_none sum (weighted (drop i row) (drop i deltas)) (weighted row deltas) none total
