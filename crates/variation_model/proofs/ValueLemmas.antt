-- Sums of deltas times scalars: a loop's steps, and how large they get.
use Rattle.std.proofs.Common.{◌≡◌, ℕ, ◌+◌, ◌*◌, ◌<◌, ◌≤◌, ◌^◌, List, [], ◌∷◌, refl, sym, ap, ◌∙◌}
use Rattle.std.proofs.Common.{arith, length, get_or, drop, ℤ, pos, negsuc, ◌+ℤ◌, ◌*ℤ◌, FitsSigned}
use Rattle.std.proofs.Common.{mul-le-mul}
use Rattle.std.proofs.lemmas.Int.{ints, unsigned_abs-mul, fits_signed_from_abs}
use Rattle.std.proofs.lemmas.List.{get_or_default, drop_all}
use Rattle.std.specs.Prelude.{unsigned_abs}
use Rattle.std.specs.Int.{w16, w64}
use Rattle.fixed_math.specs.declared.F2Dot14.{F2Dot14}
use Rattle.font_ir.specs.declared.variation.Region.{Region}
use Rattle.variation_model.specs.Scalar.{scalar_of}
use Rattle.variation_model.specs.Deltas.{value_of, region_at}
use Rattle.variation_model.proofs.Steps.{step_both}
use Rattle.variation_model.proofs.ScalarLemmas.{IsScalar, scalar_of-IsScalar}

pub abs_scalar : (s : ℤ) → IsScalar s → unsigned_abs s ≤ 65536
abs_scalar (pos n) f = let high = f.high in omega (arith, ints)
abs_scalar (negsuc n) f = let low = f.low in absurd (omega (arith, ints))

pub abs_small : (d : ℤ) → FitsSigned w16 d → unsigned_abs d ≤ 32768
abs_small (pos n) f = omega (arith, ints)
abs_small (negsuc n) f = omega (arith, ints)

-- one delta times its scalar
pub term_within : (sides : List (F2Dot14 × F2Dot14 × F2Dot14)) (place : List F2Dot14) (d : ℤ)
    → FitsSigned w16 d → unsigned_abs (scalar_of sides place *ℤ d) ≤ 2147483648
term_within sides place d f =
    rw (unsigned_abs-mul (scalar_of sides place) d)
    (mul-le-mul (abs_scalar (scalar_of sides place) (scalar_of-IsScalar sides place))
    (abs_small d f))

pub abs_sum : (a b : ℤ) (m n : ℕ) → unsigned_abs a ≤ m → unsigned_abs b ≤ n
    → unsigned_abs (a +ℤ b) ≤ m + n
abs_sum (pos a) (pos b) m n h k = omega (arith, ints)
abs_sum (pos a) (negsuc b) m n h k = grind (arith, ints)
abs_sum (negsuc a) (pos b) m n h k = grind (arith, ints)
abs_sum (negsuc a) (negsuc b) m n h k = omega (arith, ints)

-- the sum so far and what the rest gives; and that it is no larger than so many terms
pub record SumsTo (regions : List Region) (deltas : List ℤ) (place : List F2Dot14) (i : ℕ) (sum : ℤ)
    : Type 0 where
  pub total : (sum +ℤ value_of (drop i regions) (drop i deltas) place)
      ≡ value_of regions deltas place
  pub within : unsigned_abs sum ≤ 2147483648 * i

pub SumsTo-none : (regions : List Region) (deltas : List ℤ) (place : List F2Dot14)
    → SumsTo regions deltas place 0 (pos 0)
SumsTo-none regions deltas place = record { total = omega (arith, ints); within = omega arith }

pub shifted : (sum term now rest total : ℤ) → now ≡ sum +ℤ term → (sum +ℤ (term +ℤ rest)) ≡ total
    → (now +ℤ rest) ≡ total
shifted sum term now rest total e f = omega (arith, ints)

pub shifted_none : (sum rest total : ℤ) → rest ≡ pos 0 → (sum +ℤ rest) ≡ total → sum ≡ total
shifted_none sum rest total e f = omega (arith, ints)

pub SumsTo-more : (regions : List Region) (deltas : List ℤ) (place : List F2Dot14) (i : ℕ)
    (region : Region) (sum term : ℤ) → i < length regions → i < length deltas
    → SumsTo regions deltas place i sum → region ≡ get_or regions i region
    → FitsSigned w16 (get_or deltas i (pos 0))
    → term ≡ scalar_of region.sides place *ℤ get_or deltas i (pos 0)
    → SumsTo regions deltas place (i + 1) (sum +ℤ term)
SumsTo-more regions deltas place i region sum term h k f at fits e =
    let d = get_or deltas i (pos 0) in
    let rest = value_of (drop (i + 1) regions) (drop (i + 1) deltas) place in
    let is_region : region ≡ region_at regions i = at
    ∙ get_or_default regions i region (record { sides = [] }) h in
    let own : term ≡ scalar_of ((region_at regions i).sides) place *ℤ d =
    e ∙ ap (λ (r : Region). scalar_of r.sides place *ℤ d) is_region in
    let opened : (sum +ℤ ((scalar_of ((region_at regions i).sides) place *ℤ d) +ℤ rest))
    ≡ value_of regions deltas place =
    sym (ap (λ z. sum +ℤ z) (step_both (λ (rs : List Region) (ds : List ℤ). value_of rs ds place)
    regions deltas i (record { sides = [] }) (pos 0) h k)) ∙ f.total in
    let small : unsigned_abs term ≤ 2147483648 = rw e (term_within region.sides place d fits) in
    let both = abs_sum sum term (2147483648 * i) 2147483648 f.within small in
    record {
      total = shifted sum term (sum +ℤ term) rest (value_of regions deltas place) refl
          (rw own opened);
      within = omega (arith, both);
    }

value_of-none : (regions : List Region) (place : List F2Dot14) → value_of regions [] place ≡ pos 0
value_of-none [] place = refl
value_of-none (region ∷ regions) place = refl

pub SumsTo-all : (regions : List Region) (deltas : List ℤ) (place : List F2Dot14) (i : ℕ) (sum : ℤ)
    → length deltas ≤ i → SumsTo regions deltas place i sum → sum ≡ value_of regions deltas place
SumsTo-all regions deltas place i sum h f =
    let none : value_of (drop i regions) (drop i deltas) place ≡ pos 0 =
    ap (λ (ds : List ℤ). value_of (drop i regions) ds place) (drop_all i deltas h)
    ∙ value_of-none (drop i regions) place in
    let total = f.total in
    shifted_none sum (value_of (drop i regions) (drop i deltas) place)
    (value_of regions deltas place) none total

-- so far a sum fits 64 bits with one more term
pub sum_fits : (sum term : ℤ) (i : ℕ) → unsigned_abs sum ≤ 2147483648 * i
    → unsigned_abs term ≤ 2147483648 → i + 1 < 2 ^ 32 → FitsSigned w64 (sum +ℤ term)
sum_fits sum term i h k l =
    let both = abs_sum sum term (2147483648 * i) 2147483648 h k in
    fits_signed_from_abs w64 (sum +ℤ term) (omega (arith, both))

pub term_fits : (sides : List (F2Dot14 × F2Dot14 × F2Dot14)) (place : List F2Dot14) (d : ℤ)
    → FitsSigned w16 d → FitsSigned w64 (scalar_of sides place *ℤ d)
term_fits sides place d f =
    let small = term_within sides place d f in
    fits_signed_from_abs w64 (scalar_of sides place *ℤ d) (omega (arith, small))
