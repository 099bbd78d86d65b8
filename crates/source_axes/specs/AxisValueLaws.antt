-- A coordinate that is read lies in the range that is asked of a header's coordinates: a decimal
-- has fewer than 1000000000 billionths, and rounding keeps the order. Proofs need this, and no
-- reader.
use Rattle.std.proofs.Common.{◌≡◌, ◌∷◌, [], ℕ, zero, suc, ◌+◌, ◌-◌, ◌*◌, ◌≤◌, ◌<◌, List, Bool, true}
use Rattle.std.proofs.Common.{false, ◌&&◌, ◌||◌, cond, eqb, ltb, Option, Some, None, get_or, take}
use Rattle.std.proofs.Common.{drop, map, refl, subst, arith, ℤ, pos, negsuc, neg_ℤ, ◌+ℤ◌, ◌*ℤ◌, ◌≤ℤ◌}
use Rattle.std.specs.Prelude.{position, option_and_then}
use Rattle.std.specs.List.{AllByRecursion, list_all}
use Rattle.std.specs.Char.{is_ascii_digit}
use Rattle.std.proofs.lemmas.Bool.Decides.{nat_tests}
use Rattle.std.proofs.lemmas.Int.{ints}
use Rattle.fixed_math.specs.FloorLaws.{floor_monotone}
use Rattle.font_ir.specs.Headers.{IsAxisCoordinate}
use Rattle.plist_reader.specs.declared.tree.Tree.{Tree}
use Rattle.plist_reader.specs.Tree.{text_at}
use Rattle.source_values.specs.declared.decimals.Decimal.{Decimal}
use Rattle.source_values.specs.Decimals.{are_digits, digits_value, billionths_of, fraction_of}
use Rattle.source_values.specs.Decimals.{unsigned_by, unsigned_of, decimal_of}
use Rattle.source_values.specs.Values.{decimal_at}
use Rattle.source_axes.specs.AxisValues.{is_axis_value, in_billionths, rounded, coordinate_by}
use Rattle.source_axes.specs.AxisValues.{axis_coordinate}

-- ---- few billionths

both : (a b : Bool) → (a && b) ≡ true → (a ≡ true) × (b ≡ true)
both true true e = (refl, refl)
both true false e = absurd cc
both false b e = absurd cc

one_digit : (d : ℕ) → is_ascii_digit d ≡ true → d - 48 ≤ 9
one_digit d e = grind (arith, nat_tests, e)

digit : (ds : List ℕ) → list_all is_ascii_digit ds ≡ true → (k : ℕ) → get_or ds k 48 - 48 ≤ 9
digit [] all k = omega arith
digit (d ∷ ds) all zero = one_digit d (both (is_ascii_digit d) _ all).0
digit (d ∷ ds) all (suc k) = digit ds (both (is_ascii_digit d) _ all).1 k

nine : (ds : List ℕ) → list_all is_ascii_digit ds ≡ true → billionths_of ds ≤ 999999999
unfolding billionths_of
nine ds all =
    omega (
      arith,
      digit ds all 0,
      digit ds all 1,
      digit ds all 2,
      digit ds all 3,
      digit ds all 4,
      digit ds all 5,
      digit ds all 6,
      digit ds all 7,
      digit ds all 8,
    )

nine_of : (ds : List ℕ) → are_digits ds ≡ true → billionths_of ds ≤ 999999999
unfolding are_digits
nine_of ds e = nine ds (both _ (list_all is_ascii_digit ds) e).1

few_in : (x d : Decimal) → Some x ≡ Some d → x.billionths ≤ 999999999 → d.billionths ≤ 999999999
few_in x d e few =
    let same : x ≡ d = cc in subst (λ (y : Decimal). y.billionths ≤ 999999999) same few

fraction_few : (negative : Bool) (front back : List ℕ) (d : Decimal)
    → fraction_of negative front back ≡ Some d → d.billionths ≤ 999999999
unfolding fraction_of
fraction_few negative front back d e = by (are_digits front) (are_digits back) refl e
  where
    by : (a b : Bool) → are_digits back ≡ b
        → cond (a && b)
        (Some (record {
          negative = negative;
          whole = digits_value front;
          billionths = billionths_of back;
        })) None ≡ Some d
        → d.billionths ≤ 999999999
    by true true f e = few_in _ d e (nine_of back f)
    by true false f e = absurd cc
    by false b f e = absurd cc

unsigned_few : (negative : Bool) (text : List ℕ) (o : Option ℕ) (d : Decimal)
    → unsigned_by negative text o ≡ Some d → d.billionths ≤ 999999999
unsigned_few negative text None d e = by (are_digits text) e
  where
    by : (a : Bool)
        → cond a
        (Some (record { negative = negative; whole = digits_value text; billionths = 0 })) None
        ≡ Some d
        → d.billionths ≤ 999999999
    by true e = few_in _ d e (omega arith)
    by false e = absurd cc
unsigned_few negative text (Some point) d e = fraction_few negative (take point text) _ d e

text_few : (text : List ℕ) (d : Decimal) → decimal_of text ≡ Some d → d.billionths ≤ 999999999
unfolding decimal_of unsigned_of
text_few text d e = by _ e
  where
    by : (b : Bool) → cond b (unsigned_of true (drop 1 text)) (unsigned_of false text) ≡ Some d
        → d.billionths ≤ 999999999
    by true e = unsigned_few true (drop 1 text) (position _ (drop 1 text)) d e
    by false e = unsigned_few false text (position _ text) d e

value_few : (o : Option (List ℕ)) (d : Decimal) → option_and_then decimal_of o ≡ Some d
    → d.billionths ≤ 999999999
value_few None d e = absurd cc
value_few (Some text) d e = text_few text d e

pub at_few : (t : Tree) (n : ℕ) (d : Decimal) → decimal_at t n ≡ Some d → d.billionths ≤ 999999999
unfolding decimal_at
at_few t n d e = value_few (text_at t.nodes n) d e

-- ---- coordinates

small_size : (w b : ℕ) → b ≤ 999999999 → (ltb w 32767 || (eqb w 32767 && eqb b 0)) ≡ true
    → 1000000000 * w + b ≤ 32767000000000
small_size w b few e = by (ltb w 32767) (eqb w 32767) (eqb b 0) refl refl refl e
  where
    by : (x y z : Bool) → ltb w 32767 ≡ x → eqb w 32767 ≡ y → eqb b 0 ≡ z → (x || (y && z)) ≡ true
        → 1000000000 * w + b ≤ 32767000000000
    by true y z p q r e = let less : w < 32767 = grind (arith, nat_tests, p) in omega arith
    by false true true p q r e =
        let same : w ≡ 32767 = grind (arith, nat_tests, q) in
        let none : b ≡ 0 = grind (arith, nat_tests, r) in omega arith
    by false true false p q r e = absurd cc
    by false false z p q r e = absurd cc

abbrev IsSmallRaw : ℤ → Type 0
IsSmallRaw z = (negsuc 2147418111 ≤ℤ z) × (z ≤ℤ pos 2147418112)

small_raw : (n : ℤ) → negsuc 32766999999999 ≤ℤ n → n ≤ℤ pos 32767000000000
    → IsSmallRaw (rounded n)
small_raw n low high =
    let least : (pos 65536 *ℤ negsuc 32766999999999 +ℤ pos 500000000)
    ≤ℤ (pos 65536 *ℤ n +ℤ pos 500000000) = omega (arith, ints) in
    let greatest : (pos 65536 *ℤ n +ℤ pos 500000000)
    ≤ℤ (pos 65536 *ℤ pos 32767000000000 +ℤ pos 500000000) = omega (arith, ints) in (
      floor_monotone (pos 65536 *ℤ negsuc 32766999999999 +ℤ pos 500000000)
          (pos 65536 *ℤ n +ℤ pos 500000000) 1000000000 (omega arith) least,
      floor_monotone (pos 65536 *ℤ n +ℤ pos 500000000)
          (pos 65536 *ℤ pos 32767000000000 +ℤ pos 500000000) 1000000000 (omega arith) greatest,
    )

small_decimal : (d : Decimal) → d.billionths ≤ 999999999 → is_axis_value d ≡ true
    → IsSmallRaw (rounded (in_billionths d))
small_decimal d few e = by d.negative
  where
    size : 1000000000 * d.whole + d.billionths ≤ 32767000000000
    size = small_size d.whole d.billionths few e

    by : (b : Bool) → IsSmallRaw (rounded (cond b (neg_ℤ (pos (1000000000 * d.whole
        + d.billionths))) (pos (1000000000 * d.whole + d.billionths))))
    by true = small_raw (neg_ℤ (pos (1000000000 * d.whole + d.billionths)))
        (omega (arith, ints, size)) (omega (arith, ints, size))
    by false = small_raw (pos (1000000000 * d.whole + d.billionths))
        (omega (arith, ints, size)) (omega (arith, ints, size))

small_by : (o : Option Decimal) → ((d : Decimal) → o ≡ Some d → d.billionths ≤ 999999999)
    → IsSmallRaw (coordinate_by o)
small_by None few = (omega (arith, ints), omega (arith, ints))
small_by (Some d) few = by (is_axis_value d) refl
  where
    by : (b : Bool) → is_axis_value d ≡ b
        → IsSmallRaw (cond b (rounded (in_billionths d)) (pos 0))
    by true e = small_decimal d (few d refl) e
    by false e = (omega (arith, ints), omega (arith, ints))

-- each coordinate that is read is in the range
pub small_coordinate : (t : Tree) (n : ℕ) → IsAxisCoordinate (axis_coordinate t n)
unfolding axis_coordinate
small_coordinate t n = small_by (decimal_at t n) (at_few t n)

pub small_coordinates : (t : Tree) (ns : List ℕ)
    → AllByRecursion IsAxisCoordinate (map (axis_coordinate t) ns)
small_coordinates t [] = tt
small_coordinates t (n ∷ ns) = (small_coordinate t n, small_coordinates t ns)
