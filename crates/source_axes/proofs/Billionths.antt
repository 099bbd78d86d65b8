-- A decimal has fewer than 1000000000 billionths, so cutting its parts changes nothing of one in
-- the range of coordinates.
use Rattle.std.proofs.Common.{◌≡◌, ℕ, ◌+◌, ◌-◌, ◌≤◌, Bool, true}
use Rattle.std.proofs.Common.{◌&&◌, cond, leb, Option, Some, None, refl, sym, ap}
use Rattle.std.proofs.Common.{arith, ◌∙◌, ◌||◌, ltb, eqb, ℤ, pos}
use Rattle.std.specs.Prelude.{option_map, min}
use Rattle.std.proofs.lemmas.Bool.Decides.{nat_tests}
use Rattle.plist_reader.specs.declared.tree.Tree.{Tree}
use Rattle.source_values.specs.declared.decimals.Decimal.{Decimal}
use Rattle.source_values.specs.Decimals.{cut}
use Rattle.source_values.specs.Values.{decimal_at}
use Rattle.fixed_math.specs.declared.Fixed.{Fixed}
use Rattle.source_axes.specs.AxisValues.{is_axis_value, in_billionths, rounded, coordinate_by}
use Rattle.source_axes.specs.AxisValues.{axis_coordinate}
use Rattle.source_axes.specs.AxisValueLaws.{at_few}

-- a decimal of a tree, cut
pub record IsCut (t : Tree) (n : ℕ) (d : Decimal) : Type 0 where
  pub own : Decimal
  pub there : decimal_at t n ≡ Some own
  pub negative : own.negative ≡ d.negative
  pub whole : min own.whole 1000000000 ≡ d.whole
  pub billionths : own.billionths ≡ d.billionths
  pub few : d.billionths ≤ 1000000000

pub few_billionths : (t : Tree) (n : ℕ) (d : Decimal) → Some d ≡ option_map cut (decimal_at t n)
    → IsCut t n d
few_billionths t n d e = by (decimal_at t n) refl e
  where
    parts : (x : Decimal) → decimal_at t n ≡ Some x → cut x ≡ d → IsCut t n d
    parts x at same =
        let few = at_few t n x at in
        let cut_few : min x.billionths 1000000000 ≡ x.billionths = omega (arith, few) in
        let is : min x.billionths 1000000000 ≡ d.billionths
        = ap (λ (y : Decimal). y.billionths) same in
        record {
          own = x;
          there = at;
          negative = ap (λ (y : Decimal). y.negative) same;
          whole = ap (λ (y : Decimal). y.whole) same;
          billionths = omega (arith, cut_few, is);
          few = omega (arith, cut_few, is, few);
        }

    by : (o : Option Decimal) → decimal_at t n ≡ o → Some d ≡ option_map cut o → IsCut t n d
    by None at e = absurd cc
    by (Some x) at e = parts x at cc

-- ---- the coordinate of a decimal in the range

number : Bool → ℕ → ℕ → Decimal
number negative whole billionths = record {
  negative = negative;
  whole = whole;
  billionths = billionths;
}

same_number : (a b : Decimal) → a.negative ≡ b.negative → a.whole ≡ b.whole
    → a.billionths ≡ b.billionths → a ≡ b
unfolding number
same_number a b e f g =
    ap (λ (s : Bool). number s a.whole a.billionths) e
    ∙ ap (λ (w : ℕ). number b.negative w a.billionths) f
    ∙ ap (λ (n : ℕ). number b.negative b.whole n) g

in_range : (w b : ℕ) → (ltb w 32767 || (eqb w 32767 && eqb b 0)) ≡ true → w ≤ 32767
in_range w b e = grind (arith, nat_tests, e)

pub coordinate_is : (t : Tree) (n : ℕ) (d : Decimal) (f : Fixed)
    → Some d ≡ option_map cut (decimal_at t n) → is_axis_value d ≡ true
    → f.0 ≡ rounded (in_billionths d) → f ≡ axis_coordinate t n
unfolding axis_coordinate
coordinate_is t n d f e r is =
    let own = few_billionths t n d e in
    let small = in_range d.whole d.billionths r in
    let whole : own.own.whole ≡ d.whole = omega (arith, own.whole, small) in
    let same : own.own ≡ d = same_number own.own d own.negative whole own.billionths in
    let there : decimal_at t n ≡ Some d = own.there ∙ ap (λ (x : Decimal). Some x) same in
    let value : coordinate_by (decimal_at t n) ≡ rounded (in_billionths d)
    = ap coordinate_by there
    ∙ ap (λ (b : Bool). cond b (rounded (in_billionths d)) (pos 0)) r in
    ap (λ (z : ℤ). record { 0 = z }) (is ∙ sym value)
