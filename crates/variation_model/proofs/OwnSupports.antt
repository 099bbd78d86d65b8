-- Each region has its place as its peak, so that its scalar is one there.
use Rattle.std.proofs.Common.{◌≡◌, ℕ, zero, suc, ◌+◌, ◌<◌, Bool, true, false, cond, ◌||◌, List, []}
use Rattle.std.proofs.Common.{◌∷◌, ◌++◌, refl, ap, ◌∙◌, arith, length, ℤ, pos}
use Rattle.std.proofs.lemmas.Int.{ints}
use Rattle.std.proofs.lemmas.Bool.{cond-true}
use Rattle.std.proofs.lemmas.List.{length-map}
use Rattle.std.specs.Prelude.{int_lt}
use Rattle.std.specs.List.{fold}
use Rattle.std.specs.Ordering.{int_eq}
use Rattle.fixed_math.specs.declared.F2Dot14.{F2Dot14}
use Rattle.fixed_math.specs.FixedPoint.{product}
use Rattle.fixed_math.specs.ProductLaws.{product_one_right}
use Rattle.variation_model.specs.Places.{place_at, ordered, order_of, zero_number}
use Rattle.variation_model.specs.Supports as spec
use Rattle.variation_model.specs.Scalar.{axis_scalar, scalar_from, scalar_of}
use Rattle.variation_model.specs.Deltas.{region_at}
use Rattle.variation_model.specs.Laws.{OwnSupportsCountWhole}
use Rattle.variation_model.proofs.ModelLemmas.{length-order_of}

-- start, peak and end on an axis
abbrev pub Side : Type 0
Side = F2Dot14 × F2Dot14 × F2Dot14

-- the sides have the place's numbers as their peaks
abbrev pub Peaks : List Side → List F2Dot14 → Type 0
Peaks [] [] = Unit {0}
Peaks [] (v ∷ vs) = ⊥
Peaks (side ∷ sides) [] = ⊥
Peaks (side ∷ sides) (v ∷ vs) = (side.1.0 ≡ v.0) × Peaks sides vs

at_peak : (p v : ℤ) → p ≡ v → (int_eq p (pos 0) || int_eq v p) ≡ true
at_peak p v e = grind (arith, ints)

one_on_axis : (side : Side) (v : F2Dot14) → side.1.0 ≡ v.0 → axis_scalar side v ≡ pos 65536
one_on_axis side v e = cond-true (int_eq side.1.0 (pos 0) || int_eq v.0 side.1.0) (pos 65536) _
    (at_peak side.1.0 v.0 e)

whole_from : (before : ℤ) (sides : List Side) (place : List F2Dot14) → Peaks sides place
    → scalar_from before sides place ≡ before
whole_from before [] place p = refl
whole_from before (side ∷ sides) [] p = refl
whole_from before (side ∷ sides) (v ∷ vs) p =
    whole_from (product before (axis_scalar side v)) sides vs p.1
    ∙ ap (product before) (one_on_axis side v p.0) ∙ product_one_right before

peak_of : (a b : Bool) (peak low high : F2Dot14) → (a ≡ false → b ≡ false → pos 0 ≡ peak.0)
    → (cond {A = Side} a (zero_number, peak, high)
    (cond {A = Side} b (low, peak, zero_number) (zero_number, zero_number, zero_number))).1.0
    ≡ peak.0
peak_of true b peak low high f = refl
peak_of false true peak low high f = refl
peak_of false false peak low high f = f refl refl

neither : (p : ℤ) → int_lt (pos 0) p ≡ false → int_lt p (pos 0) ≡ false → pos 0 ≡ p
neither p e f = grind (arith, ints)

widest_peak : (low : ℤ) (peak : F2Dot14) (high : ℤ) → (spec.widest_side low peak high).1.0 ≡ peak.0
widest_peak low peak high =
    peak_of (int_lt (pos 0) peak.0) (int_lt peak.0 (pos 0)) peak (record { 0 = low })
    (record { 0 = high }) (neither peak.0)

pub widest_Peaks : (places : List (List F2Dot14)) (axis : ℕ) (place : List F2Dot14)
    → Peaks (spec.widest_from places axis place) place
widest_Peaks places axis [] = tt
widest_Peaks places axis (v ∷ vs) = (
  widest_peak (spec.least places axis) v (spec.greatest places axis),
  widest_Peaks places
      (axis + 1) vs,
)

same_peak : (a b c : Bool) (side : Side) (v : F2Dot14)
    → (cond {A = Side} a side (cond {A = Side} b (v, side.1, side.2)
    (cond {A = Side} c (side.0, side.1, v) side))).1.0 ≡ side.1.0
same_peak true b c side v = refl
same_peak false true c side v = refl
same_peak false false true side v = refl
same_peak false false false side v = refl

cut_peak : (largest : ℕ × ℕ) (side : Side) (v : F2Dot14)
    → (spec.cut_at_least largest side v).1.0 ≡ side.1.0
cut_peak largest side v =
    same_peak (spec.is_less (spec.axis_ratio side v) largest) (int_lt v.0 side.1.0)
    (int_lt side.1.0 v.0) side v

pub cut_Peaks : (largest : ℕ × ℕ) (sides : List Side) (other place : List F2Dot14)
    → Peaks sides place → Peaks (spec.cut_largest largest sides other) place
cut_Peaks largest [] other place p = p
cut_Peaks largest (side ∷ sides) [] place p = p
cut_Peaks largest (side ∷ sides) (w ∷ ws) [] p = p
cut_Peaks largest (side ∷ sides) (w ∷ ws) (v ∷ vs) p
    = (cut_peak largest side w ∙ p.0, cut_Peaks largest sides ws vs p.1)

either_Peaks : (b : Bool) (sides others : List Side) (place : List F2Dot14) → Peaks sides place
    → Peaks others place → Peaks (cond b sides others) place
either_Peaks true sides others place p q = p
either_Peaks false sides others place p q = q

pub narrowed_Peaks : (sides : List Side) (other place : List F2Dot14) → Peaks sides place
    → Peaks (spec.narrowed sides other) place
narrowed_Peaks sides other place p =
    either_Peaks (spec.all_inside sides other)
    (spec.cut_largest (spec.largest_ratio sides other) sides other) sides place
    (cut_Peaks (spec.largest_ratio sides other) sides other place p) p

fold_Peaks : (sides : List Side) (earlier : List (List F2Dot14)) (place : List F2Dot14)
    → Peaks sides place → Peaks (fold spec.narrowed sides earlier) place
fold_Peaks sides [] place p = p
fold_Peaks sides (other ∷ rest) place p = fold_Peaks (spec.narrowed sides other) rest place
    (narrowed_Peaks sides other place p)

whole_support : (places earlier : List (List F2Dot14)) (place : List F2Dot14)
    → scalar_of ((spec.support places earlier place).sides) place ≡ pos 65536
whole_support places earlier place =
    whole_from (pos 65536) (fold spec.narrowed (spec.widest_from places 0 place) earlier) place
    (fold_Peaks (spec.widest_from places 0 place) earlier place (widest_Peaks places 0 place))

whole_after : (places earlier rest : List (List F2Dot14)) (i : ℕ) → i < length rest
    → scalar_of ((region_at (spec.supports_after places earlier rest) i).sides) (place_at rest i)
    ≡ pos 65536
whole_after places earlier [] i h = absurd (omega arith)
whole_after places earlier (place ∷ rest) zero h = whole_support places earlier place
whole_after places earlier (place ∷ rest) (suc i) h
    = whole_after places (earlier ++ place ∷ []) rest i (omega arith)

pub own_supports : (places : List (List F2Dot14)) → OwnSupportsCountWhole places
unfolding spec.supports_of
own_supports places i h =
    whole_after places [] (ordered places) i
    (omega (arith, length-map (order_of places) (place_at places), length-order_of places))
