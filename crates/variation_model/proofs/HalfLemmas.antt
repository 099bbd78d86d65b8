-- What the deltas give at each place is within one half of the value there.
use Rattle.std.proofs.Common.{◌≡◌, ℕ, zero, suc, ◌+◌, ◌<◌, ◌≤◌, List, [], ◌∷◌, ◌++◌, refl, sym, ap}
use Rattle.std.proofs.Common.{◌∙◌, arith, length, get_or, map, ℤ, pos, negsuc, ◌+ℤ◌, ◌-ℤ◌, ◌*ℤ◌}
use Rattle.std.proofs.Common.{◌≤ℤ◌, subst, append_assoc}
use Rattle.std.proofs.lemmas.Int.{ints}
use Rattle.std.proofs.lemmas.List.{get_or-map, get_or_default, length-map, length-append}
use Rattle.std.specs.Prelude.{EachIndex, unsigned_abs}
use Rattle.fixed_math.specs.declared.F2Dot14.{F2Dot14}
use Rattle.fixed_math.specs.declared.Fixed.{Fixed}
use Rattle.fixed_math.specs.FixedPoint.{half_up}
use Rattle.fixed_math.specs.FloorLaws.{half_up_low, half_up_high}
use Rattle.font_ir.specs.declared.variation.Region.{Region}
use Rattle.variation_model.specs.Places.{place_at, ordered, order_of}
use Rattle.variation_model.specs.Supports.{supports_of}
use Rattle.variation_model.specs.Scalar.{scalar_of}
use Rattle.variation_model.specs.Deltas.{value_of, region_at, deltas_after, deltas_of}
use Rattle.variation_model.specs.Deltas.{value_at_place}
use Rattle.variation_model.specs.Laws.{IsInOrder, OwnSupportsCountWhole, LaterSupportsCountNothing}
use Rattle.variation_model.specs.Laws.{MeetWithinHalf}
use Rattle.variation_model.proofs.ModelLemmas.{length-order_of, length-supports_of}

-- regions that count nothing at a place
abbrev CountNothing : List Region → List F2Dot14 → Type 0
CountNothing regions place = EachIndex regions
    (λ k. scalar_of ((region_at regions k).sides) place ≡ pos 0)

no_term : (scalar delta rest : ℤ) → scalar ≡ pos 0 → rest ≡ pos 0
    → ((scalar *ℤ delta) +ℤ rest) ≡ pos 0
no_term scalar delta rest e f = rw e (omega (arith, ints))

value_of-nothing : (regions : List Region) (deltas : List ℤ) (place : List F2Dot14)
    → CountNothing regions place → value_of regions deltas place ≡ pos 0
value_of-nothing [] deltas place f = refl
value_of-nothing (region ∷ regions) [] place f = refl
value_of-nothing (region ∷ regions) (delta ∷ deltas) place f =
    no_term (scalar_of region.sides place) delta (value_of regions deltas place) (f 0 (omega arith))
    (value_of-nothing regions deltas place (λ k h. f (suc k) (omega arith)))

-- at a place where its own region counts whole and later ones nothing, a delta is added whole to
-- what the earlier ones give
abbrev CountsFrom : List Region → ℕ → List F2Dot14 → Type 0
CountsFrom regions i place = (k : ℕ) → i < k → k < length regions
    → scalar_of ((region_at regions k).sides) place ≡ pos 0

own_term : (scalar delta rest : ℤ) → scalar ≡ pos 65536 → rest ≡ pos 0
    → ((scalar *ℤ delta) +ℤ rest) ≡ (pos 0 +ℤ (pos 65536 *ℤ delta))
own_term scalar delta rest e f = rw e (omega (arith, ints))

more_terms : (term before own all : ℤ) → all ≡ (before +ℤ own)
    → (term +ℤ all) ≡ ((term +ℤ before) +ℤ own)
more_terms term before own all e = omega (arith, ints)

value_of-own : (regions : List Region) (earlier : List ℤ) (delta : ℤ) (later : List ℤ)
    (place : List F2Dot14) → length earlier < length regions
    → scalar_of ((region_at regions (length earlier)).sides) place ≡ pos 65536
    → CountsFrom regions (length earlier) place
    → value_of regions (earlier ++ delta ∷ later) place
    ≡ (value_of regions earlier place +ℤ (pos 65536 *ℤ delta))
value_of-own [] earlier delta later place h own rest = absurd (omega arith)
value_of-own (region ∷ regions) [] delta later place h own rest =
    own_term (scalar_of region.sides place) delta (value_of regions later place) own
    (value_of-nothing regions later place (λ k l. rest (suc k) (omega arith) (omega arith)))
value_of-own (region ∷ regions) (e ∷ es) delta later place h own rest =
    more_terms (scalar_of region.sides place *ℤ e) (value_of regions es place) (pos 65536 *ℤ delta)
    (value_of regions (es ++ delta ∷ later) place)
    (value_of-own regions es delta later place (omega arith) own
    (λ k l m. rest (suc k) (omega arith) (omega arith)))

-- so what is lacking is the delta but for its rounding
between : (z : ℤ) → (pos 0 -ℤ pos 32768) ≤ℤ z → z ≤ℤ pos 32768 → unsigned_abs z ≤ 32768
between (pos n) h k = omega (arith, ints)
between (negsuc n) h k = omega (arith, ints)

half_left : (value before all : ℤ) → all ≡ (before +ℤ (pos 65536 *ℤ half_up (value -ℤ before)))
    → unsigned_abs (all -ℤ value) ≤ 32768
half_left value before all e =
    let low = half_up_low (value -ℤ before) in
    let high = half_up_high (value -ℤ before) in
    between (all -ℤ value) (omega (arith, ints)) (omega (arith, ints))

abbrev WithinHalf : List Region → List ℤ → List F2Dot14 → ℤ → Type 0
WithinHalf regions deltas place value = unsigned_abs (value_of regions deltas place -ℤ value) ≤
    32768

within_at : (regions : List Region) (earlier : List ℤ) (places : List (List F2Dot14))
    (values : List ℤ) (i : ℕ) → i < length places → length values ≡ length places
    → length regions ≡ length earlier + length places
    → scalar_of ((region_at regions (length earlier + i)).sides) (place_at places i) ≡ pos 65536
    → CountsFrom regions (length earlier + i) (place_at places i)
    → WithinHalf regions (earlier ++ deltas_after regions earlier places values) (place_at places i)
    (get_or values i (pos 0))
within_at regions earlier [] values i h many long own rest = absurd (omega arith)
within_at regions earlier (place ∷ places) [] i h many long own rest = absurd (omega arith)
within_at regions earlier (place ∷ places) (value ∷ values) zero h many long own rest =
    let delta = half_up (value -ℤ value_of regions earlier place) in
    let later = deltas_after regions (earlier ++ delta ∷ []) places values in
    let at : length earlier + 0 ≡ length earlier = omega arith in
    let whole : scalar_of ((region_at regions (length earlier)).sides) place ≡ pos 65536 =
    ap (λ n. scalar_of ((region_at regions n).sides) place) (sym at) ∙ own in
    let P : ℕ → Type 0 = λ n. CountsFrom regions n place in
    half_left value (value_of regions earlier place)
    (value_of regions (earlier ++ delta ∷ later) place)
    (value_of-own regions earlier delta later place (omega arith) whole (subst P at rest))
within_at regions earlier (place ∷ places) (value ∷ values) (suc i) h many long own rest =
    let delta = half_up (value -ℤ value_of regions earlier place) in
    let next = earlier ++ delta ∷ [] in
    let later = deltas_after regions next places values in
    let longer : length next ≡ length earlier
    + 1 = omega (arith, length-append earlier (delta ∷ [])) in
    let at : length earlier + suc i ≡ length next + i = omega arith in
    let whole : scalar_of ((region_at regions (length next + i)).sides) (place_at places i)
    ≡ pos 65536 =
    ap (λ n. scalar_of ((region_at regions n).sides) (place_at places i)) (sym at) ∙ own in
    let P : ℕ → Type 0 = λ n. CountsFrom regions n (place_at places i) in
    let Q : List ℤ → Type 0 = λ ds. WithinHalf regions ds (place_at places i)
    (get_or values i (pos 0)) in
    subst Q (append_assoc earlier (delta ∷ []) later)
    (within_at regions next places values i (omega arith) (omega arith) (omega arith) whole
    (subst P at rest))

pub deltas_meet : (places : List (List F2Dot14)) (values : List Fixed)
    → IsInOrder places (order_of places) → OwnSupportsCountWhole places
    → LaterSupportsCountNothing places → MeetWithinHalf places values (deltas_of places values)
unfolding deltas_of
deltas_meet places values sorted own later i h =
    let order = order_of places in
    let regions = supports_of places in
    let in_order = ordered places in
    let numbers = map (value_at_place values) order in
    let many : length order ≡ length places = length-order_of places in
    let many_places : length in_order ≡ length places = length-map order (place_at places) ∙ many in
    let many_numbers : length numbers ≡ length in_order = length-map order (value_at_place values)
    ∙ sym (length-map order (place_at places)) in
    let many_regions : length regions ≡ length {A = ℤ} []
    + length in_order = omega (arith, length-supports_of places) in
    let has = sorted.each i h in
    let k = has.0 in
    let below : k < length order = has.1 in
    let named : get_or order k 0 ≡ i = get_or_default order k 0 i below ∙ has.2 in
    let is_place : place_at in_order k ≡ place_at places i
    = get_or-map (place_at places) order k 0 [] below ∙ ap (place_at places) named in
    let is_value : get_or numbers k (pos 0)
    ≡ value_at_place values i = get_or-map (value_at_place values) order k 0 (pos 0) below
    ∙ ap (value_at_place values) named in
    let start : k ≡ length {A = ℤ} [] + k = omega arith in
    let known : k < length places = omega arith in
    let Own : ℕ → Type 0 = λ n. scalar_of ((region_at regions n).sides) (place_at in_order k)
    ≡ pos 65536 in
    let Later : ℕ → Type 0 = λ n. CountsFrom regions n (place_at in_order k) in
    let counts : Later k = λ l m o. later k l m (omega (arith, length-supports_of places)) in
    let within = within_at regions [] in_order numbers k (omega arith) many_numbers many_regions
    (subst Own start (own k known)) (subst Later start counts) in
    let P : List F2Dot14 → Type 0 = λ v. WithinHalf regions (deltas_of places values) v
    (get_or numbers k (pos 0)) in
    let Q : ℤ → Type 0 = λ z. WithinHalf regions (deltas_of places values) (place_at places i) z in
    subst Q is_value (subst P is_place within)
