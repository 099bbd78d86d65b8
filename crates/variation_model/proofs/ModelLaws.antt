-- What the laws of places give of a model.
use Rattle.std.proofs.Common.{◌≡◌, ℕ, ◌<◌, ◌≤◌, List, [], ◌∷◌, ◌++◌, refl, sym, ap, subst, ◌∙◌}
use Rattle.std.proofs.Common.{arith, length, map, ℤ, ◌-ℤ◌}
use Rattle.std.proofs.lemmas.List.{length-map}
use Rattle.std.specs.Prelude.{unsigned_abs, IfOk, Result, Ok, Err, Vec}
use Rattle.std.specs.declared.alloc.Global.{Global}
use Rattle.fixed_math.specs.declared.F2Dot14.{F2Dot14}
use Rattle.fixed_math.specs.declared.Fixed.{Fixed}
use Rattle.fixed_math.specs.FixedPoint.{half_up}
use Rattle.font_ir.specs.declared.variation.Region.{Region}
use Rattle.variation_model.specs.Places.{place_at, order_of, ordered, ArePlaces}
use Rattle.variation_model.specs.Supports.{supports_of}
use Rattle.variation_model.specs.Deltas.{GivesDeltas, value_of, deltas_after, deltas_of}
use Rattle.variation_model.specs.Deltas.{value_at_place}
use Rattle.variation_model.specs.declared.errors.DeltaError.{DeltaError}
use Rattle.variation_model.specs.Laws.{IsEachWhatIsLacking, IsInOrder, LaterSupportsCountNothing}
use Rattle.variation_model.specs.Laws.{MeetWithinHalf}
use Rattle.variation_model.proofs.ModelLemmas.{length-ordered}
use Rattle.variation_model.proofs.OwnSupports.{own_supports}
use Rattle.variation_model.proofs.LaterSupports.{later_supports}
use Rattle.variation_model.proofs.OrderLaws.{order_IsInOrder}
use Rattle.variation_model.proofs.HalfLemmas.{deltas_meet}
use Rattle.variation_model.proofs.LackLemmas.{deltas_lack}

pub places_sorted : (places : List (List F2Dot14)) → ArePlaces places
    → IsInOrder places (order_of places)
places_sorted places are = order_IsInOrder places are.one_length are.different

pub places_later : (places : List (List F2Dot14)) → ArePlaces places
    → LaterSupportsCountNothing places
places_later places are = later_supports places are.one_length are.different

pub places_meet : (places : List (List F2Dot14)) (values : List Fixed) → ArePlaces places
    → MeetWithinHalf places values (deltas_of places values)
places_meet places values are = deltas_meet places values (places_sorted places are)
    (own_supports places) (places_later places are)

-- a value at a place of the model
pub meets_at : (places : List (List F2Dot14)) (values : List Fixed) (i : ℕ) (deltas : List ℤ)
    (at : List F2Dot14) (value : ℤ) → ArePlaces places → deltas ≡ deltas_of places values
    → i < length places → at ≡ place_at places i → value ≡ value_of (supports_of places) deltas at
    → unsigned_abs (value -ℤ value_at_place values i) ≤ 32768
meets_at places values i deltas at value are e h f g =
    let P : ℤ → Type 0 = λ z. unsigned_abs (z -ℤ value_at_place values i) ≤ 32768 in
    let same : value ≡ value_of (supports_of places) (deltas_of places values) (place_at places i) =
    g ∙ ap (λ (ds : List ℤ). value_of (supports_of places) ds at) e
    ∙ ap (λ (v : List F2Dot14). value_of (supports_of places) (deltas_of places values) v) f in
    subst P (sym same) (places_meet places values are i h)

pub given_deltas_meet : (result : Result (Vec ℤ Global) DeltaError) (places : List (List F2Dot14))
    (values : List Fixed) → ArePlaces places → GivesDeltas result (deltas_of places values)
    → IfOk result (λ deltas. MeetWithinHalf places values deltas.items)
given_deltas_meet (Ok deltas) places values are given =
    let P : List ℤ → Type 0 = λ ds. MeetWithinHalf places values ds in
    subst P (sym given.0) (places_meet places values are)
given_deltas_meet (Err e) places values are given = tt

pub given_deltas_lack : (result : Result (Vec ℤ Global) DeltaError) (places : List (List F2Dot14))
    (values : List Fixed) → GivesDeltas result (deltas_of places values)
    → IfOk result (λ deltas. IsEachWhatIsLacking places values deltas.items)
given_deltas_lack (Ok deltas) places values given =
    let P : List ℤ → Type 0 = λ ds. IsEachWhatIsLacking places values ds in
    subst P (sym given.0) (deltas_lack places values)
given_deltas_lack (Err e) places values given = tt

-- there are as many deltas as places
length-deltas_after : (regions : List Region) (earlier : List ℤ) (places : List (List F2Dot14))
    (values : List ℤ) → length values ≡ length places
    → length (deltas_after regions earlier places values) ≡ length places
length-deltas_after regions earlier [] values e = refl
length-deltas_after regions earlier (place ∷ places) [] e = absurd (omega (arith, e))
length-deltas_after regions earlier (place ∷ places) (value ∷ values) e =
    let delta = half_up (value -ℤ value_of regions earlier place) in
    let rest : length values ≡ length places = omega (arith, e) in
    omega (arith, length-deltas_after regions (earlier ++ delta ∷ []) places values rest)

length-deltas_of : (places : List (List F2Dot14)) (values : List Fixed)
    → length (deltas_of places values) ≡ length places
unfolding deltas_of
length-deltas_of places values =
    let order = order_of places in
    let many : length (map (value_at_place values) order) ≡ length (ordered places) =
    length-map order (value_at_place values) ∙ sym (length-map order (place_at places)) in
    length-deltas_after (supports_of places) [] (ordered places) (map (value_at_place values) order)
    many ∙ length-ordered places

pub given_as_many : (result : Result (Vec ℤ Global) DeltaError) (places : List (List F2Dot14))
    (values : List Fixed) → GivesDeltas result (deltas_of places values)
    → IfOk result (λ deltas. length deltas.items ≡ length places)
given_as_many (Ok deltas) places values given = ap length given.0 ∙ length-deltas_of places values
given_as_many (Err e) places values given = tt
