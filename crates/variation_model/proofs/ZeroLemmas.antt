-- The zero place is the first.
use Rattle.std.proofs.Common.{◌≡◌, ℕ, zero, suc, ◌+◌, ◌<◌, ◌≤◌, ⊎_elim, List, [], ◌∷◌, refl, sym}
use Rattle.std.proofs.Common.{ap, ◌∙◌, arith, length, get_or, replicate}
use Rattle.std.proofs.lemmas.Bool.{cases_order}
use Rattle.std.proofs.lemmas.List.{get_or-map, get_or_default, length-replicate}
use Rattle.fixed_math.specs.declared.F2Dot14.{F2Dot14}
use Rattle.variation_model.specs.Places.{ArePlaces, active, axis_count, order_of, ordered, place_at}
use Rattle.variation_model.specs.Places.{zero_number}
use Rattle.variation_model.specs.Laws.{IsInOrder, IsZeroFirst}
use Rattle.variation_model.proofs.KeyLemmas.{active_from, no_more_active, same_active}
use Rattle.variation_model.proofs.LaterSupports.{rising_places}
use Rattle.variation_model.proofs.ModelLemmas.{length-order_of, length-ordered, ordered_length}

none_active : (n axes : ℕ) → active_from n (replicate axes zero_number) ≡ []
none_active n zero = refl
none_active n (suc axes) = none_active (n + 1) axes

no_items : {X : Type 0} (xs : List X) → length xs ≤ 0 → xs ≡ []
no_items [] h = refl
no_items (x ∷ xs) h = absurd (omega arith)

-- a place without active axes is the zero one
zero_place : (axes : ℕ) (place : List F2Dot14) → length place ≡ axes → length (active place) ≤ 0
    → place ≡ replicate axes zero_number
zero_place axes place h none =
    same_active 0 place (replicate axes zero_number) (h ∙ sym (length-replicate axes zero_number))
    (no_items (active place) none ∙ sym (none_active 0 axes))

pub zero_first : (places : List (List F2Dot14)) → ArePlaces places
    → IsInOrder places (order_of places) → IsZeroFirst places
zero_first places are sorted =
    let zeros = replicate (axis_count places) zero_number in
    let i = are.has_zero.0 in
    let within : i < length places = are.has_zero.1 in
    let is_zero : place_at places i ≡ zeros = get_or_default places i [] zeros within
    ∙ are.has_zero.2 in
    let has = sorted.each i within in
    let k = has.0 in
    let below : k < length (order_of places) = has.1 in
    let named : get_or (order_of places) k 0 ≡ i = get_or_default (order_of places) k 0 i below
    ∙ has.2 in
    let there : place_at (ordered places) k ≡ zeros =
    get_or-map (place_at places) (order_of places) k 0 [] below ∙ ap (place_at places) named
    ∙ is_zero in
    ⊎_elim
    (λ e. ap (place_at (ordered places)) (sym e) ∙ there)
    (λ o. ⊎_elim
    (λ l. absurd (omega arith))
    (λ l.
    let last : k < length places = omega (arith, length-order_of places) in
    let before = rising_places places 0 k sorted l last in
    let fewer = no_more_active places (place_at (ordered places) 0) (place_at (ordered places) k)
    before in
    let none : length (active (place_at (ordered places) k)) ≡ 0 = ap (λ v. length (active v)) there
    ∙ ap length (none_active 0 (axis_count places)) in
    let long = ordered_length places are.one_length 0 (omega (arith, length-ordered places)) in
    zero_place (axis_count places) (place_at (ordered places) 0) long (omega arith))
    o)
    (cases_order k 0)
