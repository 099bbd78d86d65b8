-- Each delta is what the earlier ones lack of the value at its place, rounded.
use Rattle.std.proofs.Common.{◌≡◌, ℕ, zero, suc, ◌+◌, ◌<◌, List, [], ◌∷◌, ◌++◌, sym, ap, ◌∙◌, arith}
use Rattle.std.proofs.Common.{length, get_or, take, map, subst, append_assoc, ℤ, pos, ◌-ℤ◌}
use Rattle.std.proofs.lemmas.List.{get_or-append-add, get_or-map, length-append, length-map}
use Rattle.std.proofs.lemmas.List.{take_at}
use Rattle.fixed_math.specs.declared.F2Dot14.{F2Dot14}
use Rattle.fixed_math.specs.declared.Fixed.{Fixed}
use Rattle.fixed_math.specs.FixedPoint.{half_up}
use Rattle.font_ir.specs.declared.variation.Region.{Region}
use Rattle.variation_model.specs.Places.{order_of, ordered, place_at}
use Rattle.variation_model.specs.Supports.{supports_of}
use Rattle.variation_model.specs.Deltas.{deltas_after, deltas_of, value_at_place, value_of}
use Rattle.variation_model.specs.Laws.{IsEachWhatIsLacking}
use Rattle.variation_model.proofs.ModelLemmas.{length-order_of, length-ordered}

abbrev IsLacking : List Region → List ℤ → ℕ → List F2Dot14 → ℤ → Type 0
IsLacking regions deltas n place value =
    get_or deltas n (pos 0) ≡ half_up (value -ℤ value_of regions (take n deltas) place)

lacking_at : (regions : List Region) (earlier : List ℤ) (places : List (List F2Dot14))
    (values : List ℤ) (i : ℕ) → i < length places → length values ≡ length places
    → IsLacking regions (earlier ++ deltas_after regions earlier places values) (length earlier + i)
    (place_at places i) (get_or values i (pos 0))
lacking_at regions earlier [] values i h many = absurd (omega arith)
lacking_at regions earlier (place ∷ places) [] i h many = absurd (omega arith)
lacking_at regions earlier (place ∷ places) (value ∷ values) zero h many =
    let delta = half_up (value -ℤ value_of regions earlier place) in
    let later = deltas_after regions (earlier ++ delta ∷ []) places values in
    let start : length earlier ≡ length earlier + 0 = omega arith in
    let so_far : take (length earlier + 0) (earlier ++ delta ∷ later)
    ≡ earlier = take_at earlier (delta ∷ later) (length earlier + 0) start in
    get_or-append-add earlier (delta ∷ later) 0 (pos 0)
    ∙ ap (λ (ds : List ℤ). half_up (value -ℤ value_of regions ds place)) (sym so_far)
lacking_at regions earlier (place ∷ places) (value ∷ values) (suc i) h many =
    let delta = half_up (value -ℤ value_of regions earlier place) in
    let next = earlier ++ delta ∷ [] in
    let later = deltas_after regions next places values in
    let longer : length next ≡ length earlier
    + 1 = omega (arith, length-append earlier (delta ∷ [])) in
    let at : length next + i ≡ length earlier + suc i = omega arith in
    let P : List ℤ → Type 0 = λ ds. IsLacking regions ds (length next + i) (place_at places i)
    (get_or values i (pos 0)) in
    let Q : ℕ → Type 0 = λ n. IsLacking regions (earlier ++ delta ∷ later) n (place_at places i)
    (get_or values i (pos 0)) in
    subst Q at (subst P (append_assoc earlier (delta ∷ []) later)
    (lacking_at regions next places values i (omega arith) (omega arith)))

pub deltas_lack : (places : List (List F2Dot14)) (values : List Fixed)
    → IsEachWhatIsLacking places values (deltas_of places values)
unfolding deltas_of
deltas_lack places values k h =
    let numbers = map (value_at_place values) (order_of places) in
    let many : length numbers ≡ length (ordered places)
    = length-map (order_of places) (value_at_place values) ∙ length-order_of places
    ∙ sym (length-ordered places) in
    let within : k < length (order_of places) = omega (arith, length-order_of places) in
    let is_value = get_or-map (value_at_place values) (order_of places) k 0 (pos 0) within in
    let start : length {A = ℤ} [] + k ≡ k = omega arith in
    let P : ℕ → Type 0 = λ n. IsLacking (supports_of places) (deltas_of places values) n
    (place_at (ordered places) k) (get_or numbers k (pos 0)) in
    let Q : ℤ → Type 0 = λ z. IsLacking (supports_of places) (deltas_of places values) k
    (place_at (ordered places) k) z in
    subst Q is_value (subst P start (lacking_at (supports_of places) [] (ordered places) numbers k
    (omega (arith, length-ordered places)) many))
