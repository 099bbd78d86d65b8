-- Each support is what the earlier places, one after another, leave of the widest region.
use Rattle.std.proofs.Common.{◌≡◌, ℕ, zero, suc, ◌+◌, ◌<◌, true, false, ◌⊎◌, inl, inr, ⊎_elim, List}
use Rattle.std.proofs.Common.{[], ◌∷◌, refl, sym, ap, ◌∙◌, arith, length, take, subst, ℤ, pos, ◌≤ℤ◌}
use Rattle.std.proofs.Common.{◌<ℤ◌}
use Rattle.std.proofs.lemmas.Int.{ints}
use Rattle.std.proofs.lemmas.Bool.{cond_both}
use Rattle.std.proofs.lemmas.List.{length-take-le, get_or-take, get_or_default, take_all}
use Rattle.std.proofs.lemmas.List.{length-map}
use Rattle.std.proofs.lemmas.List.Sums.{fold_more}
use Rattle.std.specs.Prelude.{int_lt, replicate, Contains, EachIndex}
use Rattle.std.specs.List.{fold}
use Rattle.std.specs.Int.{int_max, int_min}
use Rattle.fixed_math.specs.declared.F2Dot14.{F2Dot14}
use Rattle.font_ir.specs.declared.variation.Region.{Region}
use Rattle.variation_model.specs.Places.{zero_number, place_at, axis_count, ordered, order_of}
use Rattle.variation_model.specs.Supports as spec
use Rattle.variation_model.specs.Cuts.{Side, side_on, coordinate_on, IsGreatestOn, IsLeastOn}
use Rattle.variation_model.specs.Cuts.{IsWidestOn, IsWidest, IsNarrowed, IsSupport}
use Rattle.variation_model.specs.Deltas.{region_at}
use Rattle.variation_model.specs.Laws.{EarlierPlacesCut}
use Rattle.variation_model.proofs.ModelLemmas.{length-order_of, ordered_length}
use Rattle.variation_model.proofs.SupportLengths.{length-widest_from, length-fold-narrowed}
use Rattle.variation_model.proofs.LaterSupports.{support_at}
use Rattle.variation_model.proofs.CutLaws.{narrowed_IsNarrowed, of_three, less_of}

-- the greatest of a number and those of places on an axis
abbrev greatest_from : ℤ → ℕ → List (List F2Dot14) → ℤ
greatest_from high axis places = fold (λ h place. int_max h (spec.number_on axis place)) high places

abbrev least_from : ℤ → ℕ → List (List F2Dot14) → ℤ
least_from low axis places = fold (λ l place. int_min l (spec.number_on axis place)) low places

-- a number is that of a place
abbrev IsReached : ℕ → List (List F2Dot14) → ℤ → Type 0
IsReached axis places z = (i : ℕ) × (i < length places)
    × ((coordinate_on axis (place_at places i)).0 ≡ z)

at_most : (a b c : ℤ) → a ≤ℤ b → b ≤ℤ c → a ≤ℤ c
at_most a b c h k = omega (arith, ints)

not_above : (a b : ℤ) → a ≡ b → a ≤ℤ b
not_above a b e = omega (arith, ints)

tested : (a b : ℤ) → int_lt b a ≡ true → b ≤ℤ a
tested a b e = grind (arith, ints)

failed : (a b : ℤ) → int_lt b a ≡ false → a ≤ℤ b
failed a b e = grind (arith, ints)

max_left : (a b : ℤ) → a ≤ℤ int_max a b
max_left a b =
    cond_both (int_lt b a) a b (λ (z : ℤ). a ≤ℤ z) (λ _. not_above a a refl) (λ e. failed a b e)

max_right : (a b : ℤ) → b ≤ℤ int_max a b
max_right a b =
    cond_both (int_lt b a) a b (λ (z : ℤ). b ≤ℤ z) (λ e. tested a b e) (λ _. not_above b b refl)

max_of : (a b : ℤ) → (int_max a b ≡ a) ⊎ (int_max a b ≡ b)
max_of a b =
    cond_both (int_lt b a) a b (λ (z : ℤ). (z ≡ a) ⊎ (z ≡ b)) (λ _. inl refl) (λ _. inr refl)

min_left : (a b : ℤ) → int_min a b ≤ℤ a
min_left a b =
    cond_both (int_lt b a) b a (λ (z : ℤ). z ≤ℤ a) (λ e. tested a b e) (λ _. not_above a a refl)

min_right : (a b : ℤ) → int_min a b ≤ℤ b
min_right a b =
    cond_both (int_lt b a) b a (λ (z : ℤ). z ≤ℤ b) (λ _. not_above b b refl) (λ e. failed a b e)

min_of : (a b : ℤ) → (int_min a b ≡ a) ⊎ (int_min a b ≡ b)
min_of a b =
    cond_both (int_lt b a) b a (λ (z : ℤ). (z ≡ a) ⊎ (z ≡ b)) (λ _. inr refl) (λ _. inl refl)

greatest_start : (high : ℤ) (axis : ℕ) (places : List (List F2Dot14))
    → high ≤ℤ greatest_from high axis places
greatest_start high axis [] = not_above high high refl
greatest_start high axis (place ∷ places) =
    let n = spec.number_on axis place in
    at_most high (int_max high n) (greatest_from (int_max high n) axis places) (max_left high n)
    (greatest_start (int_max high n) axis places)

greatest_each : (high : ℤ) (axis : ℕ) (places : List (List F2Dot14)) (i : ℕ) → i < length places
    → (coordinate_on axis (place_at places i)).0 ≤ℤ greatest_from high axis places
greatest_each high axis [] i h = absurd (omega arith)
greatest_each high axis (place ∷ places) zero h =
    let n = spec.number_on axis place in
    at_most n (int_max high n) (greatest_from (int_max high n) axis places) (max_right high n)
    (greatest_start (int_max high n) axis places)
greatest_each high axis (place ∷ places) (suc i) h =
    greatest_each (int_max high (spec.number_on axis place)) axis places i (omega arith)

greatest_reached : (high : ℤ) (axis : ℕ) (places : List (List F2Dot14))
    → (greatest_from high axis places ≡ high)
    ⊎ IsReached axis places (greatest_from high axis places)
greatest_reached high axis [] = inl refl
greatest_reached high axis (place ∷ places) =
    let n = spec.number_on axis place in
    let first : 0 < length (place ∷ places) = omega arith in
    ⊎_elim
    (λ e. ⊎_elim (λ g. inl (e ∙ g)) (λ g. inr (0, first, sym (e ∙ g))) (max_of high n))
    (λ found. let later : suc found.0 < length (place ∷ places) = omega (arith, found.1) in
    inr (suc found.0, later, found.2))
    (greatest_reached (int_max high n) axis places)

least_start : (low : ℤ) (axis : ℕ) (places : List (List F2Dot14))
    → least_from low axis places ≤ℤ low
least_start low axis [] = not_above low low refl
least_start low axis (place ∷ places) =
    let n = spec.number_on axis place in
    at_most (least_from (int_min low n) axis places) (int_min low n) low
    (least_start (int_min low n) axis places) (min_left low n)

least_each : (low : ℤ) (axis : ℕ) (places : List (List F2Dot14)) (i : ℕ) → i < length places
    → least_from low axis places ≤ℤ (coordinate_on axis (place_at places i)).0
least_each low axis [] i h = absurd (omega arith)
least_each low axis (place ∷ places) zero h =
    let n = spec.number_on axis place in
    at_most (least_from (int_min low n) axis places) (int_min low n) n
    (least_start (int_min low n) axis places) (min_right low n)
least_each low axis (place ∷ places) (suc i) h =
    least_each (int_min low (spec.number_on axis place)) axis places i (omega arith)

least_reached : (low : ℤ) (axis : ℕ) (places : List (List F2Dot14))
    → (least_from low axis places ≡ low) ⊎ IsReached axis places (least_from low axis places)
least_reached low axis [] = inl refl
least_reached low axis (place ∷ places) =
    let n = spec.number_on axis place in
    let first : 0 < length (place ∷ places) = omega arith in
    ⊎_elim
    (λ e. ⊎_elim (λ g. inl (e ∙ g)) (λ g. inr (0, first, sym (e ∙ g))) (min_of low n))
    (λ found. let later : suc found.0 < length (place ∷ places) = omega (arith, found.1) in
    inr (suc found.0, later, found.2))
    (least_reached (int_min low n) axis places)

-- zero is the number of the zero place on each axis
zero_on : (n axis : ℕ) → (coordinate_on axis (replicate n zero_number)).0 ≡ pos 0
zero_on zero axis = refl
zero_on (suc n) zero = refl
zero_on (suc n) (suc axis) = zero_on n axis

zero_reached : (places : List (List F2Dot14)) (n axis : ℕ)
    → Contains places (replicate n zero_number) → IsReached axis places (pos 0)
zero_reached places n axis has =
    let zeros = replicate n zero_number in
    let is : place_at places has.0 ≡ zeros = get_or_default places has.0 [] zeros has.1 ∙ has.2 in
    (has.0, has.1, ap (λ (v : List F2Dot14). (coordinate_on axis v).0) is ∙ zero_on n axis)

pub greatest_is : (places : List (List F2Dot14)) (n axis : ℕ)
    → Contains places (replicate n zero_number)
    → IsGreatestOn axis places (spec.greatest places axis)
greatest_is places n axis has =
    record {
      none_above = λ i h. greatest_each (pos 0) axis places i h;
      reached =
          ⊎_elim (λ e. subst (λ (z : ℤ). IsReached axis places z) (sym e)
          (zero_reached places n axis has)) (λ r. r) (greatest_reached (pos 0) axis places);
    }

pub least_is : (places : List (List F2Dot14)) (n axis : ℕ)
    → Contains places (replicate n zero_number) → IsLeastOn axis places (spec.least places axis)
least_is places n axis has =
    record {
      none_below = λ i h. least_each (pos 0) axis places i h;
      reached =
          ⊎_elim (λ e. subst (λ (z : ℤ). IsReached axis places z) (sym e)
          (zero_reached places n axis has)) (λ r. r) (least_reached (pos 0) axis places);
    }

-- the widest region
not_both : (x y : ℤ) → x <ℤ y → y <ℤ x → ⊥
not_both x y h k = omega (arith, ints)

not_alike : (x y : ℤ) → x <ℤ y → x ≡ y → ⊥
not_alike x y h e = omega (arith, ints)

is_zero : (p : ℤ) → int_lt (pos 0) p ≡ false → int_lt p (pos 0) ≡ false → pos 0 ≡ p
is_zero p e f = grind (arith, ints)

widest_is : (places : List (List F2Dot14)) (n axis : ℕ) (peak : F2Dot14)
    → Contains places (replicate n zero_number)
    → IsWidestOn axis places peak (spec.widest_side (spec.least places axis) peak
    (spec.greatest places axis))
widest_is places n axis peak has =
    of_three (λ (s : Side). IsWidestOn axis places peak s) (int_lt (pos 0) peak.0)
    (int_lt peak.0 (pos 0)) (zero_number, peak, record { 0 = spec.greatest places axis })
    (record { 0 = spec.least places axis }, peak, zero_number)
    (zero_number, zero_number, zero_number)
    (λ e. let above : pos 0 <ℤ peak.0 = less_of (pos 0) peak.0 e in
    record {
      has_peak = refl;
      above = λ _. (refl, greatest_is places n axis has);
      below = λ h. absurd (not_both (pos 0) peak.0 above h);
      inactive = λ z. absurd (not_alike (pos 0) peak.0 above (sym z));
    })
    (λ e. let below : peak.0 <ℤ pos 0 = less_of peak.0 (pos 0) e in
    record {
      has_peak = refl;
      above = λ h. absurd (not_both (pos 0) peak.0 h below);
      below = λ _. (least_is places n axis has, refl);
      inactive = λ z. absurd (not_alike peak.0 (pos 0) below z);
    })
    (λ e f. let zero_peak : pos 0 ≡ peak.0 = is_zero peak.0 e f in
    record {
      has_peak = zero_peak;
      above = λ h. absurd (not_alike (pos 0) peak.0 h zero_peak);
      below = λ h. absurd (not_alike peak.0 (pos 0) h (sym zero_peak));
      inactive = λ _. (refl, refl);
    })

abbrev pub widest_at : List (List F2Dot14) → ℕ → F2Dot14 → Side
widest_at places axis peak = spec.widest_side (spec.least places axis) peak
    (spec.greatest places axis)

pub widest_on : (places : List (List F2Dot14)) (from : ℕ) (place : List F2Dot14) (axis : ℕ)
    → axis < length place → side_on axis (spec.widest_from places from place)
    ≡ widest_at places (from + axis) (coordinate_on axis place)
widest_on places from [] axis h = absurd (omega arith)
widest_on places from (peak ∷ peaks) zero h =
    let same : from ≡ from + 0 = omega arith in
    ap (λ (a : ℕ). widest_at places a peak) same
widest_on places from (peak ∷ peaks) (suc axis) h =
    let same : (from + 1) + axis ≡ from + suc axis = omega arith in
    widest_on places (from + 1) peaks axis (omega arith)
    ∙ ap (λ (a : ℕ). widest_at places a (coordinate_on axis peaks)) same

widest_IsWidest : (places : List (List F2Dot14)) (n : ℕ) (place : List F2Dot14)
    → Contains places (replicate n zero_number)
    → IsWidest places place (spec.widest_from places 0 place)
widest_IsWidest places n place has =
    record {
      as_many = length-widest_from places 0 place;
      each =
          λ axis h. let peak = coordinate_on axis place in
          let same : 0 + axis ≡ axis = omega arith in
          let is : side_on axis (spec.widest_from places 0 place) ≡ widest_at places axis peak =
          widest_on places 0 place axis h ∙ ap (λ (a : ℕ). widest_at places a peak) same in
          subst (λ (s : Side). IsWidestOn axis places peak s) (sym is)
          (widest_is places n axis peak has);
    }

-- what each earlier place leaves
fold_IsSupport : (places : List (List F2Dot14)) (n : ℕ) (earlier : List (List F2Dot14))
    (place : List F2Dot14) → Contains places (replicate n zero_number)
    → EachIndex earlier (λ k. length (place_at earlier k) ≡ length place)
    → IsSupport places earlier place ((spec.support places earlier place).sides)
fold_IsSupport places n earlier place has fits =
    let widest = spec.widest_from places 0 place in
    record {
      after = λ k. fold spec.narrowed widest (take k earlier);
      first = widest_IsWidest places n place has;
      each =
          λ k h. let before = fold spec.narrowed widest (take k earlier) in
          let other = place_at earlier k in
          let long : length before ≡ length other =
          length-fold-narrowed widest (take k earlier) ∙ length-widest_from places 0 place
          ∙ sym (fits k h) in
          let is : fold spec.narrowed widest (take (k + 1) earlier) ≡ spec.narrowed before other =
          fold_more spec.narrowed widest earlier k [] h in
          subst (λ (s : List Side). IsNarrowed before other s) (sym is)
          (narrowed_IsNarrowed before other long);
      last = ap (λ (l : List (List F2Dot14)). fold spec.narrowed widest l)
          (take_all (length earlier) earlier (omega arith));
    }

-- each place's earlier ones have a coordinate for each of its own
pub earlier_fit : (places : List (List F2Dot14)) (k : ℕ)
    → EachIndex places (λ i. length (place_at places i) ≡ axis_count places) → k < length places
    → EachIndex (take k (ordered places)) (λ j. length (place_at (take k (ordered places)) j)
    ≡ length (place_at (ordered places) k))
earlier_fit places k one_length h j l =
    let in_order = ordered places in
    let as_many : length in_order ≡ length places = length-map (order_of places) (place_at places)
    ∙ length-order_of places in
    let before : j < k = omega (arith, length-take-le k in_order) in
    ap length (get_or-take k in_order j [] before)
    ∙ ordered_length places one_length j (omega arith)
    ∙ sym (ordered_length places one_length k (omega arith))

pub support_in_order : (places : List (List F2Dot14)) (k : ℕ) → k < length places
    → region_at (spec.supports_of places) k
    ≡ spec.support places (take k (ordered places)) (place_at (ordered places) k)
unfolding spec.supports_of
support_in_order places k h =
    let as_many : length (ordered places) ≡ length places
    = length-map (order_of places) (place_at places) ∙ length-order_of places in
    support_at places [] (ordered places) k (omega arith)

pub earlier_places_cut : (places : List (List F2Dot14))
    → EachIndex places (λ i. length (place_at places i) ≡ axis_count places)
    → Contains places (replicate (axis_count places) zero_number) → EarlierPlacesCut places
earlier_places_cut places one_length has_zero k h =
    let earlier = take k (ordered places) in
    let place = place_at (ordered places) k in
    subst (λ (r : Region). IsSupport places earlier place r.sides)
    (sym (support_in_order places k h))
    (fold_IsSupport places (axis_count places) earlier place has_zero
    (earlier_fit places k one_length h))
