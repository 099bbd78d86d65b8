-- Every region has a side per axis, and the loop over the earlier places keeps the fold.
use Rattle.std.proofs.Common.{◌≡◌, ℕ, ◌+◌, ◌<◌, Bool, true, false, cond, List, [], ◌∷◌, refl, sym}
use Rattle.std.proofs.Common.{ap, ◌∙◌, arith, length, get_or, map, take}
use Rattle.std.proofs.lemmas.List.{get_or-map, length-map, get_or_default}
use Rattle.std.proofs.lemmas.List.Sums.{fold_more}
use Rattle.std.specs.Prelude.{EachIndex}
use Rattle.std.specs.List.{fold}
use Rattle.fixed_math.specs.declared.F2Dot14.{F2Dot14}
use Rattle.variation_model.specs.Places.{place_at, axis_count}
use Rattle.variation_model.specs.Supports as spec

pub length-widest_from : (places : List (List F2Dot14)) (axis : ℕ) (place : List F2Dot14)
    → length (spec.widest_from places axis place) ≡ length place
length-widest_from places axis [] = refl
length-widest_from places axis (v ∷ vs) = omega (arith, length-widest_from places (axis + 1) vs)

pub length-cut_largest : (largest : ℕ × ℕ) (sides : List (F2Dot14 × F2Dot14 × F2Dot14))
    (place : List F2Dot14) → length (spec.cut_largest largest sides place) ≡ length sides
length-cut_largest largest [] vs = refl
length-cut_largest largest (side ∷ sides) [] = refl
length-cut_largest largest (side ∷ sides) (v ∷ vs)
    = omega (arith, length-cut_largest largest sides vs)

length-cond : (b : Bool) (xs ys : List (F2Dot14 × F2Dot14 × F2Dot14)) (n : ℕ) → length xs ≡ n
    → length ys ≡ n → length (cond b xs ys) ≡ n
length-cond true xs ys n e g = e
length-cond false xs ys n e g = g

pub length-narrowed : (sides : List (F2Dot14 × F2Dot14 × F2Dot14)) (place : List F2Dot14)
    → length (spec.narrowed sides place) ≡ length sides
length-narrowed sides place =
    length-cond (spec.all_inside sides place)
    (spec.cut_largest (spec.largest_ratio sides place) sides place) sides (length sides)
    (length-cut_largest (spec.largest_ratio sides place) sides place) refl

pub length-fold-narrowed : (sides : List (F2Dot14 × F2Dot14 × F2Dot14))
    (earlier : List (List F2Dot14)) → length (fold spec.narrowed sides earlier) ≡ length sides
length-fold-narrowed sides [] = refl
length-fold-narrowed sides (place ∷ rest) = length-fold-narrowed (spec.narrowed sides place) rest
    ∙ length-narrowed sides place

pub length-support : (places earlier : List (List F2Dot14)) (place : List F2Dot14)
    → length ((spec.support places earlier place).sides) ≡ length place
length-support places earlier place =
    length-fold-narrowed (spec.widest_from places 0 place) earlier
    ∙ length-widest_from places 0 place

-- the next earlier place has a coordinate for each side so far
pub narrow_fits : (places : List (List F2Dot14)) (place : List F2Dot14)
    (sides : List (F2Dot14 × F2Dot14 × F2Dot14)) (done : List (List F2Dot14)) (j : ℕ)
    (item : List F2Dot14) → sides ≡ fold spec.narrowed (spec.widest_from places 0 place) done
    → length place ≡ axis_count places → EachIndex places
    (λ i. length (place_at places i) ≡ axis_count places) → j < length places
    → item ≡ get_or places j item → length sides ≡ length item
narrow_fits places place sides done j item e same one_length h at =
    ap length e ∙ length-fold-narrowed (spec.widest_from places 0 place) done
    ∙ length-widest_from places 0 place ∙ same ∙ sym (one_length j h)
    ∙ ap length (get_or_default places j [] item h) ∙ sym (ap length at)

-- one more earlier place
pub fold_next : (places : List (List F2Dot14)) (sides : List (F2Dot14 × F2Dot14 × F2Dot14))
    (positions : List ℕ) (i : ℕ) (item : List F2Dot14) → i < length positions
    → get_or positions i 0 < length places → item ≡ get_or places (get_or positions i 0) item
    → fold spec.narrowed sides (take (i + 1) (map (place_at places) positions))
    ≡ spec.narrowed (fold spec.narrowed sides (take i (map (place_at places) positions))) item
fold_next places sides positions i item h k at =
    let mapped = map (place_at places) positions in
    let within : i < length mapped = omega (arith, length-map positions (place_at places)) in
    let is_item : get_or mapped i [] ≡ item =
    get_or-map (place_at places) positions i 0 [] h
    ∙ get_or_default places (get_or positions i 0) [] item k ∙ sym at in
    fold_more spec.narrowed sides mapped i [] within
    ∙ ap (λ v. spec.narrowed (fold spec.narrowed sides (take i mapped)) v) is_item
