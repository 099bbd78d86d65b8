-- The loop that makes all supports, and what they have in common.
use Rattle.std.proofs.Common.{◌≡◌, ℕ, zero, suc, ◌+◌, ◌<◌, ◌≤◌, List, [], ◌∷◌, ◌++◌, refl, sym, ap}
use Rattle.std.proofs.Common.{◌∙◌, arith, length, get_or, map, take, drop, append_assoc, append-nil}
use Rattle.std.proofs.lemmas.List.{get_or_default, take_more, map-append, drop_all}
use Rattle.std.specs.Prelude.{EachIndex}
use Rattle.fixed_math.specs.declared.F2Dot14.{F2Dot14}
use Rattle.font_ir.specs.declared.variation.Region.{Region}
use Rattle.variation_model.specs.Places.{place_at}
use Rattle.variation_model.specs.Supports as spec
use Rattle.variation_model.specs.Deltas.{region_at}
use Rattle.variation_model.proofs.Steps.{step_one}
use Rattle.variation_model.proofs.SupportLengths.{length-support}

-- the supports so far and those to come
abbrev pub to_come : List (List F2Dot14) → List ℕ → ℕ → List Region
to_come places order i =
    spec.supports_after places (map (place_at places) (take i order))
    (map (place_at places) (drop i order))

pub supports_more : (places : List (List F2Dot14)) (order : List ℕ) (i : ℕ)
    (item slice : List F2Dot14) (earlier : List ℕ) (region : Region) (done next total : List Region)
    → i < length order → get_or order i 0 < length places
    → item ≡ get_or places (get_or order i 0) item → slice ≡ item → earlier ≡ take i order
    → region ≡ spec.support places (map (place_at places) earlier) slice
    → done ++ to_come places order i ≡ total → next ≡ done ++ region ∷ []
    → next ++ to_come places order (i + 1) ≡ total
supports_more places order i item slice earlier region done next total h k at at_slice from made f g
    =
    let p = place_at places (get_or order i 0) in
    let before = map (place_at places) (take i order) in
    let rest = map (place_at places) (drop (i + 1) order) in
    let is_place : slice ≡ p = at_slice ∙ at ∙ get_or_default places (get_or order i 0) item [] k in
    let own : region ≡ spec.support places before p =
    made ∙ ap (λ (e : List ℕ). spec.support places (map (place_at places) e) slice) from
    ∙ ap (λ (v : List F2Dot14). spec.support places before v) is_place in
    let later : before ++ p ∷ [] ≡ map (place_at places) (take (i + 1) order) =
    sym (map-append (place_at places) (take i order) (get_or order i 0 ∷ []))
    ∙ ap (map (place_at places)) (sym (take_more order i 0 h)) in
    let opened : done ++ (spec.support places before p
    ∷ spec.supports_after places (before ++ p ∷ []) rest) ≡ total =
    sym (ap (λ (l : List Region). done ++ l)
    (step_one (λ (l : List ℕ). spec.supports_after places before (map (place_at places) l))
    order i 0 h)) ∙ f in
    let placed : done ++ (region ∷ to_come places order (i + 1)) ≡ total =
    ap (λ (r : Region). done ++ (r ∷ to_come places order (i + 1))) own
    ∙ ap (λ (e : List (List F2Dot14)). done
    ++ (spec.support places before p ∷ spec.supports_after places e rest)) (sym later) ∙ opened
    in
    ap (λ (l : List Region). l ++ to_come places order (i + 1)) g
    ∙ append_assoc done (region ∷ []) (to_come places order (i + 1)) ∙ placed

pub supports_all : (places : List (List F2Dot14)) (order : List ℕ) (i : ℕ)
    (done total : List Region) → length order ≤ i → done ++ to_come places order i ≡ total
    → done ≡ total
supports_all places order i done total h f =
    let none : to_come places order i ≡ [] =
    ap (λ (l : List ℕ). spec.supports_after places (map (place_at places) (take i order))
    (map (place_at places) l)) (drop_all i order h) in
    sym (append-nil done) ∙ ap (λ (l : List Region). done ++ l) (sym none) ∙ f

-- there is one support for each place
pub length-supports_after : (places earlier rest : List (List F2Dot14))
    → length (spec.supports_after places earlier rest) ≡ length rest
length-supports_after places earlier [] = refl
length-supports_after places earlier (place ∷ rest)
    = omega (arith, length-supports_after places (earlier ++ place ∷ []) rest)

-- each with a side for each coordinate of its place
pub sides-supports_after : (places earlier rest : List (List F2Dot14)) (n i : ℕ)
    → EachIndex rest (λ k. length (place_at rest k) ≡ n) → i < length rest
    → length ((region_at (spec.supports_after places earlier rest) i).sides) ≡ n
sides-supports_after places earlier [] n i f h = absurd (omega arith)
sides-supports_after places earlier (place ∷ rest) n zero f h =
    let first : 0 < length (place ∷ rest) = omega arith in
    length-support places earlier place ∙ f 0 first
sides-supports_after places earlier (place ∷ rest) n (suc i) f h =
    sides-supports_after places (earlier ++ place ∷ []) rest n i
    (λ k l. let next : suc k < length (place ∷ rest) = omega arith in f (suc k) next) (omega arith)
