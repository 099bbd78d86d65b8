-- Bases that draw the same, and what is made of them once.
use Rattle.std.proofs.Common.{◌≡◌, ℕ, ◌+◌, ◌<◌, Bool, true, false, List, [], ◌∷◌, ◌++◌, length}
use Rattle.std.proofs.Common.{get_or, map, take, drop, Option, Some, None, refl, sym, ap, ◌∙◌}
use Rattle.std.proofs.Common.{arith, zero, suc}
use Rattle.std.specs.Prelude.{◌&&◌, slice_get, IfSome}
use Rattle.std.specs.Bool.{beq}
use Rattle.std.specs.Option.{option_and_then}
use Rattle.std.specs.Ordering.{int_eq}
use Rattle.std.specs.Cmp.{signed_Decides, booleans_Decides}
use Rattle.std.specs.Cmp.Lexicographic.{pointwise}
use Rattle.std.specs.List.{All, AllByRecursion, list_all}
use Rattle.std.proofs.lemmas.List.{map-append, length-map, get_or-map, length-take-le}
use Rattle.std.proofs.lemmas.List.{get_or-take, take-append-drop}
use Rattle.std.proofs.lemmas.List.Elements.{recursion_from_All}
use Rattle.std.proofs.lemmas.List.Folds.{list_all-append}
use Rattle.std.proofs.lemmas.List.Sums.{AllPass-from_list_all}
use Rattle.std.proofs.lemmas.Option.{slice_get-get_or}
use Rattle.std.proofs.Math.Seq.{take-suc}
use Rattle.fixed_math.specs.declared.Fixed.{Fixed}
use Rattle.fixed_math.specs.declared.F2Dot14.{F2Dot14}
use Rattle.font_ir.specs.declared.glyph.DrawnPoint.{DrawnPoint}
use Rattle.font_ir.specs.declared.glyph.Contour.{Contour}
use Rattle.font_ir.specs.declared.glyph.FlatGlyph.{FlatGlyph}
use Rattle.component_flatten.specs.declared.between.Between.{Between}
use Rattle.refusal_codes.specs.declared.rule.Rule.{Rule}
use Rattle.component_flatten.specs.declared.limits.LimitError.{LimitError}
use Rattle.component_flatten.specs.declared.limits.LimitError.TheVariants as limit_errors
use Rattle.component_flatten.specs.Judging.{between_of, has_no_large_deltas, BreaksRule}

-- ---- what is told equal is the same

both : (a b : Bool) → (a && b) ≡ true → (a ≡ true) × (b ≡ true)
both true b e = (refl, e)
both false b e = absurd cc

lists_same : {A : Type 0} (E : A → A → Bool) → ((a b : A) → E a b ≡ true → a ≡ b)
    → (xs ys : List A) → pointwise E xs ys ≡ true → xs ≡ ys
lists_same E h [] [] e = refl
lists_same E h [] (y ∷ ys) e = absurd cc
lists_same E h (x ∷ xs) [] e = absurd cc
lists_same E h (x ∷ xs) (y ∷ ys) e =
    let parts = both (E x y) (pointwise E xs ys) e in
    ap (λ first. first ∷ xs) (h x y parts.0)
    ∙ ap (λ rest. y ∷ rest) (lists_same E h xs ys parts.1)

number_same : (a b : F2Dot14) → int_eq a.0 b.0 ≡ true → a ≡ b
number_same a b e = ap (λ z. record { 0 = z }) ((signed_Decides a.0 b.0).0 e)

fixed_same : (a b : Fixed) → int_eq a.0 b.0 ≡ true → a ≡ b
fixed_same a b e = ap (λ z. record { 0 = z }) ((signed_Decides a.0 b.0).0 e)

point_same : (a b : DrawnPoint)
    → (int_eq a.x.0 b.x.0 && (int_eq a.y.0 b.y.0 && beq a.on b.on)) ≡ true → a ≡ b
point_same a b e =
    let first = both (int_eq a.x.0 b.x.0) (int_eq a.y.0 b.y.0 && beq a.on b.on) e in
    let rest = both (int_eq a.y.0 b.y.0) (beq a.on b.on) first.1 in
    ap (λ (x : Fixed). record { x = x; y = a.y; on = a.on }) (fixed_same a.x b.x first.0)
    ∙ ap (λ (y : Fixed). record { x = b.x; y = y; on = a.on }) (fixed_same a.y b.y rest.0)
    ∙ ap (λ (on : Bool). record { x = b.x; y = b.y; on = on })
    ((booleans_Decides a.on b.on).0 rest.1)

abbrev same_point : DrawnPoint → DrawnPoint → Bool
same_point a b = int_eq a.x.0 b.x.0 && (int_eq a.y.0 b.y.0 && beq a.on b.on)

contour_same : (a b : Contour) → pointwise same_point a.points b.points ≡ true → a ≡ b
contour_same a b e =
    ap (λ (points : List DrawnPoint). record { points = points })
    (lists_same same_point point_same a.points b.points e)

abbrev same_contour : Contour → Contour → Bool
same_contour a b = pointwise same_point a.points b.points

abbrev same_number : F2Dot14 → F2Dot14 → Bool
same_number a b = int_eq a.0 b.0

pub places_same : (a b : List (List F2Dot14)) → pointwise (pointwise same_number) a b ≡ true → a ≡ b
places_same a b e = lists_same (pointwise same_number) (lists_same same_number number_same) a b e

pub drawn_same : (a b : List (List Contour)) → pointwise (pointwise same_contour) a b ≡ true
    → a ≡ b
drawn_same a b e = lists_same (pointwise same_contour) (lists_same same_contour contour_same) a b e

-- ---- what is made depends on what a base draws

abbrev outline : List (List F2Dot14) → List (List Contour) → FlatGlyph
outline places drawn = record {
  number = 0;
  place = 0;
  places = places;
  widths = [];
  drawn = drawn;
  kept = [];
  anchors = [];
}

made_alike : (places : List (List F2Dot14)) (a b : FlatGlyph) → a.places ≡ b.places
    → a.drawn ≡ b.drawn → between_of places a ≡ between_of places b
made_alike places a b e f =
    ap (λ (p : List (List F2Dot14)). between_of places (outline p a.drawn)) e
    ∙ ap (λ (d : List (List Contour)). between_of places (outline b.places d)) f

storable_alike : (places : List (List F2Dot14)) (a b : FlatGlyph) → a.places ≡ b.places
    → a.drawn ≡ b.drawn → has_no_large_deltas places a ≡ has_no_large_deltas places b
storable_alike places a b e f =
    ap (λ (p : List (List F2Dot14)). has_no_large_deltas places (outline p a.drawn)) e
    ∙ ap (λ (d : List (List Contour)). has_no_large_deltas places (outline b.places d)) f

-- ---- a component with the base of an earlier one

abbrev blank : FlatGlyph
blank = outline [] []

field_same : {A : Type 0} (f : FlatGlyph → A) (bases : List FlatGlyph) (m n : ℕ)
    → m < length bases → n < length bases
    → slice_get (map f bases) m ≡ slice_get (map f bases) n
    → f (get_or bases m blank) ≡ f (get_or bases n blank)
field_same f bases m n lt within e =
    let first = slice_get-get_or (map f bases) m (f blank) (omega (arith, lt, length-mapped)) in
    let second = slice_get-get_or (map f bases) n (f blank)
    (omega (arith, within, length-mapped)) in
    sym (get_or-map f bases m blank (f blank) lt)
    ∙ some_same (sym first ∙ e ∙ second)
    ∙ get_or-map f bases n blank (f blank) within
  where
    length-mapped : length (map f bases) ≡ length bases
    length-mapped = length-map bases f

    some_same : {B : Type 0} {x y : B} → Some x ≡ Some y → x ≡ y
    some_same e = cc

next_taken : (bases : List FlatGlyph) (n : ℕ) → n < length bases
    → take (n + 1) bases ≡ take n bases ++ get_or bases n blank ∷ []
next_taken bases n lt =
    let next : n + 1 ≡ suc n = omega arith in
    ap (λ k. take k bases) next ∙ take-suc bases n blank lt

one_more : {A : Type 0} (f : FlatGlyph → A) (bases : List FlatGlyph) (n : ℕ) → n < length bases
    → map f (take (n + 1) bases) ≡ map f (take n bases) ++ f (get_or bases n blank) ∷ []
one_more f bases n lt =
    ap (λ (front : List FlatGlyph). map f front) (next_taken bases n lt)
    ∙ map-append f (take n bases) (get_or bases n blank ∷ [])

earlier_is : (bases : List FlatGlyph) (m n : ℕ) → m < n → n < length bases
    → get_or (take n bases) m blank ≡ get_or bases m blank
earlier_is bases m n lt within = get_or-take n bases m blank lt

pub again_made : (places : List (List F2Dot14)) (bases : List FlatGlyph) (m n : ℕ)
    (old new : List (Option Between)) → old ≡ map (between_of places) (take n bases) → m < n
    → n < length bases
    → slice_get (map (λ base. base.places) bases) m ≡ slice_get (map (λ base. base.places) bases) n
    → slice_get (map (λ base. base.drawn) bases) m ≡ slice_get (map (λ base. base.drawn) bases) n
    → new ≡ old ++ get_or old m None ∷ []
    → new ≡ map (between_of places) (take (n + 1) bases)
again_made places bases m n old new so_far lt within e f added =
    let first = field_same (λ base. base.places) bases m n (omega (arith, lt, within)) within e in
    let second = field_same (λ base. base.drawn) bases m n (omega (arith, lt, within)) within f in
    let many = length-take-le n bases (omega (arith, within)) in
    let there : m < length (take n bases) = omega (arith, lt, many) in
    let own : get_or (map (between_of places) (take n bases)) m None
    ≡ between_of places (get_or bases n blank) =
    get_or-map (between_of places) (take n bases) m blank None there
    ∙ ap (λ (base : FlatGlyph). between_of places base) (earlier_is bases m n lt within)
    ∙ made_alike places (get_or bases m blank) (get_or bases n blank) first second in
    added
    ∙ ap (λ (made : List (Option Between)). made ++ get_or made m None ∷ []) so_far
    ∙ ap (λ (one : Option Between). map (between_of places) (take n bases) ++ one ∷ []) own
    ∙ sym (one_more (between_of places) bases n within)

true_last : (a b : Bool) → a ≡ true → b ≡ true → (a && (b && true)) ≡ true
true_last true true e f = refl
true_last true false e f = absurd cc
true_last false b e f = absurd cc

pub again_storable : (places : List (List F2Dot14)) (bases : List FlatGlyph) (m n : ℕ)
    → list_all (has_no_large_deltas places) (take n bases) ≡ true → m < n → n < length bases
    → slice_get (map (λ base. base.places) bases) m ≡ slice_get (map (λ base. base.places) bases) n
    → slice_get (map (λ base. base.drawn) bases) m ≡ slice_get (map (λ base. base.drawn) bases) n
    → list_all (has_no_large_deltas places) (take (n + 1) bases) ≡ true
again_storable places bases m n all lt within e f =
    let first = field_same (λ base. base.places) bases m n (omega (arith, lt, within)) within e in
    let second = field_same (λ base. base.drawn) bases m n (omega (arith, lt, within)) within f in
    let many = length-take-le n bases (omega (arith, within)) in
    let there : m < length (take n bases) = omega (arith, lt, many) in
    let own : has_no_large_deltas places (get_or bases n blank) ≡ true =
    sym (storable_alike places (get_or bases m blank) (get_or bases n blank) first second)
    ∙ ap (λ (base : FlatGlyph). has_no_large_deltas places base)
    (sym (earlier_is bases m n lt within))
    ∙ AllPass-from_list_all (has_no_large_deltas places) (take n bases) all m blank there in
    ap (λ (front : List FlatGlyph). list_all (has_no_large_deltas places) front)
    (next_taken bases n within)
    ∙ list_all-append (has_no_large_deltas places) (take n bases) (get_or bases n blank ∷ [])
    ∙ true_last _ _ all own

-- ---- a rule that is broken among the first ones

false_first : (a b : Bool) → a ≡ false → (a && b) ≡ false
false_first false b e = refl
false_first true b e = absurd cc

pub breaks_all : (rule : Rule) (p : FlatGlyph → Bool) (n : ℕ) (bases : List FlatGlyph)
    (error : LimitError) → BreaksRule rule (list_all p (take n bases)) error
    → BreaksRule rule (list_all p bases) error
breaks_all rule p n bases (limit_errors.Broken r) h = (
  h.0,
  ap (λ (all : List FlatGlyph). list_all p all) (sym (take-append-drop n bases))
      ∙ list_all-append p (take n bases) (drop n bases) ∙ false_first _ _ h.1,
)
breaks_all rule p n bases limit_errors.NoMemory h = tt

-- ---- one more that is made

abbrev used_of : List Between → List (Option ℕ) → List (Option Between)
used_of made used = map (λ n. option_and_then (slice_get made) n) used

still_read : (made : List Between) (between : Between) (k : ℕ) → k < length made
    → slice_get (made ++ between ∷ []) k ≡ slice_get made k
still_read [] between k lt = absurd (omega (arith, lt))
still_read (b ∷ made) between zero lt = refl
still_read (b ∷ made) between (suc k) lt = still_read made between k (omega (arith, lt))

still_there : (made : List Between) (between : Between) (n : Option ℕ)
    → IfSome n (λ k. k < length made)
    → option_and_then (slice_get (made ++ between ∷ [])) n ≡ option_and_then (slice_get made) n
still_there made between None h = refl
still_there made between (Some k) h = still_read made between k h

still_used : (made : List Between) (between : Between) (used : List (Option ℕ))
    → AllByRecursion (λ n. IfSome n (λ k. k < length made)) used
    → used_of (made ++ between ∷ []) used ≡ used_of made used
still_used made between [] h = refl
still_used made between (n ∷ used) h =
    ap (λ (one : Option Between). one ∷ used_of (made ++ between ∷ []) used)
    (still_there made between n h.0)
    ∙ ap (λ (rest : List (Option Between)). option_and_then (slice_get made) n ∷ rest)
    (still_used made between used h.1)

last_made : (made : List Between) (between : Between)
    → slice_get (made ++ between ∷ []) (length made) ≡ Some between
last_made [] between = refl
last_made (b ∷ made) between = last_made made between

pub one_more_made : (made : List Between) (between : Between) (used : List (Option ℕ))
    → All (λ n. IfSome n (λ k. k < length made)) used
    → used_of (made ++ between ∷ []) (used ++ Some (length made) ∷ [])
    ≡ used_of made used ++ Some between ∷ []
one_more_made made between used h =
    map-append (λ n. option_and_then (slice_get (made ++ between ∷ [])) n) used
    (Some (length made) ∷ [])
    ∙ ap (λ (front : List (Option Between)). front
    ++ slice_get (made ++ between ∷ []) (length made) ∷ [])
    (still_used made between used
    (recursion_from_All (λ n. IfSome n (λ k. k < length made)) used h))
    ∙ ap (λ (one : Option Between). used_of made used ++ one ∷ []) (last_made made between)
