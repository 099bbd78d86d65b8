-- What is known of a glyph's bases: what they are at a number, that they have the same points at
-- each place, and that what is made of them is ready.
use Rattle.std.proofs.Common.{◌≡◌, ℕ, zero, suc, ◌+◌, ◌<◌, Bool, true, false, List, [], ◌∷◌}
use Rattle.std.proofs.Common.{◌++◌, length, get_or, map, drop, Option, Some, None, refl, sym, ap}
use Rattle.std.proofs.Common.{◌∙◌, subst, arith, append_assoc}
use Rattle.std.proofs.lemmas.Bool.{le-leb}
use Rattle.std.proofs.lemmas.List.Folds.{list_all-append}
use Rattle.std.specs.Prelude.{ℤ, ◌&&◌, is_some, unsigned_abs, nat_le, pos, negsuc, neg_ℤ, ◌≤ℤ◌}
use Rattle.std.specs.Prelude.{◌-ℤ◌, if◌then◌else◌}
use Rattle.std.specs.Arc.{arc_value}
use Rattle.std.specs.declared.alloc.Global.{Global}
use Rattle.std.specs.declared.sync.Arc.{Arc}
use Rattle.std.specs.List.{All, AllByRecursion, list_all}
use Rattle.std.proofs.lemmas.Int.{ints}
use Rattle.std.proofs.lemmas.List.{length-map, get_or-map, get_or_default, drop_more, drop-drop}
use Rattle.std.proofs.lemmas.List.Elements.{All-from_recursion}
use Rattle.std.proofs.lemmas.List.FromFn.{length-map-range_with_len}
use Rattle.std.proofs.lemmas.List.Sums.{AllPass-from_list_all, list_all-from_AllPass}
use Rattle.fixed_math.specs.FixedPoint.{half_up}
use Rattle.fixed_math.specs.declared.Fixed.{Fixed}
use Rattle.fixed_math.specs.declared.F2Dot14.{F2Dot14}
use Rattle.font_ir.specs.declared.glyph.DrawnPoint.{DrawnPoint}
use Rattle.font_ir.specs.declared.glyph.Contour.{Contour}
use Rattle.font_ir.specs.declared.glyph.Shape.TheVariants.{Path, Component}
use Rattle.font_ir.specs.declared.glyph.FlatGlyph.{FlatGlyph}
use Rattle.font_ir.specs.declared.variation.Region.{Region}
use Rattle.font_ir.specs.FlatGlyphs.{shape_of, point_count, IsFlatGlyph, IsSmallPoint, glyphs_of}
use Rattle.variation_model.specs.Places.{order_of, ordered, place_at}
use Rattle.variation_model.specs.Supports.{supports_of}
use Rattle.variation_model.specs.Deltas.{deltas_of, deltas_after, value_of, value_at_place}
use Rattle.variation_model.specs.Deltas.{is_storable, first_large}
use Rattle.component_flatten.specs.declared.between.ContourDeltas.{ContourDeltas}
use Rattle.component_flatten.specs.declared.between.Between.{Between}
use Rattle.component_flatten.specs.Numbered.{numbered}
use Rattle.component_flatten.specs.Places.{contour_in, first_drawn, number_of, glyph_deltas}
use Rattle.component_flatten.specs.Places.{contour_deltas, point_deltas, has_places}
use Rattle.component_flatten.specs.Drawing.{shape_drawn, component_drawn}
use Rattle.component_flatten.specs.Drawing.{first_base_drawn, shapes_drawn, bases_after, names_of}
use Rattle.component_flatten.specs.Flattening.{is_small, is_small_point, has_small_points}
use Rattle.component_flatten.specs.Flattening.{are_small}
use Rattle.component_flatten.specs.Judging.{HasPoint, HasDelta, HasDeltas, IsReady, AreReady}
use Rattle.component_flatten.specs.Judging.{between_of, bases_taken, points_of, shape_points}
use Rattle.component_flatten.specs.Judging.{first_base_points}
use Rattle.component_flatten.specs.declared.transform.Transform.{Transform}
use Rattle.font_ir.specs.declared.glyph.Shape.{Shape}
use Rattle.component_flatten.proofs.ShapeLaws.{on_of, shape_own}

-- ---- bases that are shared

pub base_is : (bases : List (Arc FlatGlyph Global)) (n : ℕ) (shared : Arc FlatGlyph Global)
    (base : FlatGlyph) → n < length bases → shared ≡ get_or bases n shared
    → base ≡ arc_value shared → base ≡ get_or (glyphs_of bases) n base
base_is bases n shared base lt e value =
    value ∙ ap arc_value e ∙ sym (get_or-map arc_value bases n shared base lt)

pub of_base : (P : FlatGlyph → Type 0) (bases : List (Arc FlatGlyph Global)) (n : ℕ)
    (shared : Arc FlatGlyph Global) (base : FlatGlyph) → All P (glyphs_of bases)
    → n < length bases → shared ≡ get_or bases n shared → base ≡ arc_value shared → P base
of_base P bases n shared base h lt e value =
    subst P (sym (base_is bases n shared base lt e value))
    (h n base (omega (arith, length-map bases arc_value)))

-- ---- the same points at each place

same_point : (a b : List Contour) (c j : ℕ) → shape_of a ≡ shape_of b → c < length b
    → j < length (contour_in b c).points → HasPoint c j a
same_point a [] c j e lt h = absurd (omega (arith, lt))
same_point [] (y ∷ b) c j e lt h = absurd cc
same_point (x ∷ a) (y ∷ b) zero j e lt h =
    let on : on_of x ≡ on_of y = cc in
    let there : j < length y.points = h in
    let first = length-map x.points (λ point. point.on) in
    let second = length-map y.points (λ point. point.on) in
    (omega arith, omega (arith, there, first, second, ap (λ (l : List Bool). length l) on))
same_point (x ∷ a) (y ∷ b) (suc c) j e lt h =
    let rest : shape_of a ≡ shape_of b = cc in
    let behind = same_point a b c j rest (omega (arith, lt)) h in
    (omega (arith, behind.0), behind.1)

pub has_points : (base : FlatGlyph) (c j : ℕ) → IsFlatGlyph base → c < length (first_drawn base)
    → j < length (contour_in (first_drawn base) c).points → All (HasPoint c j) base.drawn
has_points base c j flat lt h = λ k d within.
    same_point (get_or base.drawn k d) (first_drawn base) c j
    (ap (λ (contours : List Contour). shape_of contours) (get_or_default base.drawn k d [] within)
    ∙ shape_own base flat k within) lt h

-- ---- numbers of deltas

length-deltas_after : (regions : List Region) (earlier : List ℤ) (places : List (List F2Dot14))
    (values : List ℤ) → length values ≡ length places
    → length (deltas_after regions earlier places values) ≡ length places
length-deltas_after regions earlier [] values e = refl
length-deltas_after regions earlier (place ∷ places) [] e = absurd (omega (arith, e))
length-deltas_after regions earlier (place ∷ places) (value ∷ values) e =
    let delta = half_up (value -ℤ value_of regions earlier place) in
    let rest : length values ≡ length places = omega (arith, e) in
    omega (arith, length-deltas_after regions (earlier ++ delta ∷ []) places values rest)

length-order : (places : List (List F2Dot14)) → length (order_of places) ≡ length places
unfolding order_of
length-order places = length-map-range_with_len _ 0 (length places)

length-deltas_of : (places : List (List F2Dot14)) (values : List Fixed)
    → length (deltas_of places values) ≡ length places
unfolding deltas_of
length-deltas_of places values =
    let order = order_of places in
    let many : length (map (value_at_place values) order) ≡ length (ordered places) =
    length-map order (value_at_place values) ∙ sym (length-map order (place_at places)) in
    length-deltas_after (supports_of places) [] (ordered places) (map (value_at_place values) order)
    many ∙ length-map order (place_at places) ∙ length-order places

points_have : (base : FlatGlyph) (c j : ℕ) (points : List DrawnPoint)
    → AllByRecursion (HasDelta base.places) (numbered (point_deltas base c) j points)
points_have base c j [] = tt
points_have base c j (point ∷ points) = (
  (length-deltas_of base.places _, length-deltas_of base.places _),
  points_have base c (j + 1) points,
)

contours_have : (base : FlatGlyph) (c : ℕ) (contours : List Contour)
    → AllByRecursion (HasDeltas base.places) (numbered (contour_deltas base) c contours)
contours_have base c [] = tt
contours_have base c (contour ∷ contours) = (
  All-from_recursion (HasDelta base.places) (numbered (point_deltas base c) 0 contour.points)
      (points_have base c 0 contour.points),
  contours_have base (c + 1) contours,
)

ready_deltas : (at : List F2Dot14) (base : FlatGlyph) (made : Option Between) (b : Between)
    → IsReady at base made → made ≡ Some b → IsReady at base (Some b)
ready_deltas at base made b ready e =
    subst (λ (m : Option Between). IsReady at base m) e ready

pub has_deltas : (at : List F2Dot14) (base : FlatGlyph) (made : Option Between) (b : Between)
    → IsReady at base made → made ≡ Some b → All (HasDeltas b.model) b.contours
has_deltas at base made b ready e =
    let parts = ready_deltas at base made b ready e in
    subst (λ (contours : List ContourDeltas). All (HasDeltas b.model) contours) (sym parts.1)
    (subst (λ (model : List (List F2Dot14)). All (HasDeltas model) (glyph_deltas base))
    (sym parts.0) (All-from_recursion (HasDeltas base.places) (glyph_deltas base)
    (contours_have base 0 (first_drawn base))))

-- ---- deltas that can be stored

storable_step : (b : Bool) (at : ℕ) (delta : ℤ) (rest : Option (ℕ × ℤ)) (all : Bool)
    → (rest ≡ None → all ≡ true) → (if b then rest else Some (at, delta)) ≡ None
    → (b && all) ≡ true
storable_step true at delta rest all h e = h e
storable_step false at delta rest all h e = absurd cc

pub storable_all : (at : ℕ) (deltas : List ℤ) → first_large at deltas ≡ None
    → list_all is_storable deltas ≡ true
storable_all at [] e = refl
storable_all at (delta ∷ deltas) e =
    storable_step (is_storable delta) at delta (first_large (at + 1) deltas)
    (list_all is_storable deltas) (λ f. storable_all (at + 1) deltas f) e

-- ---- what is ready

ready_of : (at : List F2Dot14) (places : List (List F2Dot14)) (base : FlatGlyph) (b : Bool)
    → has_places places base ≡ b → (b ≡ true → is_some (number_of base at) ≡ true)
    → IsReady at base (if b then None else Some (record {
      model = base.places;
      contours = glyph_deltas base;
    }))
ready_of at places base true e has = has refl
ready_of at places base false e has = (refl, refl)

pub base_ready : (places : List (List F2Dot14)) (i : ℕ) (base : FlatGlyph) → i < length places
    → IsReady (place_at places i) base (between_of places base)
base_ready places i base lt = ready_of (place_at places i) places base (has_places places base) refl
    (λ e. AllPass-from_list_all (λ at. is_some (number_of base at)) places e i [] lt)

pub all_ready : (places : List (List F2Dot14)) (i : ℕ) (bases : List FlatGlyph)
    → i < length places → AreReady (place_at places i) bases (map (between_of places) bases)
all_ready places i bases lt = record {
  as_many = length-map bases (between_of places);
  each = λ n base within. subst (λ (m : Option Between). IsReady (place_at places i)
      (get_or bases n base) m) (sym (get_or-map (between_of places) bases n base None within))
      (base_ready places i (get_or bases n base) lt);
}

pub ready_at : (at : List F2Dot14) (bases : List FlatGlyph) (made : List (Option Between)) (n : ℕ)
    (base : FlatGlyph) (one : Option Between) → AreReady at bases made → n < length bases
    → base ≡ get_or bases n base → one ≡ get_or made n None → IsReady at base one
ready_at at bases made n base one ready lt same own =
    subst (λ (b : FlatGlyph). IsReady at b one) (sym same)
    (subst (λ (m : Option Between). IsReady at (get_or bases n base) m)
    (sym own) (ready.each n base lt))

-- ---- a shape

pub component_is : (at : List F2Dot14) (bases : List FlatGlyph) (n : ℕ) (base : FlatGlyph)
    (transform : Transform) → n < length bases → base ≡ get_or bases n base
    → first_base_drawn at transform (drop n bases) ≡ component_drawn at transform base
component_is at bases n base transform lt e =
    ap (λ (rest : List FlatGlyph). first_base_drawn at transform rest) (drop_more bases n base lt)
    ∙ ap (λ (b : FlatGlyph). component_drawn at transform b) (sym e)

pub points_are : (bases : List FlatGlyph) (n : ℕ) (base : FlatGlyph) → n < length bases
    → base ≡ get_or bases n base
    → first_base_points (drop n bases) ≡ point_count (first_drawn base)
points_are bases n base lt e =
    ap (λ (rest : List FlatGlyph). first_base_points rest) (drop_more bases n base lt)
    ∙ ap (λ (b : FlatGlyph). point_count (first_drawn b)) (sym e)

small_from : (z : ℤ) (m : ℕ) → neg_ℤ (pos m) ≤ℤ z → z ≤ℤ pos m → nat_le (unsigned_abs z) m ≡ true
small_from (pos n) m low high = le-leb n m (omega (arith, ints))
small_from (negsuc n) m low high = le-leb (suc n) m (omega (arith, ints))

true_both : (a b : Bool) → a ≡ true → b ≡ true → (a && b) ≡ true
true_both true b e f = f
true_both false b e f = e

point_small : (point : DrawnPoint) → IsSmallPoint point → is_small_point point ≡ true
point_small point h = true_both (is_small point.x) (is_small point.y)
    (small_from point.x.0 1073676288 h.0.0 h.0.1) (small_from point.y.0 1073676288 h.1.0 h.1.1)

pub path_small : (contour : Contour) → All IsSmallPoint contour.points
    → are_small (contour ∷ []) ≡ true
path_small contour h = true_both (has_small_points contour) true
    (list_all-from_AllPass is_small_point contour.points
    (λ k d within. point_small (get_or contour.points k d) (h k d within))) refl

-- ---- shapes, one by one

after_is : (shape : Shape) (bases : List FlatGlyph) (n m : ℕ) → m ≡ n + bases_taken shape
    → bases_after shape (drop n bases) ≡ drop m bases
after_is (Path contour) bases n m e =
    let same : n ≡ m = omega (arith, e) in ap (λ k. drop k bases) same
after_is (Component base at scale quarters) bases n m e =
    let same : n + 1 ≡ m = omega (arith, e) in drop-drop-as bases n m same
  where
    drop-drop-as : (bs : List FlatGlyph) (k l : ℕ) → k + 1 ≡ l → drop 1 (drop k bs) ≡ drop l bs
    drop-drop-as bs k l f = drop-drop 1 k bs ∙ ap (λ j. drop j bs) f

pub shapes_left : (at : List F2Dot14) (bases : List FlatGlyph) (shapes : List Shape) (i n m : ℕ)
    (shape : Shape) → i < length shapes → shape ≡ get_or shapes i shape
    → m ≡ n + bases_taken shape → shapes_drawn at (drop n bases) (drop i shapes)
    ≡ shape_drawn at (drop n bases) shape ++ shapes_drawn at (drop m bases) (drop (i + 1) shapes)
shapes_left at bases shapes i n m shape lt e next =
    ap (λ (rest : List Shape). shapes_drawn at (drop n bases) rest) (drop_more shapes i shape lt)
    ∙ ap (λ (s : Shape). shapes_drawn at (drop n bases) (s ∷ drop (i + 1) shapes)) (sym e)
    ∙ ap (λ (bs : List FlatGlyph). shape_drawn at (drop n bases) shape
    ++ shapes_drawn at bs (drop (i + 1) shapes)) (after_is shape bases n m next)

pub points_left : (bases : List FlatGlyph) (shapes : List Shape) (i n m : ℕ) (shape : Shape)
    → i < length shapes → shape ≡ get_or shapes i shape → m ≡ n + bases_taken shape
    → points_of (drop n bases) (drop i shapes)
    ≡ shape_points (drop n bases) shape + points_of (drop m bases) (drop (i + 1) shapes)
points_left bases shapes i n m shape lt e next =
    ap (λ (rest : List Shape). points_of (drop n bases) rest) (drop_more shapes i shape lt)
    ∙ ap (λ (s : Shape). points_of (drop n bases) (s ∷ drop (i + 1) shapes)) (sym e)
    ∙ ap (λ (bs : List FlatGlyph). shape_points (drop n bases) shape
    + points_of bs (drop (i + 1) shapes)) (after_is shape bases n m next)

names_first : (shape : Shape) (shapes : List Shape)
    → length (names_of (shape ∷ shapes)) ≡ bases_taken shape + length (names_of shapes)
names_first (Path contour) shapes = omega arith
names_first (Component base at scale quarters) shapes = omega arith

pub names_left : (shapes : List Shape) (i : ℕ) (shape : Shape) → i < length shapes
    → shape ≡ get_or shapes i shape → length (names_of (drop i shapes))
    ≡ bases_taken shape + length (names_of (drop (i + 1) shapes))
names_left shapes i shape lt e =
    ap (λ (rest : List Shape). length (names_of rest)) (drop_more shapes i shape lt)
    ∙ ap (λ (s : Shape). length (names_of (s ∷ drop (i + 1) shapes))) (sym e)
    ∙ names_first shape (drop (i + 1) shapes)

pub shapes_turn : (acc next drawn left rest all : List Contour) → next ≡ acc ++ drawn
    → left ≡ drawn ++ rest → acc ++ left ≡ all → next ++ rest ≡ all
shapes_turn acc next drawn left rest all added parts h =
    ap (λ (n : List Contour). n ++ rest) added ∙ append_assoc acc drawn rest
    ∙ ap (λ (n : List Contour). acc ++ n) (sym parts) ∙ h

first_passes : (a b all : Bool) → a ≡ true → (a && b) ≡ all → b ≡ all
first_passes true b all e h = h
first_passes false b all e h = absurd cc

pub shapes_kept : (drawn left rest : List Contour) (all : Bool) → are_small drawn ≡ true
    → left ≡ drawn ++ rest → are_small left ≡ all → are_small rest ≡ all
shapes_kept drawn left rest all small parts h =
    first_passes (are_small drawn) (are_small rest) all small
    (sym (list_all-append has_small_points drawn rest)
    ∙ ap (λ (n : List Contour). are_small n) (sym parts) ∙ h)
