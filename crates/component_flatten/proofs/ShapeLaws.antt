-- Contours of one shape: a base has one at every place, and so has what a glyph draws.
use Rattle.std.proofs.Common.{◌≡◌, ℕ, zero, suc, ◌+◌, ◌<◌, Bool, List, [], ◌∷◌}
use Rattle.std.proofs.Common.{◌++◌, length, get_or, map, Option, Some, None, refl, sym, ap}
use Rattle.std.proofs.Common.{◌∙◌, subst, arith}
use Rattle.std.specs.List.{All, AllByRecursion, sum_by}
use Rattle.std.proofs.lemmas.List.{length-map}
use Rattle.std.proofs.lemmas.List.Elements.{recursion_from_All}
use Rattle.std.proofs.lemmas.List.Quantifiers.{position-Some}
use Rattle.std.proofs.lemmas.List.Sums.{sum_by-append, sum_by-cons}
use Rattle.fixed_math.specs.declared.F2Dot14.{F2Dot14}
use Rattle.font_ir.specs.declared.glyph.DrawnPoint.{DrawnPoint}
use Rattle.font_ir.specs.declared.glyph.Contour.{Contour}
use Rattle.font_ir.specs.declared.glyph.Shape.{Shape}
use Rattle.font_ir.specs.declared.glyph.Shape.TheVariants.{Path, Component}
use Rattle.font_ir.specs.declared.glyph.FlatGlyph.{FlatGlyph}
use Rattle.font_ir.specs.FlatGlyphs.{shape_of, point_count, IsFlatGlyph}
use Rattle.font_ir.specs.ReadGlyphs.{ShapeForm, path_form, component_form, form_of}
use Rattle.font_ir.specs.ReadGlyphs.{HasPoints}
use Rattle.component_flatten.specs.declared.transform.Transform.{Transform}
use Rattle.component_flatten.specs.Numbered.{numbered}
use Rattle.component_flatten.specs.Transforms.{transformed_point}
use Rattle.component_flatten.specs.Places.{number_of, same_place, point_deltas, contour_deltas}
use Rattle.component_flatten.specs.Places.{first_drawn, point_between, contour_between}
use Rattle.component_flatten.specs.Places.{placed_at, placed}
use Rattle.component_flatten.specs.Drawing.{transformed_contour, component_drawn}
use Rattle.component_flatten.specs.Drawing.{shapes_drawn, names_of}
use Rattle.component_flatten.specs.Judging.{points_of}

-- ---- a base

abbrev pub on_of : Contour → List Bool
on_of contour = map (λ point. point.on) contour.points

on_between : (base : FlatGlyph) (at : List F2Dot14) (c j : ℕ) (points : List DrawnPoint)
    → map (λ point. point.on)
    (map (point_between base.places at) (numbered (point_deltas base c) j points))
    ≡ map (λ point. point.on) points
on_between base at c j [] = refl
on_between base at c j (point ∷ points) =
    ap (λ (rest : List Bool). point.on ∷ rest) (on_between base at c (j + 1) points)

shape_between : (base : FlatGlyph) (at : List F2Dot14) (c : ℕ) (contours : List Contour)
    → shape_of (map (contour_between base.places at) (numbered (contour_deltas base) c contours))
    ≡ shape_of contours
shape_between base at c [] = refl
shape_between base at c (contour ∷ contours) =
    ap (λ (on : List Bool). on ∷ shape_of (map (contour_between base.places at)
    (numbered (contour_deltas base) (c + 1) contours))) (on_between base at c 0 contour.points)
    ∙ ap (λ (rest : List (List Bool)). on_of contour ∷ rest)
    (shape_between base at (c + 1) contours)

pub shape_own : (base : FlatGlyph) → IsFlatGlyph base → (k : ℕ) → k < length base.drawn
    → shape_of (get_or base.drawn k []) ≡ shape_of (first_drawn base)
shape_own base flat zero within = refl
shape_own base flat (suc k) within =
    sym (flat.one_shape 0 (suc k) [] (omega arith) within)

shape_placed_at : (base : FlatGlyph) (at : List F2Dot14) (number : Option ℕ) → IsFlatGlyph base
    → number_of base at ≡ number
    → shape_of (placed_at base at number) ≡ shape_of (first_drawn base)
shape_placed_at base at None flat e = shape_between base at 0 (first_drawn base)
shape_placed_at base at (Some k) flat e =
    let found = position-Some (λ place. same_place place at) base.places k [] e in
    let within : k < length base.drawn = omega (arith, found.0, flat.drawn) in
    shape_own base flat k within

pub shape_placed : (base : FlatGlyph) (at : List F2Dot14) → IsFlatGlyph base
    → shape_of (placed base at) ≡ shape_of (first_drawn base)
shape_placed base at flat = shape_placed_at base at (number_of base at) flat refl

-- ---- what a component draws

on_transformed : (t : Transform) (points : List DrawnPoint)
    → map (λ point. point.on) (map (transformed_point t) points) ≡ map (λ point. point.on) points
on_transformed t [] = refl
on_transformed t (point ∷ points) =
    ap (λ (rest : List Bool). point.on ∷ rest) (on_transformed t points)

shape_transformed : (t : Transform) (contours : List Contour)
    → shape_of (map (transformed_contour t) contours) ≡ shape_of contours
shape_transformed t [] = refl
shape_transformed t (contour ∷ contours) =
    ap (λ (on : List Bool). on ∷ shape_of (map (transformed_contour t) contours))
    (on_transformed t contour.points)
    ∙ ap (λ (rest : List (List Bool)). on_of contour ∷ rest) (shape_transformed t contours)

shape_component : (at : List F2Dot14) (t : Transform) (base : FlatGlyph) → IsFlatGlyph base
    → shape_of (component_drawn at t base) ≡ shape_of (first_drawn base)
shape_component at t base flat = shape_transformed t (placed base at) ∙ shape_placed base at flat

-- ---- what shapes draw: it depends on their forms and on the bases

abbrev pub form_shape : List FlatGlyph → List ShapeForm → List (List Bool)
form_shape bases [] = []
form_shape bases (path_form on ∷ forms) = on ∷ form_shape bases forms
form_shape [] (component_form name ∷ forms) = form_shape [] forms
form_shape (flat ∷ bases) (component_form name ∷ forms) =
    shape_of (first_drawn flat) ++ form_shape bases forms

shape-append : (a b : List Contour) → shape_of (a ++ b) ≡ shape_of a ++ shape_of b
shape-append [] b = refl
shape-append (contour ∷ a) b =
    ap (λ (rest : List (List Bool)). on_of contour ∷ rest) (shape-append a b)

pub shape_shapes : (at : List F2Dot14) (bases : List FlatGlyph) (shapes : List Shape)
    → AllByRecursion IsFlatGlyph bases
    → shape_of (shapes_drawn at bases shapes) ≡ form_shape bases (map form_of shapes)
shape_shapes at bases [] flat = refl
shape_shapes at bases (Path contour ∷ shapes) flat =
    ap (λ (rest : List (List Bool)). on_of contour ∷ rest) (shape_shapes at bases shapes flat)
shape_shapes at [] (Component base to scale quarters ∷ shapes) flat =
    shape_shapes at [] shapes tt
shape_shapes at (first ∷ bases) (Component base to scale quarters ∷ shapes) flat =
    let t : Transform = record { at = to; scale = scale; quarters = quarters } in
    shape-append (component_drawn at t first) (shapes_drawn at bases shapes)
    ∙ ap (λ (s : List (List Bool)). s ++ shape_of (shapes_drawn at bases shapes))
    (shape_component at t first flat.0)
    ∙ ap (λ (s : List (List Bool)). shape_of (first_drawn first) ++ s)
    (shape_shapes at bases shapes flat.1)

-- ---- numbers of points

abbrev pub total : List (List Bool) → ℕ
total shape = sum_by (λ on. length on) shape

count_is_total : (contours : List Contour) → point_count contours ≡ total (shape_of contours)
count_is_total [] = refl
count_is_total (contour ∷ contours) =
    let same = length-map contour.points (λ point. point.on) in
    let points = sum_by-cons (λ (c : Contour). length c.points) contour contours in
    let shape = sum_by-cons (λ (on : List Bool). length on) (on_of contour) (shape_of contours) in
    omega (arith, same, points, shape, count_is_total contours)

total-append : (a b : List (List Bool)) → total (a ++ b) ≡ total a + total b
total-append a b = sum_by-append (λ on. length on) a b

form_total : (bases : List FlatGlyph) (shapes : List Shape)
    → total (form_shape bases (map form_of shapes)) ≡ points_of bases shapes
form_total bases [] = refl
form_total bases (Path contour ∷ shapes) =
    let same = length-map contour.points (λ point. point.on) in
    let first = sum_by-cons (λ (on : List Bool). length on) (on_of contour)
    (form_shape bases (map form_of shapes)) in
    omega (arith, same, first, form_total bases shapes)
form_total [] (Component base to scale quarters ∷ shapes) =
    omega (arith, form_total [] shapes)
form_total (first ∷ bases) (Component base to scale quarters ∷ shapes) =
    let parts = total-append (shape_of (first_drawn first)) (form_shape bases (map form_of shapes))
    in
    let counted = count_is_total (first_drawn first) in
    omega (arith, parts, counted, form_total bases shapes)

pub count_shapes : (at : List F2Dot14) (bases : List FlatGlyph) (shapes : List Shape)
    → AllByRecursion IsFlatGlyph bases
    → point_count (shapes_drawn at bases shapes) ≡ total (form_shape bases (map form_of shapes))
count_shapes at bases shapes flat =
    count_is_total (shapes_drawn at bases shapes) ∙ ap total (shape_shapes at bases shapes flat)

pub total_is : (bases : List FlatGlyph) (shapes : List Shape)
    → total (form_shape bases (map form_of shapes)) ≡ points_of bases shapes
total_is bases shapes = form_total bases shapes

-- ---- no contour is empty

abbrev pub IsSome_on : List Bool → Type 0
IsSome_on on = 0 < length on

abbrev pub HasSome : Contour → Type 0
HasSome contour = 0 < length contour.points

some_from_shape : (contours : List Contour) → AllByRecursion IsSome_on (shape_of contours)
    → AllByRecursion HasSome contours
some_from_shape [] h = tt
some_from_shape (contour ∷ contours) h =
    let same = length-map contour.points (λ point. point.on) in
    let some : 0 < length (on_of contour) = h.0 in
    (omega (arith, same, some), some_from_shape contours h.1)

shape_from_some : (contours : List Contour) → AllByRecursion HasSome contours
    → AllByRecursion IsSome_on (shape_of contours)
shape_from_some [] h = tt
shape_from_some (contour ∷ contours) h =
    let same = length-map contour.points (λ point. point.on) in
    let some : 0 < length contour.points = h.0 in
    (omega (arith, same, some), shape_from_some contours h.1)

both_parts : (a b : List (List Bool)) → AllByRecursion IsSome_on a → AllByRecursion IsSome_on b
    → AllByRecursion IsSome_on (a ++ b)
both_parts [] b h k = k
both_parts (on ∷ a) b h k = (h.0, both_parts a b h.1 k)

first_some : (base : FlatGlyph) → IsFlatGlyph base
    → AllByRecursion HasSome (first_drawn base)
first_some base flat = at_first base.drawn (recursion_from_All
    (λ (contours : List Contour). All HasSome contours) base.drawn flat.no_empty_contour)
  where
    at_first : (drawn : List (List Contour))
        → AllByRecursion (λ (contours : List Contour). All HasSome contours) drawn
        → AllByRecursion HasSome (get_or drawn 0 [])
    at_first [] h = tt
    at_first (contours ∷ drawn) h = recursion_from_All HasSome contours h.0

form_some : (bases : List FlatGlyph) (shapes : List Shape) → AllByRecursion IsFlatGlyph bases
    → AllByRecursion HasPoints shapes
    → AllByRecursion IsSome_on (form_shape bases (map form_of shapes))
form_some bases [] flat h = tt
form_some bases (Path contour ∷ shapes) flat h =
    let same = length-map contour.points (λ point. point.on) in
    let some : 0 < length contour.points = h.0 in
    (omega (arith, same, some), form_some bases shapes flat h.1)
form_some [] (Component base to scale quarters ∷ shapes) flat h = form_some [] shapes tt h.1
form_some (first ∷ bases) (Component base to scale quarters ∷ shapes) flat h =
    both_parts (shape_of (first_drawn first)) (form_shape bases (map form_of shapes))
    (shape_from_some (first_drawn first) (first_some first flat.0))
    (form_some bases shapes flat.1 h.1)

pub shapes_some : (at : List F2Dot14) (bases : List FlatGlyph) (shapes : List Shape)
    → AllByRecursion IsFlatGlyph bases → AllByRecursion HasPoints shapes
    → AllByRecursion HasSome (shapes_drawn at bases shapes)
shapes_some at bases shapes flat h = some_from_shape (shapes_drawn at bases shapes)
    (subst (λ (shape : List (List Bool)). AllByRecursion IsSome_on shape)
    (sym (shape_shapes at bases shapes flat)) (form_some bases shapes flat h))

-- ---- the names of the bases depend on the forms

abbrev pub form_names : List ShapeForm → List (List ℕ)
form_names [] = []
form_names (path_form on ∷ forms) = form_names forms
form_names (component_form name ∷ forms) = name ∷ form_names forms

pub names_by_form : (shapes : List Shape) → names_of shapes ≡ form_names (map form_of shapes)
names_by_form [] = refl
names_by_form (Path contour ∷ shapes) = names_by_form shapes
names_by_form (Component base to scale quarters ∷ shapes) =
    ap (λ (names : List (List ℕ)). base ∷ names) (names_by_form shapes)
