-- A made `.notdef` is a flat glyph.
use Rattle.std.proofs.Common.{◌≡◌, ◌≢◌, ℕ, zero, suc, ◌<◌, ◌≤◌, ◌/◌, ℤ, pos, ◌≤ℤ◌, Bool, false}
use Rattle.std.proofs.Common.{int_lt, if◌then◌else◌, List, [], ◌∷◌, length, map, get_or, replicate}
use Rattle.std.proofs.Common.{refl, sym, ap, ◌∙◌, subst, arith}
use Rattle.std.proofs.lemmas.Int.{ints}
use Rattle.std.proofs.lemmas.List.{length-map, get_or-map}
use Rattle.std.proofs.lemmas.List.Elements.{All-map, All-head, All-tail, All-from_recursion}
use Rattle.std.proofs.lemmas.List.Elements.{Contains-get_or}
use Rattle.std.specs.List.{All, Contains}
use Rattle.fixed_math.specs.declared.F2Dot14.{F2Dot14}
use Rattle.fixed_math.specs.declared.Fixed.{Fixed}
use Rattle.font_ir.specs.declared.header.Header.{Header}
use Rattle.font_ir.specs.declared.header.Master.{Master}
use Rattle.font_ir.specs.declared.header.CoordinateScale.TheVariants.{Design}
use Rattle.font_ir.specs.declared.glyph.Contour.{Contour}
use Rattle.font_ir.specs.Places.{zero_number, place_at, axis_count}
use Rattle.font_ir.specs.FlatGlyphs.{IsFlatGlyph, IsSmallPoint, point_count, shape_of}
use Rattle.font_ir.specs.Normal.{nearest, normalised}
use Rattle.font_ir.specs.Extremes.{least, greatest}
use Rattle.font_ir.specs.Coordinates.{coordinate_on, normal_on, coordinates_on, default_on}
use Rattle.font_ir.specs.Headers.{IsHeader, IsMaster, location_at}
use Rattle.font_ir.specs.Notdef.{made_notdef_of}

abbrev location_of : Master → List F2Dot14
location_of master = master.location

abbrev IsZero : F2Dot14 → Type 0
IsZero coordinate = coordinate.0 ≡ pos 0

-- the default is normalised to 0
normalised-default : (v low default high : ℤ) → default ≡ v → normalised v low default high ≡ pos 0
normalised-default v low default high e = subst (λ (z : ℤ). normalised v low z high ≡ pos 0) (sym e)
    at_itself
  where
    not_below : int_lt v v ≡ false
    not_below = grind (arith, ints)

    at_itself : normalised v low v high ≡ pos 0
    at_itself = rw not_below refl

-- where the default master lies on an axis
default_at_zero : (masters : List Master) (origin axis : ℕ) (d : Master) → origin < length masters
    → (normal_on Design origin axis masters (get_or masters origin d)).0 ≡ pos 0
default_at_zero masters origin axis d within =
    let v = coordinate_on Design axis (get_or masters origin d) in
    let number : Fixed → ℤ = λ x. x.0 in
    let is : default_on Design origin axis masters
    ≡ v.0 = ap number (get_or-map (coordinate_on Design axis) masters origin d
    (record { 0 = pos 0 }) within) in
    normalised-default v.0 (least (coordinates_on Design axis masters))
    (default_on Design origin axis masters) (greatest (coordinates_on Design axis masters)) is

-- what is read within a list doesn't depend on what stands for the rest
at_any_default : (xs : List F2Dot14) (k : ℕ) (c : F2Dot14) → k < length xs
    → (get_or xs k (record { 0 = pos 0 })).0 ≡ pos 0 → (get_or xs k c).0 ≡ pos 0
at_any_default [] k c inside e = absurd (omega (arith, inside))
at_any_default (x ∷ xs) zero c inside e = e
at_any_default (x ∷ xs) (suc k) c inside e = at_any_default xs k c (omega (arith, inside)) e

-- a place at zero on each axis
zeros_are : (xs : List F2Dot14) → All IsZero xs → xs ≡ replicate (length xs) zero_number
zeros_are [] h = refl
zeros_are (x ∷ xs) h =
    let made : ℤ → F2Dot14 = λ z. record { 0 = z } in
    ap (λ y. y ∷ xs) (ap made (All-head IsZero x xs h))
    ∙ ap (λ ys. zero_number ∷ ys) (zeros_are xs (All-tail IsZero x xs h))

-- one of the masters' places is the origin
origin_there : (h : Header) → IsHeader h
    → Contains (map location_of h.masters) (replicate (length h.axes) zero_number)
origin_there h is = by h.masters refl
  where
    by : (masters : List Master) → h.masters ≡ masters
        → Contains (map location_of h.masters) (replicate (length h.axes) zero_number)
    by [] e = absurd (let within = is.origin in let none = ap length e
        in omega (arith, within, none))
    by (d ∷ others) e =
        let within : h.origin < length (map location_of h.masters)
        = omega (arith, is.origin, length-map h.masters location_of) in
        let member = Contains-get_or (map location_of h.masters) h.origin [] within in
        let master : Master = get_or h.masters h.origin d in
        let at : get_or (map location_of h.masters) h.origin []
        ≡ master.location = get_or-map location_of h.masters h.origin d [] is.origin in
        let long : length master.location ≡ length h.axes
        = (is.masters h.origin d is.origin).location in
        let zeros : All IsZero master.location = λ k c inside.
        let there : k < length h.axes = omega (arith, inside, long) in
        let lies : location_at k master ≡ normal_on Design h.origin k h.masters master
        = is.locations k there h.origin d is.origin in
        let at_zero : (location_at k master).0 ≡ pos 0 = ap (λ (x : F2Dot14). x.0) lies
        ∙ default_at_zero h.masters h.origin k d is.origin in
        at_any_default master.location k c inside at_zero in
        let same : get_or (map location_of h.masters) h.origin []
        ≡ replicate (length h.axes) zero_number = at ∙ zeros_are master.location zeros
        ∙ ap (λ n. replicate n zero_number) long in
        subst (Contains (map location_of h.masters)) same member

pub made_notdef_flat : (h : Header) → IsHeader h → IsFlatGlyph (made_notdef_of h)
made_notdef_flat h is = record {
  places = record {
    few = omega (arith, is.few_masters, length-map h.masters location_of);
    are_places = record {
      few = omega (arith, is.few_masters, length-map h.masters location_of);
      one_length = λ i within. long i [] within ∙ sym (axes_long (omega (arith, within)));
      different = λ i j below within. is.different i j [] below within;
      has_zero = subst (λ n. Contains (map location_of h.masters) (replicate n zero_number))
          (sym (axes_long (omega (arith, is.origin, length-map h.masters location_of))))
          (origin_there h is);
    };
  };
  widths = as_many (λ master. pos (h.upem / 2)) location_of;
  drawn = as_many (λ master. none) location_of;
  offsets = All-from_recursion _ [] tt;
  one_shape = λ i j d below within. ap shape_of
      (empty i d (omega (arith, below, within)) ∙ sym (empty j d within));
  few_points = All-map (λ (contours : List Contour). point_count contours ≤ 8000)
      (λ (master : Master). none) h.masters (λ k d within. omega arith);
  no_empty_contour = All-map (λ (contours : List Contour). All
      (λ contour. 0 < length contour.points) contours) (λ (master : Master). none) h.masters
      (λ k d within. All-from_recursion _ [] tt);
  few_kept = omega arith;
  small_points = All-map (λ (contours : List Contour). All
      (λ contour. All IsSmallPoint contour.points) contours) (λ (master : Master). none) h.masters
      (λ k d within. All-from_recursion _ [] tt);
  small_offsets = All-from_recursion _ [] tt;
  small_anchors = All-from_recursion _ [] tt;
  width_range = All-map (λ (w : ℤ). (pos 0 ≤ℤ w) × (w ≤ℤ pos 32767))
      (λ (master : Master). pos (h.upem / 2)) h.masters
      (λ k d within. (omega (arith, ints), (let units = is.units.1 in omega (arith, ints, units))));
  anchors = (0, omega arith, All-from_recursion _ [] tt);
}
  where
    none : List Contour
    none = []

    as_many : {Y Z : Type 0} (f : Master → Y) (g : Master → Z)
        → length (map f h.masters) ≡ length (map g h.masters)
    as_many f g = length-map h.masters f ∙ sym (length-map h.masters g)

    long : All (λ place. length place ≡ length h.axes) (map location_of h.masters)
    long = All-map (λ (place : List F2Dot14). length place ≡ length h.axes) location_of h.masters
        (λ k d within. (is.masters k d within).location)

    empty : All (λ contours. contours ≡ none) (map (λ (master : Master). none) h.masters)
    empty = All-map (λ (contours : List Contour). contours ≡ none) (λ (master : Master). none)
        h.masters (λ k d within. refl)

    axes_long : 0 < length (map location_of h.masters)
        → axis_count (map location_of h.masters) ≡ length h.axes
    axes_long within = long 0 [] within
