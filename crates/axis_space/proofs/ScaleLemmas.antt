-- Places by the scales of the axes are the places that are defined.
use Rattle.std.proofs.Common.{◌≡◌, ℕ, ◌+◌, ◌<◌, ◌≤◌, List, [], ◌∷◌, ◌++◌, length, get_or, map, take}
use Rattle.std.proofs.Common.{drop, refl, sym, ap, ◌∙◌, subst, arith, zero-add, ℤ, pos, ◌≤ℤ◌}
use Rattle.std.specs.List.{All, Contains, range_with_len}
use Rattle.std.proofs.lemmas.List.{get_or_default, take_all, drop_all, append-nil}
use Rattle.std.proofs.lemmas.List.FromFn.{length-map-range_with_len, get_or-map-range_with_len}
use Rattle.std.proofs.lemmas.List.FromFn.{map-range_with_len_more, fill_by_all}
use Rattle.fixed_math.specs.declared.F2Dot14.{F2Dot14}
use Rattle.fixed_math.specs.declared.Fixed.{Fixed}
use Rattle.font_ir.specs.declared.header.Master.{Master}
use Rattle.font_ir.specs.declared.header.CoordinateScale.TheVariants.{Design}
use Rattle.font_ir.specs.Extremes.{least, greatest}
use Rattle.font_ir.specs.Coordinates.{coordinate_at, coordinate_on, coordinates_on, default_on}
use Rattle.axis_space.specs.declared.coordinates.Scale.{Scale}
use Rattle.axis_space.specs.Placing.{HasAxes, IsWithin, normal_at, place_of, placed_master, placed}
use Rattle.axis_space.specs.Scales.{scale_on, scales_on, scale_at, IsOnScale, AreOnScales}
use Rattle.axis_space.specs.Scales.{normal_by, place_by, located}
use Rattle.axis_space.proofs.CoordinateLemmas.{default_is, default_member, least_each, least_from}
use Rattle.axis_space.proofs.CoordinateLemmas.{greatest_each, greatest_from}

-- a list made from a function of the index

pub one_more : {X : Type 0} (f : ℕ → X) (i : ℕ) (done next : List X) (x : X)
    → done ≡ map f (range_with_len 0 i) → x ≡ f i → next ≡ done ++ x ∷ []
    → next ≡ map f (range_with_len 0 (i + 1))
one_more {X} f i done next x was is made =
    made ∙ ap (λ (xs : List X). xs ++ x ∷ []) was
    ∙ ap (λ (y : X). map f (range_with_len 0 i) ++ y ∷ []) is
    ∙ sym (map-range_with_len_more f 0 i i (zero-add i))

same_below : {X : Type 0} (f g : ℕ → X) (n : ℕ) (d : X) → ((k : ℕ) → k < n → f k ≡ g k)
    → map f (range_with_len 0 n) ≡ map g (range_with_len 0 n)
same_below f g n d same =
    fill_by_all g (map f (range_with_len 0 n)) n d (length-map-range_with_len f 0 n)
    (λ k h. get_or-map-range_with_len f 0 n k k d h (zero-add k) ∙ same k h)

-- scales

pub scale_is : (masters : List Master) (origin axis : ℕ) (scale : Scale)
    → scale.default.0 ≡ default_on Design origin axis masters
    → scale.least.0 ≡ least (coordinates_on Design axis masters)
    → scale.greatest.0 ≡ greatest (coordinates_on Design axis masters)
    → scale ≡ scale_on masters origin axis
scale_is masters origin axis scale default low high =
    let made : ℤ → ℤ → ℤ → Scale = λ x y z. record {
      least = record { 0 = x };
      default = record { 0 = y };
      greatest = record { 0 = z };
    } in
    ap (λ x. made x scale.default.0 scale.greatest.0) low
    ∙ ap (λ y. made (least (coordinates_on Design axis masters)) y scale.greatest.0) default
    ∙ ap (made (least (coordinates_on Design axis masters)) (default_on Design origin axis masters))
    high

scale_there : (masters : List Master) (origin axes axis : ℕ) → axis < axes
    → scale_at (scales_on masters origin axes) axis ≡ scale_on masters origin axis
scale_there masters origin axes axis h =
    get_or-map-range_with_len (scale_on masters origin) 0 axes axis axis _ h (zero-add axis)

-- the default master's coordinate is one of all

default_bounds : (origin axis : ℕ) (masters : List Master) → origin < length masters
    → (least (coordinates_on Design axis masters) ≤ℤ default_on Design origin axis masters)
    × (default_on Design origin axis masters ≤ℤ greatest (coordinates_on Design axis masters))
default_bounds origin axis [] h = absurd (omega (arith, h))
default_bounds origin axis (m ∷ ms) h =
    let masters = m ∷ ms in
    let master : Master = get_or masters origin m in
    let at : master ≡ get_or masters origin master = get_or_default masters origin m master h in
    let is = default_is Design origin axis masters master (coordinate_on Design axis master) h at
    refl in
    let member = subst (Contains (coordinates_on Design axis masters)) is
    (default_member Design origin axis masters master (coordinate_on Design axis master) h at refl)
    in (
      least_from Design axis masters (default_on Design origin axis masters)
          (least (coordinates_on Design axis masters)) member refl,
      greatest_from Design axis masters (default_on Design origin axis masters)
          (greatest (coordinates_on Design axis masters)) member refl,
    )

pub on_scales : (masters : List Master) (origin axes : ℕ) (design : List Fixed)
    → origin < length masters → axes ≤ length design
    → ((axis : ℕ) → axis < axes → IsWithin masters axis (coordinate_at design axis))
    → AreOnScales (scales_on masters origin axes) design
on_scales masters origin axes design there enough within =
    let long : length (scales_on masters origin axes) ≡ axes =
    length-map-range_with_len (scale_on masters origin) 0 axes in
    record {
      enough = omega (arith, long, enough);
      each = λ axis h.
          let below : axis < axes = omega (arith, long, h) in
          let w = within axis below in
          let bounds = default_bounds origin axis masters there in
          subst (λ (s : Scale). IsOnScale s (coordinate_at design axis))
          (sym (scale_there masters origin axes axis below)) (record {
            from_least = w.from_least;
            to_greatest = w.to_greatest;
            least_default = bounds.0;
            default_greatest = bounds.1;
          });
    }

pub all_on_scales : (masters ms : List Master) (scales : List Scale) (origin axes : ℕ)
    → ms ≡ masters → scales ≡ scales_on masters origin axes → origin < length masters
    → All (HasAxes axes) masters → All (λ m. AreOnScales scales m.design) ms
all_on_scales masters ms scales origin axes same are there enough =
    let own : All (λ m. AreOnScales (scales_on masters origin axes) m.design) masters =
    λ k d h. on_scales masters origin axes (get_or masters k d).design there (enough k d h).design
    (λ axis below. record {
      from_least = least_each Design axis masters (least (coordinates_on Design axis masters)) refl
          k d h;
      to_greatest = greatest_each Design axis masters
          (greatest (coordinates_on Design axis masters)) refl k d h;
    }) in
    subst (λ (xs : List Master). All (λ m. AreOnScales scales m.design) xs) (sym same)
    (subst (λ (ss : List Scale). All (λ m. AreOnScales ss m.design) masters) (sym are) own)

-- places

pub place_by_is : (masters : List Master) (origin axes : ℕ) (design : List Fixed)
    → place_by (scales_on masters origin axes) design ≡ place_of masters origin axes design
unfolding place_of
place_by_is masters origin axes design =
    let f : ℕ → F2Dot14 = λ axis. normal_by (scale_at (scales_on masters origin axes) axis)
    (coordinate_at design axis) in
    let g : ℕ → F2Dot14 = λ axis. normal_at masters origin axis (coordinate_at design axis) in
    ap (λ n. map f (range_with_len 0 n))
    (length-map-range_with_len (scale_on masters origin) 0 axes)
    ∙ same_below f g axes (record { 0 = pos 0 })
    (λ k h. ap (λ (s : Scale). normal_by s (coordinate_at design k))
    (scale_there masters origin axes k h))

pub place_is : (masters : List Master) (origin axes : ℕ) (design : List Fixed)
    (scales : List Scale) → scales ≡ scales_on masters origin axes
    → place_by scales design ≡ place_of masters origin axes design
place_is masters origin axes design scales are =
    ap (λ (ss : List Scale). place_by ss design) are ∙ place_by_is masters origin axes design

pub placed_is : (masters ms : List Master) (origin axes : ℕ) (scales : List Scale) → ms ≡ masters
    → scales ≡ scales_on masters origin axes → map (located scales) ms ≡ placed origin axes masters
unfolding placed
placed_is masters ms origin axes scales same are =
    ap (map (located scales)) same ∙ each masters
  where
    each : (xs : List Master) → map (located scales) xs
        ≡ map (placed_master masters origin axes) xs
    each [] = refl
    each (x ∷ xs) =
        ap (λ (p : List F2Dot14). record x { location = p } ∷ map (located scales) xs)
        (place_is masters origin axes x.design scales are)
        ∙ ap (λ (ys : List Master). placed_master masters origin axes x ∷ ys) (each xs)

-- what a slice of a whole vector wrote is the vector
pub written_whole : {X : Type 0} (xs ys : List X) (n : ℕ) → length ys ≡ n → length xs ≡ n
    → take n (xs ++ drop (length xs) ys) ≡ xs
written_whole {X} xs ys n of_ys of_xs =
    ap (λ (zs : List X). take n (xs ++ zs))
    (drop_all (length xs) ys (omega (arith, of_ys, of_xs)))
    ∙ ap (take n) (append-nil xs) ∙ take_all n xs (omega (arith, of_xs))
