-- What is known of masters that were placed, and what their header fulfils then. For the proofs of
-- other crates.
use Rattle.std.proofs.Common.{◌≡◌, ℕ, ◌<◌, List, [], ◌∷◌, length, get_or, map, refl, sym, ap}
use Rattle.std.proofs.Common.{◌∙◌, subst, zero-add, None, ℤ, pos, ◌++◌}
use Rattle.std.specs.List.{All, AllZip}
use Rattle.std.proofs.lemmas.List.{length-map}
use Rattle.std.proofs.lemmas.List.FromFn.{length-map-range_with_len, get_or-map-range_with_len}
use Rattle.std.proofs.lemmas.List.Elements.{All-cons, All-nil, All-head, All-tail, All-map}
use Rattle.fixed_math.specs.declared.F2Dot14.{F2Dot14}
use Rattle.fixed_math.specs.declared.Fixed.{Fixed}
use Rattle.font_ir.specs.declared.header.Master.{Master}
use Rattle.font_ir.specs.declared.header.Header.{Header}
use Rattle.font_ir.specs.declared.header.CoordinateScale.{CoordinateScale}
use Rattle.font_ir.specs.declared.header.CoordinateScale.TheVariants.{Design, User}
use Rattle.font_ir.specs.Normal.{normalised}
use Rattle.font_ir.specs.Extremes.{least, greatest}
use Rattle.font_ir.specs.Coordinates.{coordinate_at, coordinate_on, coordinates_on, default_on}
use Rattle.font_ir.specs.Coordinates.{normal_on}
use Rattle.font_ir.specs.AxisMaps.{Pair, fixed_pairs, master_pair, pairs_of}
use Rattle.font_ir.specs.Headers.{location_at}
use Rattle.axis_space.specs.Placing.{normal_at, place_of, placed_master, placed, IsBesideLocation}
use Rattle.axis_space.specs.Placing.{ArePlaced, FulfilsPlaces}
use Rattle.axis_space.specs.Repeats.{TellsRepeat}
use Rattle.axis_space.specs.UnmappedAxes.{TellsUnmapped}

abbrev location_of : Master → List F2Dot14
location_of master = master.location

map_each : {X Y : Type 0} (f g : X → Y) → ((x : X) → f x ≡ g x) → (xs : List X)
    → map f xs ≡ map g xs
map_each f g same [] = refl
map_each {X} {Y} f g same (x ∷ xs) =
    ap (λ (y : Y). y ∷ map f xs) (same x) ∙ ap (λ (ys : List Y). g x ∷ ys) (map_each f g same xs)

-- a place has a number for each axis
pub length-place_of : (masters : List Master) (origin axes : ℕ) (design : List Fixed)
    → length (place_of masters origin axes design) ≡ axes
unfolding place_of
length-place_of masters origin axes design =
    length-map-range_with_len (λ axis. normal_at masters origin axis (coordinate_at design axis)) 0
    axes

-- and on an axis it is the normalised coordinate
pub get_or-place_of : (masters : List Master) (origin axes : ℕ) (design : List Fixed) (axis : ℕ)
    (d : F2Dot14) → axis < axes → get_or (place_of masters origin axes design) axis d
    ≡ normal_at masters origin axis (coordinate_at design axis)
unfolding place_of
get_or-place_of masters origin axes design axis d h =
    get_or-map-range_with_len (λ i. normal_at masters origin i (coordinate_at design i)) 0 axes axis
    axis d h (zero-add axis)

module _ (origin axes : ℕ) where
  -- what doesn't look at locations is as before
  pub map-placed : {X : Type 0} (f : Master → X)
      → ((master : Master) (location : List F2Dot14)
      → f (record master { location = location }) ≡ f master) → (masters : List Master)
      → map f (placed origin axes masters) ≡ map f masters
  unfolding placed
  map-placed {X} f same masters = each masters
    where
      each : (ms : List Master) → map f (map (placed_master masters origin axes) ms) ≡ map f ms
      each [] = refl
      each (m ∷ ms) =
          ap (λ (x : X). x ∷ map f (map (placed_master masters origin axes) ms))
          (same m (place_of masters origin axes m.design)) ∙ ap (λ (xs : List X). f m ∷ xs) (each ms)

  pub length-placed : (masters : List Master)
      → length (placed origin axes masters) ≡ length masters
  unfolding placed
  length-placed masters = length-map masters (placed_master masters origin axes)

  -- what holds of each master with any location that has a number for each axis
  pub All-placed : (P Q : Master → Type 0)
      → ((master : Master) (location : List F2Dot14) → length location ≡ axes → P master
      → Q (record master { location = location })) → (masters : List Master) → All P masters
      → All Q (placed origin axes masters)
  unfolding placed
  All-placed P Q step masters all = each masters all
    where
      each : (ms : List Master) → All P ms → All Q (map (placed_master masters origin axes) ms)
      each [] h = All-nil Q
      each (m ∷ ms) h =
          All-cons Q (placed_master masters origin axes m)
          (map (placed_master masters origin axes) ms)
          (step m (place_of masters origin axes m.design)
          (length-place_of masters origin axes m.design) (All-head P m ms h))
          (each ms (All-tail P m ms h))

  beside : (kind : CoordinateScale) (axis : ℕ) (master : Master) (location : List F2Dot14)
      → coordinate_on kind axis (record master { location = location })
      ≡ coordinate_on kind axis master
  beside Design axis master location = refl
  beside User axis master location = refl

  coordinates_on-placed : (kind : CoordinateScale) (axis : ℕ) (masters : List Master)
      → coordinates_on kind axis (placed origin axes masters) ≡ coordinates_on kind axis masters
  coordinates_on-placed kind axis masters =
      map-placed (λ m. (coordinate_on kind axis m).0)
      (λ m location. ap (λ (v : Fixed). v.0) (beside kind axis m location)) masters

  default_on-placed : (kind : CoordinateScale) (from axis : ℕ) (masters : List Master)
      → default_on kind from axis (placed origin axes masters) ≡ default_on kind from axis masters
  default_on-placed kind from axis masters =
      ap (λ (vs : List Fixed). (coordinate_at vs from).0)
      (map-placed (coordinate_on kind axis) (beside kind axis) masters)

  -- a coordinate is normalised among them as before
  pub normal_on-placed : (kind : CoordinateScale) (from axis : ℕ) (masters : List Master)
      (master : Master) → normal_on kind from axis (placed origin axes masters) master
      ≡ normal_on kind from axis masters master
  normal_on-placed kind from axis masters master =
      let made : ℤ → F2Dot14 = λ z. record { 0 = z } in
      let v = (coordinate_on kind axis master).0 in
      let before = coordinates_on kind axis masters in
      let after = coordinates_on kind axis (placed origin axes masters) in
      let zero = default_on kind from axis (placed origin axes masters) in
      let same : after ≡ before = coordinates_on-placed kind axis masters in
      ap (λ (all : List ℤ). made (normalised v (least all) zero (greatest all))) same
      ∙ ap (λ z. made (normalised v (least before) z (greatest before)))
      (default_on-placed kind from axis masters)

  -- and so an axis has the same pairs
  pub pairs_of-placed : (masters : List Master) (from axis : ℕ)
      → pairs_of (placed origin axes masters) from axis ≡ pairs_of masters from axis
  unfolding pairs_of
  pairs_of-placed masters from axis =
      let f : Master → Pair = master_pair (placed origin axes masters) from axis in
      let g : Master → Pair = master_pair masters from axis in
      ap (λ (pairs : List Pair). fixed_pairs ++ pairs)
      (map_each f g same (placed origin axes masters) ∙ map-placed g (λ m location. refl) masters)
    where
      same : (master : Master) → master_pair (placed origin axes masters) from axis master
          ≡ master_pair masters from axis master
      same master =
          ap (λ (x : F2Dot14). (x, normal_on Design from axis (placed origin axes masters) master))
          (normal_on-placed User from axis masters master)
          ∙ ap (λ (y : F2Dot14). (normal_on User from axis masters master, y))
          (normal_on-placed Design from axis masters master)

  -- on an axis a master lies where its design coordinate is
  lies : (masters : List Master) (axis : ℕ) → axis < axes → (master : Master)
      → location_at axis (placed_master masters origin axes master)
      ≡ normal_on Design origin axis (placed origin axes masters)
      (placed_master masters origin axes master)
  lies masters axis h master =
      get_or-place_of masters origin axes master.design axis (record { 0 = pos 0 }) h
      ∙ sym (normal_on-placed Design origin axis masters (placed_master masters origin axes master))

  pub placed_are_placed : (masters : List Master)
      → ArePlaced origin axes masters (placed origin axes masters)
  unfolding placed
  placed_are_placed masters = record {
    same = each masters;
    one_each = λ k d h. All-map (λ m. length m.location ≡ axes) put masters
        (λ i e within. length-place_of masters origin axes (get_or masters i e).design) k d h;
    lie = λ axis h. All-map (λ m. location_at axis m
        ≡ normal_on Design origin axis (placed origin axes masters) m) put masters
        (λ i e within. lies masters axis h (get_or masters i e));
  }
    where
      put : Master → Master
      put = placed_master masters origin axes

      each : (ms : List Master) → AllZip IsBesideLocation ms (map put ms)
      each [] = tt
      each (m ∷ ms) = (
        record {
          id = refl;
          design = refl;
          user = refl;
          ascender = refl;
          descender = refl;
          cap = refl;
          xheight = refl;
          place = refl;
        },
        each ms,
      )

-- masters that were placed, of which no two lie at one place, on axes that all have a map
pub placed_fulfil : (header : Header) (masters : List Master)
    → header.masters ≡ placed header.origin (length header.axes) masters
    → TellsRepeat (map (λ master. master.location) header.masters) None
    → TellsUnmapped header.masters header.origin (length header.axes) None → FulfilsPlaces header
placed_fulfil header masters are different maps = record {
  locations = λ axis h.
      let P : List Master → Type 0 = λ ms. All (λ m. location_at axis m
      ≡ normal_on Design header.origin axis ms m) ms in
      subst P (sym are)
      ((placed_are_placed header.origin (length header.axes) masters).lie axis h);
  different = different;
  maps = maps;
}
