-- What holds of each glyph whose layers are read: the limits that the readers above rely on.
use Rattle.std.proofs.Common.{◌≡◌, ◌≢◌, ℕ, ◌+◌, ◌<◌, ◌≤◌, Bool, true, false, ◌&&◌, cond, List, []}
use Rattle.std.proofs.Common.{◌∷◌, ◌++◌, zero, suc, length, map, get_or, replicate, Option, Some}
use Rattle.std.proofs.Common.{None, Result, Ok, Err, refl, sym, ap, ◌∙◌, subst, arith, true≢false}
use Rattle.std.specs.Prelude.{flat_map, is_some, nat_lt, nat_eq, slice_get, IfOk, pos, ◌≤ℤ◌}
use Rattle.std.specs.Option.{option_map, option_map_or}
use Rattle.std.specs.List.{All, AllByRecursion, AllPairs, Contains, count_by, list_all}
use Rattle.std.proofs.lemmas.Bool.Decides.{nat_tests}
use Rattle.std.proofs.lemmas.List.{length-map, length-append, map-append}
use Rattle.std.proofs.lemmas.List.Elements.{All-map, All-append, All-from_recursion}
use Rattle.std.proofs.lemmas.List.Elements.{Contains-append_left}
use Rattle.plist_reader.specs.declared.tree.Tree.{Tree}
use Rattle.fixed_math.specs.declared.F2Dot14.{F2Dot14}
use Rattle.font_ir.specs.declared.header.Header.{Header}
use Rattle.font_ir.specs.declared.header.Master.{Master}
use Rattle.font_ir.specs.declared.glyph.LayerIr.{LayerIr}
use Rattle.font_ir.specs.declared.glyph.GlyphIr.{GlyphIr}
use Rattle.font_ir.specs.declared.glyph.Anchor.{Anchor}
use Rattle.font_ir.specs.Headers.{IsHeader}
use Rattle.font_ir.specs.FlatGlyphs.{IsFlatGlyph, IsSmall}
use Rattle.font_ir.specs.Notdef.{made_notdef_of}
use Rattle.font_ir.specs.Places.{AreGlyphPlaces, axis_count, zero_number}
use Rattle.font_ir.specs.ReadGlyphs.{IsReadGlyph, HasPoints, IsInRange, is_component, layer_form}
use Rattle.refusal_codes.specs.declared.refusal.Refusal.{Refusal}
use Rattle.refusal_codes.specs.declared.errors.ReadError.{ReadError}
use Rattle.refusal_codes.specs.declared.first.Failure.{Failure}
use Rattle.refusal_codes.specs.First.{first_of, foremost, or_next, noted, refusal_of, judged}
use Rattle.refusal_codes.specs.FirstLaws.{first_of_none, noted-append}
use Rattle.refusal_codes.specs.JudgedLaws.{judged_ok}
use Rattle.refusal_codes.specs.Gives.{Gives}
use Rattle.refusal_codes.specs.declared.job.TheConstants.{RAW}
use Rattle.refusal_codes.specs.declared.rule.Rule.TheVariants.{TooManyLayers, TooManyComponents}
use Rattle.source_values.specs.Asking.{fails}
use Rattle.glyphs_source.specs.declared.entries.IndexEntry.{IndexEntry}
use Rattle.axis_space.specs.PlacingLaws.{length-place_of}
use Rattle.axis_space.specs.Repeats.{TellsRepeat, first_repeat}
use Rattle.layer_shapes.specs.declared.kind.LayerKind.{LayerKind}
use Rattle.layer_shapes.specs.declared.kind.LayerKind.TheVariants as a
use Rattle.layer_shapes.specs.LayerRules.{component_numbers}
use Rattle.layer_shapes.specs.LayerReading.{layer_record}
use Rattle.layer_shapes.specs.LayerLaws.{components_have_bases}
use Rattle.layer_shapes.specs.ReadLayers.{IsReadLayer, bases_of}
use Rattle.glyphs_layers.specs.declared.layers.SourceLayer.{SourceLayer}
use Rattle.glyphs_layers.specs.SourceLayers.{layer_numbers, layer_of, masters_layer}
use Rattle.glyphs_layers.specs.SourceLayers.{masters_layers, is_intermediate, if_intermediate}
use Rattle.glyphs_layers.specs.SourceLayers.{intermediate_layers, source_layers}
use Rattle.glyphs_layers.specs.GlyphPlaces.{missing_layer, design_of, places_of}
use Rattle.glyphs_layers.specs.GlyphPlaces.{at_same_place, layer_at, same_place}
use Rattle.glyphs_layers.specs.GlyphPlaces.{layers_failure, places_failure}
use Rattle.glyphs_layers.specs.Forms.{same_form, record_of, unlike_first, incompatible}
use Rattle.glyphs_layers.specs.GlyphRules.{glyph_failures}
use Rattle.glyphs_layers.specs.Bases.{is_glyph, base_of, without_base, unknown_components}
use Rattle.glyphs_layers.specs.Bases.{too_many_components}
use Rattle.glyphs_layers.specs.GlyphReading.{name_in, glyph_in, shapes_failure, whole_failure}
use Rattle.glyphs_layers.specs.GlyphReading.{glyph_record, judged_glyph}
use Rattle.glyphs_layers.specs.SourceGlyphs.{IsGlyphOf, masters_record, HasMastersLayers}
use Rattle.glyphs_layers.specs.SourceGlyphs.{HasKnownBases, IsWholeGlyph}
use Rattle.glyphs_layers.specs.MastersAlone.{location_of, own, none_own}
use Rattle.glyphs_layers.proofs.FormLaws.{compared}

-- ---- of two lists that are empty together each is

front_empty : {X : Type 0} (xs ys : List X) → xs ++ ys ≡ [] → xs ≡ []
front_empty [] ys e = refl
front_empty (x ∷ xs) ys e = absurd cc

back_empty : {X : Type 0} (xs ys : List X) → xs ++ ys ≡ [] → ys ≡ []
back_empty [] ys e = e
back_empty (x ∷ xs) ys e = absurd cc

-- ---- failures that aren't there

first_none : (f next : Option Failure) → or_next f next ≡ None → f ≡ None
first_none None next e = refl
first_none (Some f) next e = absurd cc

next_none : (f next : Option Failure) → or_next f next ≡ None → next ≡ None
next_none None next e = e
next_none (Some f) next e = absurd cc

-- a list of failures, one for each item that fails a test, is empty
none_fails : (b : Bool) (f : Failure) (rest : List Failure)
    → foremost (cond b [] (f ∷ []) ++ rest) ≡ None → (b ≡ true) × (foremost rest ≡ None)
none_fails true f rest e = (refl, e)
none_fails false f rest e = absurd cc

only_fails : (b : Bool) (f : Failure) → foremost (cond b [] (f ∷ [])) ≡ None → b ≡ true
only_fails true f e = refl
only_fails false f e = absurd cc

none_told : (b : Bool) (f : Failure) (rest : List Failure) → cond b [] (f ∷ []) ++ rest ≡ []
    → (b ≡ true) × (rest ≡ [])
none_told true f rest e = (refl, e)
none_told false f rest e = absurd cc

-- ---- the layers and their places

module _ (t : Tree) (h : Header) where
  -- where each master has a layer, there are as many of them
  many_by : (o : Option ℕ) (all : Bool) (behind rest : List SourceLayer) (n : ℕ)
      → (is_some o && all) ≡ true → (all ≡ true → length (behind ++ rest) ≡ n)
      → length ((option_map_or masters_layer o [] ++ behind) ++ rest) ≡ suc n
  many_by None all behind rest n e f = absurd (true≢false (sym e))
  many_by (Some k) all behind rest n e f = let same = f e in omega (arith, same)

  many : (ns : List ℕ) (ms : List Master) (rest : List SourceLayer)
      → list_all (λ (m : Master). is_some (layer_of t ns m)) ms ≡ true
      → length (masters_layers t ms ns ++ rest) ≡ length ms + length rest
  many ns [] rest e = omega arith
  many ns (m ∷ ms) rest e =
      many_by (layer_of t ns m) (list_all (λ (m : Master). is_some (layer_of t ns m)) ms)
      (masters_layers t ms ns) rest (length ms + length rest) e (λ f. many ns ms rest f)
      ∙ omega arith

  -- an intermediate layer has a place of its own
  each_own_by : (n : ℕ) (b : Bool) (behind : List SourceLayer)
      → length (own t h behind) ≡ length behind
      → length (own t h (cond b (record { kind = a.Intermediate; number = n } ∷ []) [] ++ behind))
      ≡ length (cond b (record { kind = a.Intermediate; number = n } ∷ []) [] ++ behind)
  each_own_by n true behind e = omega (arith, e)
  each_own_by n false behind e = e

  each_own : (ms : List SourceLayer) (ns : List ℕ)
      → length (own t h (flat_map (if_intermediate t ms) ns))
      ≡ length (flat_map (if_intermediate t ms) ns)
  each_own ms [] = refl
  each_own ms (n ∷ ns) =
      each_own_by n (is_intermediate t ms n) (flat_map (if_intermediate t ms) ns) (each_own ms ns)

  intermediate_own : (ns : List ℕ)
      → length (own t h (intermediate_layers t h ns)) ≡ length (intermediate_layers t h ns)
  intermediate_own ns = by (nat_eq (length h.axes) 0)
    where
      by : (b : Bool) → length (own t h (cond b []
          (flat_map (if_intermediate t (masters_layers t h.masters ns)) ns)))
          ≡ length (cond b [] (flat_map (if_intermediate t (masters_layers t h.masters ns)) ns))
      by true = refl
      by false = each_own (masters_layers t h.masters ns) ns

  -- each of these places has a number for each axis
  own_long_by : (kind : LayerKind) (n : ℕ) (behind : List SourceLayer)
      → AllByRecursion (λ place. length place ≡ length h.axes) (own t h behind)
      → AllByRecursion (λ place. length place ≡ length h.axes)
      (own t h (record { kind = kind; number = n } ∷ behind))
  own_long_by a.Master n behind e = e
  own_long_by a.Intermediate n behind e =
      (length-place_of h.masters h.origin (length h.axes) (design_of t n), e)

  own_long : (layers : List SourceLayer)
      → AllByRecursion (λ place. length place ≡ length h.axes) (own t h layers)
  own_long [] = tt
  own_long (layer ∷ layers) = own_long_by layer.kind layer.number layers (own_long layers)

  -- ---- where no rule on layers and places fails

  module _ (g : ℕ) (there : layers_failure t h g ≡ None) where
    all_there : list_all (λ (m : Master). is_some (layer_of t (layer_numbers t g) m)) h.masters
        ≡ true
    unfolding layers_failure missing_layer
    all_there = only_fails
        (list_all (λ (m : Master). is_some (layer_of t (layer_numbers t g) m)) h.masters) _
        (first_none _ _ there)

    pub layer_each : length (places_of t h g) ≡ length (source_layers t h g)
    unfolding places_of source_layers
    layer_each =
        let ns = layer_numbers t g in
        let rest = intermediate_layers t h ns in
        length-append (map location_of h.masters) (own t h (masters_layers t h.masters ns ++ rest))
        ∙ ap (λ (k : ℕ). k + length (own t h (masters_layers t h.masters ns ++ rest)))
        (length-map h.masters location_of)
        ∙ ap (λ (ps : List (List F2Dot14)). length h.masters + length ps)
        (none_own t h ns h.masters rest)
        ∙ ap (λ (k : ℕ). length h.masters + k) (intermediate_own ns)
        ∙ sym (many ns h.masters rest all_there)

    pub masters_first : length h.masters ≤ length (places_of t h g)
    unfolding places_of
    masters_first =
        let all = length-append (map location_of h.masters) (own t h (source_layers t h g)) in
        let ms = length-map h.masters location_of in
        omega (arith, all, ms)

    no_repeat : TellsRepeat (places_of t h g) (first_repeat (places_of t h g))
        → same_place t (source_layers t h g) (places_of t h g) ≡ None
        → AllPairs (λ x y. x ≢ y) (places_of t h g)
    unfolding same_place
    no_repeat tells none = by (first_repeat (places_of t h g)) tells none
      where
        get_none : (layers : List SourceLayer) (i : ℕ) → slice_get layers i ≡ None
            → i < length layers → ⊥
        get_none [] i is within = omega (arith, within)
        get_none (layer ∷ layers) zero is within = cc
        get_none (layer ∷ layers) (suc i) is within = get_none layers i is (omega (arith, within))

        found : (o : Option SourceLayer) (i : ℕ) → slice_get (source_layers t h g) i ≡ o
            → i < length (source_layers t h g) → option_map (at_same_place t) o ≡ None
            → AllPairs (λ x y. x ≢ y) (places_of t h g)
        found None i is within e = absurd (get_none (source_layers t h g) i is within)
        found (Some layer) i is within e = absurd cc

        by : (o : Option ℕ) → TellsRepeat (places_of t h g) o
            → option_map (at_same_place t) (layer_at (source_layers t h g) o) ≡ None
            → AllPairs (λ x y. x ≢ y) (places_of t h g)
        by None told e = told
        by (Some i) told e =
            let within = told.within in
            let same = layer_each in
            found (slice_get (source_layers t h g) i) i refl (omega (arith, within, same)) e

    few : places_failure t g (source_layers t h g) (places_of t h g) ≡ None
        → length (places_of t h g) ≤ 64
    unfolding places_failure
    few none = by (nat_lt 64 (length (places_of t h g))) refl (next_none _ _ none)
      where
        by : (b : Bool) → nat_lt 64 (length (places_of t h g)) ≡ b
            → cond b (foremost (fails TooManyLayers t g)) None ≡ None
            → length (places_of t h g) ≤ 64
        by true is e = absurd cc
        by false is e = grind (arith, nat_tests)

    pub are_places : IsHeader h → IsFlatGlyph (made_notdef_of h)
        → TellsRepeat (places_of t h g) (first_repeat (places_of t h g))
        → places_failure t g (source_layers t h g) (places_of t h g) ≡ None
        → AreGlyphPlaces (places_of t h g)
    unfolding places_failure places_of
    are_places is flat tells none =
        let origin = flat.places.are_places in
        let all = length-append (map location_of h.masters) (own t h (source_layers t h g)) in
        let ms = length-map h.masters location_of in
        let some = is.origin in
        let most = few none in
        record {
          few = most;
          are_places = record {
            few = omega (arith, most);
            one_length = λ i within.
                long i [] within ∙ sym (long 0 [] (omega (arith, some, all, ms)));
            different = λ i j below within.
                no_repeat tells (first_none _ _ none) i j [] below within;
            has_zero = subst (λ (n : ℕ). Contains (places_of t h g) (replicate n zero_number))
                (first_long (omega (arith, some, ms)) ∙ sym (long 0 [] (omega (arith, some, all, ms))))
                (Contains-append_left (map location_of h.masters) (own t h (source_layers t h g)) _
                origin.has_zero);
          };
        }
      where
        masters_long : All (λ place. length place ≡ length h.axes) (map location_of h.masters)
        masters_long = All-map (λ (place : List F2Dot14). length place ≡ length h.axes) location_of
            h.masters (λ k d within. (is.masters k d within).location)

        long : All (λ place. length place ≡ length h.axes) (places_of t h g)
        long = All-append (λ (place : List F2Dot14). length place ≡ length h.axes)
            (map location_of h.masters) (own t h (source_layers t h g)) masters_long
            (All-from_recursion _ (own t h (source_layers t h g)) (own_long (source_layers t h g)))

        first_long : 0 < length (map location_of h.masters)
            → axis_count (map location_of h.masters) ≡ length h.axes
        first_long within = masters_long 0 [] within

-- ---- the shapes

module _ (t : Tree) (ranges : (kind : LayerKind) (t : Tree) (n : ℕ)
    → IsReadLayer (layer_record kind t n)) where
  abbrev first_like : LayerIr → LayerIr → Type 0
  first_like first layer = layer_form first ≡ layer_form layer

  alike : (first : LayerIr) (layers : List SourceLayer)
      → foremost (flat_map (unlike_first t first) layers) ≡ None
      → AllByRecursion (first_like first) (map (record_of t) layers)
  alike first [] e = tt
  alike first (layer ∷ layers) e =
      let parts = none_fails (same_form first (record_of t layer)) _
      (flat_map (unlike_first t first) layers) e in
      ((compared first (record_of t layer)).0 parts.0, alike first layers parts.1)

  pub one_form : (layers : List SourceLayer) → foremost (incompatible t layers) ≡ None
      → AllPairs (λ x y. layer_form x ≡ layer_form y) (map (record_of t) layers)
  one_form [] e = λ i j d below within. absurd (omega (arith, below, within))
  one_form (layer ∷ layers) e =
      let first = record_of t layer in
      let all = All-from_recursion (first_like first) (map (record_of t) (layer ∷ layers))
      (refl, alike first layers e) in
      λ i j d below within. sym (all i d (omega (arith, below, within))) ∙ all j d within

  few_by : (layer : SourceLayer) (b : Bool) (rest : List Failure)
      → nat_lt 256 (count_by is_component (record_of t layer).shapes) ≡ b
      → (cond b (fails TooManyComponents t layer.number) [] ++ rest) ≡ []
      → (count_by is_component (record_of t layer).shapes ≤ 256) × (rest ≡ [])
  few_by layer true rest is e = absurd cc
  few_by layer false rest is e = (grind (arith, nat_tests), e)

  few_components : (layers : List SourceLayer)
      → flat_map (too_many_components t) layers ≡ []
      → AllByRecursion (λ layer. count_by is_component layer.shapes ≤ 256)
      (map (record_of t) layers)
  few_components [] e = tt
  few_components (layer ∷ layers) e =
      let parts = few_by layer _ (flat_map (too_many_components t) layers) refl e in
      (parts.0, few_components layers parts.1)

  -- what holds of each layer that is read
  each : (P : LayerIr → Type 0) → ((layer : LayerIr) → IsReadLayer layer → P layer)
      → (layers : List SourceLayer) → All P (map (record_of t) layers)
  each P from layers = All-map P (record_of t) layers
      (λ k d within. from (record_of t (get_or layers k d)) (ranges (get_or layers k d).kind t
      (get_or layers k d).number))

  pub record_read : (h : Header) (index : List (List ℕ × IndexEntry)) (number g : ℕ) → IsHeader h
      → IsFlatGlyph (made_notdef_of h)
      → ((places : List (List F2Dot14)) → TellsRepeat places (first_repeat places))
      → whole_failure t h index g ≡ None → IsReadGlyph (glyph_record t h number g)
  unfolding whole_failure shapes_failure glyph_record
  record_read h index number g is flat tells none =
      let layers = source_layers t h g in
      let lies = places_failure t g layers (places_of t h g) in
      let shapes = shapes_failure t index layers in
      let unlike = foremost (incompatible t layers) in
      let unknown = first_of (flat_map (unknown_components t index) layers) in
      let many = first_of (flat_map (too_many_components t) layers) in
      let there = first_none (layers_failure t h g) (or_next lies shapes) none in
      let others = next_none (layers_failure t h g) (or_next lies shapes) none in
      let shaped = next_none lies shapes others in
      let counted = next_none unknown many (next_none unlike (or_next unknown many) shaped) in
      let crowded = first_of_none (flat_map (too_many_components t) layers) counted in
      record {
        places = are_places t h g there is flat (tells (places_of t h g))
            (first_none lies shapes others);
        masters = masters_first t h g there;
        layers = length-map layers (record_of t) ∙ sym (layer_each t h g there);
        one_form = one_form layers (first_none unlike (or_next unknown many) shaped);
        widths = each (λ (layer : LayerIr). (pos 0 ≤ℤ layer.width) × (layer.width ≤ℤ pos 32767))
            (λ layer r. r.width) layers;
        points = each (λ (layer : LayerIr). All HasPoints layer.shapes) (λ layer r. r.points)
            layers;
        ranges = each (λ (layer : LayerIr). All IsInRange layer.shapes) (λ layer r. r.ranges)
            layers;
        few_components = All-from_recursion
            (λ (layer : LayerIr). count_by is_component layer.shapes ≤ 256)
            (map (record_of t) layers) (few_components layers crowded);
        small_anchors = each (λ (layer : LayerIr). All
            (λ (anchor : Anchor). IsSmall anchor.x × IsSmall anchor.y) layer.anchors)
            (λ layer r. r.small_anchors) layers;
      }

  -- the base of each component is in the index
  each_known : (index : List (List ℕ × IndexEntry)) (ns : List ℕ)
      → flat_map (without_base t index) ns ≡ []
      → AllByRecursion (λ base. is_glyph index base ≡ true) (map (base_of t) ns)
  each_known index [] e = tt
  each_known index (n ∷ ns) e =
      let parts = none_told (is_glyph index (base_of t n)) _ (flat_map (without_base t index) ns) e
      in
      (parts.0, each_known index ns parts.1)

  layer_known : (index : List (List ℕ × IndexEntry)) (kind : LayerKind) (n : ℕ)
      → flat_map (without_base t index) (component_numbers t n) ≡ []
      → All (λ base. is_glyph index base ≡ true) (bases_of (layer_record kind t n).shapes)
  layer_known index kind n e =
      subst (All (λ (base : List ℕ). is_glyph index base ≡ true)) (components_have_bases kind t n)
      (All-from_recursion (λ (base : List ℕ). is_glyph index base ≡ true)
      (map (base_of t) (component_numbers t n)) (each_known index (component_numbers t n) e))

  known_bases : (index : List (List ℕ × IndexEntry)) (layers : List SourceLayer)
      → flat_map (unknown_components t index) layers ≡ []
      → AllByRecursion (λ (layer : LayerIr). All (λ base. is_glyph index base ≡ true)
      (bases_of layer.shapes)) (map (record_of t) layers)
  known_bases index [] e = tt
  known_bases index (layer ∷ layers) e =
      let first = unknown_components t index layer in
      let rest = flat_map (unknown_components t index) layers in (
        layer_known index layer.kind layer.number (front_empty first rest e),
        known_bases index layers (back_empty first rest e),
      )

  record_known : (h : Header) (index : List (List ℕ × IndexEntry)) (number g : ℕ)
      → whole_failure t h index g ≡ None → HasKnownBases index (glyph_record t h number g)
  unfolding whole_failure shapes_failure glyph_record
  record_known h index number g none =
      let layers = source_layers t h g in
      let lies = places_failure t g layers (places_of t h g) in
      let shapes = shapes_failure t index layers in
      let unlike = foremost (incompatible t layers) in
      let unknown = first_of (flat_map (unknown_components t index) layers) in
      let many = first_of (flat_map (too_many_components t) layers) in
      let shaped = next_none lies shapes
      (next_none (layers_failure t h g) (or_next lies shapes) none) in
      let e = first_of_none (flat_map (unknown_components t index) layers)
      (first_none unknown many (next_none unlike (or_next unknown many) shaped)) in
      All-from_recursion (λ (layer : LayerIr). All (λ (base : List ℕ). is_glyph index base ≡ true)
      (bases_of layer.shapes)) (map (record_of t) layers) (known_bases index layers e)

  -- the masters' layers come first
  masters_records : (ns : List ℕ) (ms : List Master)
      → list_all (λ (m : Master). is_some (layer_of t ns m)) ms ≡ true
      → map (record_of t) (masters_layers t ms ns) ≡ map (masters_record t ns) ms
  masters_records ns [] e = refl
  masters_records ns (m ∷ ms) e =
      by (layer_of t ns m) (list_all (λ (m : Master). is_some (layer_of t ns m)) ms) e
      (masters_records ns ms)
    where
      by : (o : Option ℕ) (all : Bool) → (is_some o && all) ≡ true
          → (all ≡ true → map (record_of t) (masters_layers t ms ns) ≡ map (masters_record t ns) ms)
          → map (record_of t) (option_map_or masters_layer o [] ++ masters_layers t ms ns)
          ≡ option_map_or (layer_record a.Master t) o
          (record { width = pos 0; shapes = []; anchors = [] }) ∷ map (masters_record t ns) ms
      by None all e rest = absurd (true≢false (sym e))
      by (Some n) all e rest =
          ap (λ (records : List LayerIr). layer_record a.Master t n ∷ records) (rest e)

  record_masters : (h : Header) (number g : ℕ) → layers_failure t h g ≡ None
      → HasMastersLayers t h g (glyph_record t h number g)
  unfolding glyph_record source_layers
  record_masters h number g there =
      let ns = layer_numbers t g in
      let masters = masters_layers t h.masters ns in
      let rest = intermediate_layers t h ns in
      record {
        others = map (record_of t) rest;
        layers = map-append (record_of t) masters rest
            ∙ ap (λ (records : List LayerIr). records ++ map (record_of t) rest)
            (masters_records ns h.masters (all_there t h g there));
      }

  record_whole : (h : Header) (index : List (List ℕ × IndexEntry)) (number : ℕ)
      → IsReadGlyph (glyph_record t h number (glyph_in index number))
      → HasMastersLayers t h (glyph_in index number)
      (glyph_record t h number (glyph_in index number))
      → HasKnownBases index (glyph_record t h number (glyph_in index number))
      → IsWholeGlyph t h index number (glyph_record t h number (glyph_in index number))
  unfolding glyph_record places_of
  record_whole h index number read layers bases = record {
    number_is = refl;
    places = refl;
    read = read;
    masters = record {
      count = refl;
      others = own t h (source_layers t h (glyph_in index number));
      places = refl;
    };
    layers = layers;
    bases = bases;
  }

  pub whole_glyph : (h : Header) (index : List (List ℕ × IndexEntry)) (number : ℕ)
      (glyph : GlyphIr) → IsHeader h → IsFlatGlyph (made_notdef_of h)
      → ((places : List (List F2Dot14)) → TellsRepeat places (first_repeat places))
      → IsGlyphOf t h index number glyph → IsWholeGlyph t h index number glyph
  unfolding judged_glyph whole_failure
  whole_glyph h index number glyph is flat tells e =
      let g = glyph_in index number in
      let layers = source_layers t h g in
      let others = or_next (places_failure t g layers (places_of t h g))
      (shapes_failure t index layers) in
      let parts = judged_ok (refusal_of RAW (name_in index number))
      (first_of (glyph_failures t h g)) (whole_failure t h index g) (glyph_record t h number g)
      glyph e in
      subst (IsWholeGlyph t h index number) parts.2
      (record_whole h index number (record_read h index number g is flat tells parts.1)
      (record_masters h number g (first_none (layers_failure t h g) others parts.1))
      (record_known h index number g parts.1))

-- ---- what calls answer

-- what holds of each glyph that is defined holds of the one that is answered
pub of_given : (P : GlyphIr → Type 0) (definition : Result GlyphIr Refusal)
    → ((glyph : GlyphIr) → definition ≡ Ok glyph → P glyph) → (r : Result GlyphIr ReadError)
    → Gives (λ (x : GlyphIr). x) r definition → IfOk r P
of_given P definition law (Ok glyph) given = law glyph given
of_given P definition law (Err e) given = tt

-- the answer for the glyph whose name and dictionary the index has under its number
module _ (t : Tree) (h : Header) (index : List (List ℕ × IndexEntry)) (number : ℕ) where
  abbrev answer : List ℕ → ℕ → Option Failure → Result GlyphIr Refusal
  answer name node o =
      judged (refusal_of RAW name) o (whole_failure t h index node) (glyph_record t h number node)

  pub answered : (local : List Failure) (name : List ℕ) (node : ℕ) (o : Option Failure)
      → name_in index number ≡ name → glyph_in index number ≡ node → o ≡ first_of local
      → answer name node o ≡ judged_glyph local t h index number
  unfolding judged_glyph
  answered local name node o names is found =
      ap (λ (text : List ℕ). answer text node o) (sym names)
      ∙ ap (λ (n : ℕ). answer (name_in index number) n o) (sym is)
      ∙ ap (λ (f : Option Failure). answer (name_in index number) (glyph_in index number) f) found

  -- where the index has this entry under the number, and these are the local rules that a glyph fails
  pub given_answer : (failures : ℕ → List Failure) (entry : List ℕ × IndexEntry)
      → slice_get index number ≡ Some entry → (o : Option Failure)
      → o ≡ first_of (failures entry.1.node) → (r : Result GlyphIr ReadError)
      → Gives (λ (x : GlyphIr). x) r (answer entry.0 entry.1.node o)
      → Gives (λ (x : GlyphIr). x) r
      (judged_glyph (failures (glyph_in index number)) t h index number)
  given_answer failures entry there o found r given =
      let names : name_in index number ≡ entry.0 =
      ap (λ (e : Option (List ℕ × IndexEntry)). option_map_or (λ glyph. glyph.0) e []) there in
      let is : glyph_in index number ≡ entry.1.node =
      ap (λ (e : Option (List ℕ × IndexEntry)). option_map_or (λ glyph. glyph.1.node) e 0) there in
      subst (λ (y : Result GlyphIr Refusal). Gives (λ (x : GlyphIr). x) r y)
      (answered (failures (glyph_in index number)) entry.0 entry.1.node o names is
      (found ∙ ap (λ (n : ℕ). first_of (failures n)) (sym is))) given
