-- What is drawn fulfils what writers ask of a flat glyph.
use Rattle.std.proofs.Common.{◌≡◌, ℕ, zero, suc, ◌+◌, ◌<◌, ◌≤◌, Bool, true, false, List, [], ◌∷◌}
use Rattle.std.proofs.Common.{◌++◌, length, get_or, map, Option, Some, None, Result, Ok, Err, refl, sym, ap}
use Rattle.std.proofs.Common.{◌∙◌, subst, arith, cond}
use Rattle.std.specs.Prelude.{not, ◌&&◌, ◌||◌, nat_lt, nat_le, ℤ, pos, negsuc, neg_ℤ, ◌≤ℤ◌}
use Rattle.std.specs.Prelude.{unsigned_abs, if◌then◌else◌, IfOk, slice_index_or, ◌*ℤ◌, ◌<ℤ◌, ◌+ℤ◌}
use Rattle.std.specs.List.{All, AllPairs, AllByRecursion, list_any, list_all, count_by}
use Rattle.std.specs.Option.{option_map}
use Rattle.std.proofs.lemmas.Bool.{leb-true, ltb-false}
use Rattle.std.proofs.lemmas.Int.{ints}
use Rattle.std.proofs.lemmas.List.{length-map}
use Rattle.std.proofs.lemmas.List.Elements.{All-from_recursion, recursion_from_All, All-nil}
use Rattle.std.proofs.lemmas.List.Elements.{All-map}
use Rattle.std.proofs.lemmas.List.Sums.{AllPass-from_list_all, sum_by-cons}
use Rattle.fixed_math.specs.declared.Fixed.{Fixed}
use Rattle.fixed_math.specs.declared.F2Dot14.{F2Dot14}
use Rattle.fixed_math.specs.FloorLaws.{floor_at_most, floor_above, times_below_next}
use Rattle.font_ir.specs.declared.glyph.DrawnPoint.{DrawnPoint}
use Rattle.font_ir.specs.declared.glyph.Contour.{Contour}
use Rattle.font_ir.specs.declared.glyph.Shape.{Shape}
use Rattle.font_ir.specs.declared.glyph.Shape.TheVariants.{Path, Component}
use Rattle.font_ir.specs.declared.glyph.LayerIr.{LayerIr}
use Rattle.font_ir.specs.declared.glyph.GlyphIr.{GlyphIr}
use Rattle.font_ir.specs.declared.glyph.Kept.{Kept}
use Rattle.font_ir.specs.declared.glyph.FlatGlyph.{FlatGlyph}
use Rattle.font_ir.specs.FlatGlyphs.{IsSmall, IsSmallFixed, IsSmallPoint, shape_of, point_count}
use Rattle.font_ir.specs.FlatGlyphs.{IsFlatGlyph}
use Rattle.font_ir.specs.Places.{place_at}
use Rattle.font_ir.specs.ReadGlyphs.{ShapeForm, form_of, layer_form, HasPoints, IsReadGlyph}
use Rattle.font_ir.specs.ReadGlyphs.{IsInRange, is_component}
use Rattle.font_ir.specs.ReadGlyphs.{HasNoComponents}
use Rattle.glyphs_source.specs.declared.entries.IndexEntry.{IndexEntry}
use Rattle.refusal_codes.specs.declared.errors.ReadError.{ReadError}
use Rattle.refusal_codes.specs.declared.refusal.Refusal.{Refusal}
use Rattle.refusal_codes.specs.declared.rule.Rule.{Rule}
use Rattle.refusal_codes.specs.declared.rule.Rule.TheVariants.{CoordinateTooLarge, TooManyPoints}
use Rattle.refusal_codes.specs.declared.rule.Rule.TheVariants.{DeltaTooLarge}
use Rattle.refusal_codes.specs.declared.first.Failure.{Failure}
use Rattle.refusal_codes.specs.declared.job.TheConstants.{FLAT}
use Rattle.refusal_codes.specs.First.{foremost, refusal_of, judged}
use Rattle.refusal_codes.specs.Gives.{Gives}
use Rattle.component_flatten.specs.Places.{has_large_deltas}
use Rattle.component_flatten.specs.Anchors.{anchors_of, first_anchors}
use Rattle.component_flatten.proofs.AnchorLaws.{used_good, all_take}
use Rattle.font_ir.specs.declared.glyph.Anchor.{Anchor}
use Rattle.std.proofs.Common.{take}
use Rattle.std.proofs.lemmas.List.{length-take}
use Rattle.component_flatten.specs.BaseLaws.{not_kept}
use Rattle.component_flatten.specs.Flattening.{flat_record, flat_of, made_of}
use Rattle.component_flatten.specs.Judging.{first_rule, rule_of, points_of}
use Rattle.component_flatten.specs.Numbered.{numbered, flat_numbered}
use Rattle.component_flatten.specs.Drawing.{layer_drawn, glyph_drawn, first_shapes, names_of}
use Rattle.component_flatten.specs.Drawing.{component_names}
use Rattle.component_flatten.specs.Composites.{units, offset_of, offset_in, kept_shape}
use Rattle.component_flatten.specs.Composites.{stays_composite}
use Rattle.component_flatten.specs.Flattening.{has_many_points, is_small, is_small_point}
use Rattle.component_flatten.specs.Flattening.{has_small_points, are_small, IsBase}
use Rattle.component_flatten.proofs.ShapeLaws.{form_shape, shape_shapes, shapes_some, HasSome}
use Rattle.component_flatten.proofs.ShapeLaws.{names_by_form, form_names, count_shapes, total}
use Rattle.component_flatten.proofs.ShapeLaws.{total_is}

-- ---- numbered lists

pub length-numbered : {X Y : Type 0} (f : ℕ → X → Y) (k : ℕ) (xs : List X)
    → length (numbered f k xs) ≡ length xs
length-numbered f k [] = refl
length-numbered f k (x ∷ xs) = omega (arith, length-numbered f (k + 1) xs)

pub all_numbered : {X Y : Type 0} (P : Y → Type 0) (Q : X → Type 0) (f : ℕ → X → Y)
    → ((k : ℕ) (x : X) → Q x → P (f k x)) → (k : ℕ) (xs : List X) → AllByRecursion Q xs
    → AllByRecursion P (numbered f k xs)
all_numbered P Q f holds k [] h = tt
all_numbered P Q f holds k (x ∷ xs) h =
    (holds k x h.0, all_numbered P Q f holds (k + 1) xs h.1)

-- ---- one shape

-- each layer draws the shape of its form
abbrev pub HasShape : List (List Bool) → List Contour → Type 0
HasShape shape contours = shape_of contours ≡ shape

bases_flat : (places : List (List F2Dot14)) (bases : List FlatGlyph)
    → All (IsBase places) bases → AllByRecursion IsFlatGlyph bases
bases_flat places bases h = recursion_from_All IsFlatGlyph bases
    (λ k base within. (h k base within).flat)

abbrev pub first_layer : List LayerIr → LayerIr
first_layer layers = slice_index_or layers 0 (record { width = pos 0; shapes = []; anchors = [] })

same_form : (layer : LayerIr) (layers : List LayerIr)
    → AllPairs (λ a b. layer_form a ≡ layer_form b) (layer ∷ layers) → (k : ℕ) (d : LayerIr)
    → k < length (layer ∷ layers)
    → layer_form (get_or (layer ∷ layers) k d) ≡ layer_form layer
same_form layer layers h zero d within = refl
same_form layer layers h (suc k) d within = sym (h 0 (suc k) d (omega arith) within)

same_forms : (layers : List LayerIr) → AllPairs (λ a b. layer_form a ≡ layer_form b) layers
    → All (λ layer. layer_form layer ≡ layer_form (first_layer layers)) layers
same_forms [] h = λ k d within. absurd (omega (arith, within))
same_forms (layer ∷ layers) h = λ k d within. same_form layer layers h k d within

drawn_shape : (places : List (List F2Dot14)) (bases : List FlatGlyph) (layers : List LayerIr)
    → All (IsBase places) bases → AllPairs (λ a b. layer_form a ≡ layer_form b) layers
    → All (HasShape (form_shape bases (layer_form (first_layer layers))))
    (numbered (layer_drawn places bases) 0 layers)
drawn_shape places bases layers based forms =
    let form = layer_form (first_layer layers) in
    let P : List Contour → Type 0 = HasShape (form_shape bases form) in
    let Q : LayerIr → Type 0 = λ layer. layer_form layer ≡ form in
    All-from_recursion P (numbered (layer_drawn places bases) 0 layers)
    (all_numbered P Q (layer_drawn places bases)
    (λ k layer e. shape_shapes (place_at places k) bases layer.shapes (bases_flat places bases based)
    ∙ ap (form_shape bases) e) 0 layers (recursion_from_All Q layers (same_forms layers forms)))

drawn_some : (places : List (List F2Dot14)) (bases : List FlatGlyph) (layers : List LayerIr)
    → All (IsBase places) bases → All (λ layer. All HasPoints layer.shapes) layers
    → All (λ contours. All HasSome contours) (numbered (layer_drawn places bases) 0 layers)
drawn_some places bases layers based points =
    let P : List Contour → Type 0 = λ contours. All HasSome contours in
    let Q : LayerIr → Type 0 = λ layer. All HasPoints layer.shapes in
    All-from_recursion P (numbered (layer_drawn places bases) 0 layers)
    (all_numbered P Q (layer_drawn places bases)
    (λ k layer h. All-from_recursion HasSome (layer_drawn places bases k layer)
    (shapes_some (place_at places k) bases layer.shapes (bases_flat places bases based)
    (recursion_from_All HasPoints layer.shapes h))) 0 layers (recursion_from_All Q layers points))

pub layer_names : (glyph : GlyphIr) → IsReadGlyph glyph → (i : ℕ) (layer : LayerIr)
    → i < length glyph.layers → layer ≡ get_or glyph.layers i layer
    → names_of layer.shapes ≡ component_names glyph
layer_names glyph read i layer lt e =
    names_by_form layer.shapes
    ∙ ap (λ (l : LayerIr). form_names (layer_form l)) e
    ∙ ap (λ (form : List ShapeForm). form_names form) (same_forms glyph.layers read.one_form i layer lt)
    ∙ sym (names_by_form (first_shapes glyph))

pub within_layers : (glyph : GlyphIr) → IsReadGlyph glyph → (n : ℕ)
    → n < length (first_shapes glyph) → All (λ layer. n < length layer.shapes) glyph.layers
within_layers glyph read n lt = λ k d within.
    let layer = get_or glyph.layers k d in
    let same = ap (λ (form : List ShapeForm). length form)
    (same_forms glyph.layers read.one_form k d within) in
    let own = length-map layer.shapes form_of in
    let first = length-map (first_shapes glyph) form_of in
    omega (arith, same, own, first, lt)

any_same : {X : Type 0} (test : X → Bool) (b : Bool) (xs : List X)
    → AllByRecursion (λ x. test x ≡ b) xs → 0 < length xs → list_any test xs ≡ b
any_same test b [] h some = absurd (omega (arith, some))
any_same test b (x ∷ []) h some = one (test x) b h.0
  where
    one : (a c : Bool) → a ≡ c → (a || false) ≡ c
    one true c e = e
    one false c e = e
any_same test b (x ∷ y ∷ xs) h some =
    two (test x) _ b h.0 (any_same test b (y ∷ xs) h.1 (omega arith))
  where
    two : (a r c : Bool) → a ≡ c → r ≡ c → (a || r) ≡ c
    two true r c e f = e
    two false r c e f = f

pub many_points : (glyph : GlyphIr) (bases : List FlatGlyph) → IsReadGlyph glyph
    → All (IsBase glyph.places) bases → list_any has_many_points (glyph_drawn glyph bases)
    ≡ nat_lt 8000 (points_of bases (first_shapes glyph))
many_points glyph bases read based =
    let form = layer_form (first_layer glyph.layers) in
    let count = points_of bases (first_shapes glyph) in
    let Q : LayerIr → Type 0 = λ layer. layer_form layer ≡ form in
    let P : List Contour → Type 0 = λ contours. has_many_points contours ≡ nat_lt 8000 count in
    let zero_place = read.places.are_places.has_zero in
    let some : 0 < length (glyph_drawn glyph bases) =
    omega (
      arith,
      length-numbered (layer_drawn glyph.places bases) 0 glyph.layers,
      read.layers,
      zero_place.1,
    ) in
    any_same has_many_points (nat_lt 8000 count) (glyph_drawn glyph bases)
    (all_numbered P Q (layer_drawn glyph.places bases)
    (λ k layer e. ap (λ n. nat_lt 8000 n)
    (count_shapes (place_at glyph.places k) bases layer.shapes (bases_flat glyph.places bases based)
    ∙ ap (λ (f : List ShapeForm). total (form_shape bases f)) e
    ∙ total_is bases (first_shapes glyph)))
    0 glyph.layers (recursion_from_All Q glyph.layers (same_forms glyph.layers read.one_form))) some

-- ---- tests

both_true : (a b : Bool) → (a && b) ≡ true → (a ≡ true) × (b ≡ true)
both_true true b e = (refl, e)
both_true false b e = absurd cc

both_false : (a b : Bool) → (a || b) ≡ false → (a ≡ false) × (b ≡ false)
both_false true b e = absurd cc
both_false false b e = (refl, e)

all_true : {X : Type 0} (test : X → Bool) (P : X → Type 0) → ((x : X) → test x ≡ true → P x)
    → (xs : List X) → list_all test xs ≡ true → All P xs
all_true test P holds xs e = λ k d within. holds (get_or xs k d)
    (AllPass-from_list_all test xs e k d within)

none_true : {X : Type 0} (test : X → Bool) (P : X → Type 0) → ((x : X) → test x ≡ false → P x)
    → (xs : List X) → list_any test xs ≡ false → AllByRecursion P xs
none_true test P holds [] e = tt
none_true test P holds (x ∷ xs) e =
    let parts = both_false (test x) (list_any test xs) e in
    (holds x parts.0, none_true test P holds xs parts.1)

small_number : (z : ℤ) (m : ℕ) → nat_le (unsigned_abs z) m ≡ true
    → (neg_ℤ (pos m) ≤ℤ z) × (z ≤ℤ pos m)
small_number (pos n) m e = let below : n ≤ m = leb-true n m e
    in (omega (arith, ints), omega (arith, ints))
small_number (negsuc n) m e = let below : suc n ≤ m = leb-true (suc n) m e
    in (omega (arith, ints), omega (arith, ints))

small_fixed : (f : Fixed) → is_small f ≡ true → IsSmallFixed f
small_fixed f e = small_number f.0 1073676288 e

small_point : (point : DrawnPoint) → is_small_point point ≡ true → IsSmallPoint point
small_point point e =
    let parts = both_true (is_small point.x) (is_small point.y) e in
    (small_fixed point.x parts.0, small_fixed point.y parts.1)

small_contour : (contour : Contour) → has_small_points contour ≡ true
    → All IsSmallPoint contour.points
small_contour contour e = all_true is_small_point IsSmallPoint small_point contour.points e

small_contours : (contours : List Contour) → are_small contours ≡ true
    → All (λ contour. All IsSmallPoint contour.points) contours
small_contours contours e = all_true has_small_points
    (λ (contour : Contour). All IsSmallPoint contour.points) small_contour contours e

few_points : (contours : List Contour) → has_many_points contours ≡ false
    → point_count contours ≤ 8000
few_points contours e = ltb-false 8000 (point_count contours) e

-- ---- components that stay

units_small : (f : Fixed) → IsSmallFixed f → IsSmall (units f)
units_small f h =
    let low = floor_above f.0 65536 (omega arith) in
    let high = floor_at_most f.0 65536 (omega arith) in
    let lower : (neg_ℤ (pos 16383) *ℤ pos 65536) <ℤ (units f *ℤ pos 65536 +ℤ pos 65536) =
    omega (arith, ints, h.0) in
    let upper : (units f *ℤ pos 65536) <ℤ (pos 16383 *ℤ pos 65536 +ℤ pos 65536) =
    omega (arith, ints, h.1) in (
      times_below_next (neg_ℤ (pos 16383)) (units f) 65536 lower,
      times_below_next (units f) (pos 16383) 65536 upper,
    )

abbrev pub IsSmallOffset : ℤ × ℤ → Type 0
IsSmallOffset offset = IsSmall offset.0 × IsSmall offset.1

zero_small : IsSmall (pos 0)
zero_small = (omega (arith, ints), omega (arith, ints))

offset_small : (shape : Shape) → IsInRange shape → IsSmallOffset (offset_of shape)
offset_small (Path contour) h = (zero_small, zero_small)
offset_small (Component base at scale quarters) h =
    (units_small at.0 h.0, units_small at.1 h.1)

shape_offset : (shapes : List Shape) (n : ℕ) → AllByRecursion IsInRange shapes
    → IsSmallOffset (offset_of (get_or shapes n (Path (record { points = [] }))))
shape_offset [] n h = (zero_small, zero_small)
shape_offset (shape ∷ shapes) zero h = offset_small shape h.0
shape_offset (shape ∷ shapes) (suc n) h = shape_offset shapes n h.1

offsets_small : (layers : List LayerIr) (n : ℕ) → All (λ layer. All IsInRange layer.shapes) layers
    → All IsSmallOffset (map (offset_in n) layers)
offsets_small layers n h = All-map IsSmallOffset (offset_in n) layers
    (λ k d within. shape_offset (get_or layers k d).shapes n
    (recursion_from_All IsInRange (get_or layers k d).shapes (h k d within)))

-- what holds of each component that stays
all_kept : (P : Kept → Type 0) (layers : List LayerIr)
    → ((n : ℕ) (name : List ℕ) → P (record { base = name; at = map (offset_in n) layers }))
    → (k : ℕ) (shapes : List Shape) → AllByRecursion P (flat_numbered (kept_shape layers) k shapes)
all_kept P layers holds k [] = tt
all_kept P layers holds k (Path contour ∷ shapes) = all_kept P layers holds (k + 1) shapes
all_kept P layers holds k (Component base at scale quarters ∷ shapes) =
    (holds k base, all_kept P layers holds (k + 1) shapes)

kept_if : (P : Kept → Type 0) (b : Bool) (kept : List Kept) → All P kept
    → All P (if b then kept else [])
kept_if P true kept h = h
kept_if P false kept h = All-nil P

kept_have : (P : Kept → Type 0) (b : Bool) (layers : List LayerIr) (shapes : List Shape)
    → ((n : ℕ) (name : List ℕ) → P (record { base = name; at = map (offset_in n) layers }))
    → All P (if b then flat_numbered (kept_shape layers) 0 shapes else [])
kept_have P b layers shapes holds = kept_if P b (flat_numbered (kept_shape layers) 0 shapes)
    (All-from_recursion P (flat_numbered (kept_shape layers) 0 shapes)
    (all_kept P layers holds 0 shapes))

length-kept : (layers : List LayerIr) (k : ℕ) (shapes : List Shape)
    → length (flat_numbered (kept_shape layers) k shapes) ≡ count_by is_component shapes
length-kept layers k [] = refl
length-kept layers k (Path contour ∷ shapes) =
    let counted = sum_by-cons (λ (s : Shape). cond (is_component s) 1 0) (Path contour) shapes in
    omega (arith, counted, length-kept layers (k + 1) shapes)
length-kept layers k (Component base at scale quarters ∷ shapes) =
    let counted = sum_by-cons (λ (s : Shape). cond (is_component s) 1 0)
    (Component base at scale quarters) shapes in
    omega (arith, counted, length-kept layers (k + 1) shapes)

few_if : (b : Bool) (kept : List Kept) (n : ℕ) → length kept ≤ n
    → length (if b then kept else []) ≤ n
few_if true kept n h = h
few_if false kept n h = omega arith

few_first : (layers : List LayerIr)
    → All (λ layer. count_by is_component layer.shapes ≤ 256) layers
    → count_by is_component (first_layer layers).shapes ≤ 256
few_first [] h = omega arith
few_first (layer ∷ layers) h = h 0 layer (omega arith)

-- ---- the glyph

pub flat_facts : (index : List (List ℕ × IndexEntry)) (glyph : GlyphIr) (bases : List FlatGlyph)
    → IsReadGlyph glyph → All (IsBase glyph.places) bases
    → list_any has_many_points (glyph_drawn glyph bases) ≡ false
    → list_all are_small (glyph_drawn glyph bases) ≡ true
    → IsFlatGlyph (flat_record index glyph bases)
unfolding flat_record
flat_facts index glyph bases read based few small =
    let shapes = drawn_shape glyph.places bases glyph.layers based read.one_form in
    let layers = take glyph.masters glyph.layers in
    let many : length layers ≡ glyph.masters =
    omega (arith, length-take glyph.masters glyph.layers, read.masters, read.layers) in
    let good = used_good IsSmallOffset layers (first_anchors layers)
    (all_take (λ (l : LayerIr). All (λ (a : Anchor). IsSmallOffset (a.x, a.y)) l.anchors)
    glyph.masters glyph.layers (recursion_from_All
    (λ (l : LayerIr). All (λ (a : Anchor). IsSmallOffset (a.x, a.y)) l.anchors) glyph.layers
    read.small_anchors)) in
    let each = All-from_recursion (λ (u : List ℕ × List (ℤ × ℤ)).
    AllByRecursion IsSmallOffset u.1 × (length u.1 ≡ length layers)) (anchors_of glyph) good in
    record {
      places = read.places;
      widths = length-map glyph.layers (λ layer. layer.width) ∙ read.layers;
      drawn = length-numbered (layer_drawn glyph.places bases) 0 glyph.layers ∙ read.layers;
      offsets = kept_have (λ (kept : Kept). length kept.at ≡ length glyph.places)
          (stays_composite index glyph) glyph.layers (first_shapes glyph)
          (λ n name. length-map glyph.layers (offset_in n) ∙ read.layers);
      one_shape = λ i j d below within. shapes i d (omega arith) ∙ sym (shapes j d within);
      few_points = All-from_recursion (λ (contours : List Contour). point_count contours ≤ 8000)
          (glyph_drawn glyph bases) (none_true has_many_points
          (λ (contours : List Contour). point_count contours ≤ 8000) few_points
          (glyph_drawn glyph bases) few);
      no_empty_contour = drawn_some glyph.places bases glyph.layers based read.points;
      few_kept = few_if (stays_composite index glyph) _ 256
          (omega (
            arith,
            length-kept glyph.layers 0 (first_shapes glyph),
            few_first glyph.layers read.few_components,
          ));
      small_points = all_true are_small (λ (contours : List Contour). All
          (λ (contour : Contour). All IsSmallPoint contour.points) contours) small_contours
          (glyph_drawn glyph bases) small;
      small_offsets = kept_have (λ (kept : Kept). All IsSmallOffset kept.at)
          (stays_composite index glyph) glyph.layers (first_shapes glyph)
          (λ n name. offsets_small glyph.layers n read.ranges);
      small_anchors = λ k d within. All-from_recursion IsSmallOffset
          (get_or (anchors_of glyph) k d).1 (each k d within).0;
      width_range = All-map (λ (width : ℤ). (pos 0 ≤ℤ width) × (width ≤ℤ pos 32767))
          (λ (layer : LayerIr). layer.width) glyph.layers read.widths;
      anchors = (glyph.masters, read.masters, λ k d within. (each k d within).1 ∙ many);
    }

-- ---- limits

first_failure : (many large small : Bool) (place : ℕ)
    → foremost ((if many then record { rule = TooManyPoints; place = place } ∷ [] else [])
    ++ (if large then record { rule = DeltaTooLarge; place = place } ∷ [] else [])
    ++ (if not small then record { rule = CoordinateTooLarge; place = place } ∷ [] else []))
    ≡ option_map (λ (rule : Rule). record { rule = rule; place = place })
    (first_rule many large small)
first_failure true large small place = refl
first_failure false true small place = refl
first_failure false false true place = refl
first_failure false false false place = refl

flat_by_rule : (index : List (List ℕ × IndexEntry)) (name : List ℕ) (glyph : GlyphIr)
    (bases : List FlatGlyph) → flat_of index name glyph bases
    ≡ judged (refusal_of FLAT name) None
    (option_map (λ (r : Rule). record { rule = r; place = glyph.place }) (rule_of glyph bases))
    (flat_record index glyph bases)
unfolding flat_of flat_record
flat_by_rule index name glyph bases =
    ap (λ (first : Option Failure). judged (refusal_of FLAT name) None first
    (flat_record index glyph bases))
    (first_failure (list_any has_many_points (glyph_drawn glyph bases))
    (list_any (has_large_deltas glyph.places) bases)
    (list_all are_small (glyph_drawn glyph bases)) glyph.place)

pub flat_broken : (index : List (List ℕ × IndexEntry)) (name : List ℕ) (glyph : GlyphIr)
    (bases : List FlatGlyph) (rule : Rule) → rule_of glyph bases ≡ Some rule
    → flat_of index name glyph bases
    ≡ Err (refusal_of FLAT name (record { rule = rule; place = glyph.place }))
flat_broken index name glyph bases rule e = flat_by_rule index name glyph bases
    ∙ ap (λ (first : Option Rule). judged (refusal_of FLAT name) None
    (option_map (λ (r : Rule). record { rule = r; place = glyph.place }) first)
    (flat_record index glyph bases)) e

pub flat_refused : (index : List (List ℕ × IndexEntry)) (name copy : List ℕ) (glyph : GlyphIr)
    (bases : List FlatGlyph) (rule : Rule) → copy ≡ name → rule_of glyph bases ≡ Some rule
    → flat_of index name glyph bases
    ≡ Err (refusal_of FLAT copy (record { rule = rule; place = glyph.place }))
flat_refused index name copy glyph bases rule same e =
    flat_broken index name glyph bases rule e
    ∙ ap (λ (n : List ℕ). Err (refusal_of FLAT n (record { rule = rule; place = glyph.place })))
    (sym same)

pub flat_within : (index : List (List ℕ × IndexEntry)) (name : List ℕ) (glyph : GlyphIr)
    (bases : List FlatGlyph) → rule_of glyph bases ≡ None
    → flat_of index name glyph bases ≡ Ok (flat_record index glyph bases)
flat_within index name glyph bases e = flat_by_rule index name glyph bases
    ∙ ap (λ (first : Option Rule). judged (refusal_of FLAT name) None
    (option_map (λ (r : Rule). record { rule = r; place = glyph.place }) first)
    (flat_record index glyph bases)) e

pub flat_made : (index : List (List ℕ × IndexEntry)) (name : List ℕ) (glyph : GlyphIr)
    (bases : List FlatGlyph) (flat : FlatGlyph)
    → flat ≡ made_of index glyph (glyph_drawn glyph bases) → rule_of glyph bases ≡ None
    → flat_of index name glyph bases ≡ Ok flat
unfolding flat_record
flat_made index name glyph bases flat made e =
    flat_within index name glyph bases e ∙ ap (λ (f : FlatGlyph). Ok f) (sym made)

-- where no rule is broken
none_broken : (many large small : Bool) → first_rule many large small ≡ None
    → (many ≡ false) × (small ≡ true)
none_broken true large small e = absurd cc
none_broken false true small e = absurd cc
none_broken false false true e = (refl, refl)
none_broken false false false e = absurd cc

pub answered : (index : List (List ℕ × IndexEntry)) (name : List ℕ) (glyph : GlyphIr)
    (bases : List FlatGlyph) (rule : Option Rule) (x : FlatGlyph) → rule_of glyph bases ≡ rule
    → flat_of index name glyph bases ≡ Ok x
    → (rule_of glyph bases ≡ None) × (flat_record index glyph bases ≡ x)
answered index name glyph bases None x e given =
    let A : Type 0 = Result FlatGlyph Refusal in
    let same : ◌≡◌ {A = A} (Ok (flat_record index glyph bases)) (Ok x) =
    sym (flat_within index name glyph bases e) ∙ given in
    (e, cc)
answered index name glyph bases (Some rule) x e given =
    let A : Type 0 = Result FlatGlyph Refusal in
    let same : ◌≡◌ {A = A}
    (Err (refusal_of FLAT name (record { rule = rule; place = glyph.place }))) (Ok x) =
    sym (flat_broken index name glyph bases rule e) ∙ given in
    absurd cc

pub flat_glyph : (index : List (List ℕ × IndexEntry)) (glyph : GlyphIr) (bases : List FlatGlyph)
    → IsReadGlyph glyph → All (IsBase glyph.places) bases
    → (name : List ℕ) (r : Result FlatGlyph ReadError)
    → Gives (λ (x : FlatGlyph). x) r (flat_of index name glyph bases) → IfOk r IsFlatGlyph
flat_glyph index glyph bases read based name (Err error) given = tt
flat_glyph index glyph bases read based name (Ok x) given =
    let parts = answered index name glyph bases (rule_of glyph bases) x refl given in
    let kept = none_broken (list_any has_many_points (glyph_drawn glyph bases))
    (list_any (has_large_deltas glyph.places) bases)
    (list_all are_small (glyph_drawn glyph bases)) parts.0 in
    subst (λ (y : FlatGlyph). IsFlatGlyph y) parts.1
    (flat_facts index glyph bases read based kept.0 kept.1)

pub flat_not_kept : (index : List (List ℕ × IndexEntry)) (glyph : GlyphIr) (bases : List FlatGlyph)
    → HasNoComponents glyph → (name : List ℕ) (r : Result FlatGlyph ReadError)
    → Gives (λ (x : FlatGlyph). x) r (flat_of index name glyph bases)
    → IfOk r (λ x. x.kept ≡ [])
unfolding flat_record
flat_not_kept index glyph bases none name (Err error) given = tt
flat_not_kept index glyph bases none name (Ok x) given =
    let parts = answered index name glyph bases (rule_of glyph bases) x refl given in
    sym (ap (λ (flat : FlatGlyph). flat.kept) parts.1) ∙ not_kept index glyph none
