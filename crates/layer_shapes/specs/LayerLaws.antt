-- What holds of each layer that is read, whatever the source: what the proofs of readers above need,
-- and no reader.
use Rattle.std.proofs.Common.{◌≡◌, ℕ, ◌+◌, ◌-◌, ◌*◌, ◌/◌, ◌%◌, ◌<◌, ◌≤◌, Bool, true, false, ◌&&◌}
use Rattle.std.proofs.Common.{◌||◌, ◌==◌, not, nat_lt, cond, List, [], ◌∷◌, ◌++◌, length, map}
use Rattle.std.proofs.Common.{Option, Some, None, refl, sym, ap, ◌∙◌, arith}
use Rattle.std.specs.Prelude.{codes, is_some, flat_map, slice_index, ℤ, pos, neg_ℤ}
use Rattle.std.specs.Prelude.{◌+ℤ◌, ◌*ℤ◌, ◌≤ℤ◌, if◌then◌else◌}
use Rattle.std.specs.List.{AllByRecursion, filter, count_by}
use Rattle.std.specs.Option.{option_map_or}
use Rattle.std.proofs.lemmas.List.Elements.{All-from_recursion}
use Rattle.std.proofs.lemmas.List.{length-map}
use Rattle.std.proofs.lemmas.List.Sums.{sum_by-cons}
use Rattle.std.proofs.lemmas.Bool.Decides.{nat_tests}
use Rattle.std.proofs.lemmas.Int.{ints}
use Rattle.plist_reader.specs.declared.tree.Tree.{Tree}
use Rattle.plist_reader.specs.Tree.{find_in}
use Rattle.fixed_math.specs.declared.Fixed.{Fixed}
use Rattle.fixed_math.specs.FixedPoint.{floor_quotient}
use Rattle.fixed_math.specs.FloorLaws.{floor_monotone}
use Rattle.font_ir.specs.declared.glyph.Anchor.{Anchor}
use Rattle.font_ir.specs.declared.glyph.Shape.{Shape}
use Rattle.font_ir.specs.declared.glyph.Shape.TheVariants.{Path, Component}
use Rattle.font_ir.specs.FlatGlyphs.{IsSmall, IsSmallFixed, IsSmallPoint}
use Rattle.font_ir.specs.ReadGlyphs.{HasPoints, IsInRange, IsScale, is_component}
use Rattle.refusal_codes.specs.declared.limits.TheConstants.{COORDINATE}
use Rattle.source_values.specs.declared.decimals.Decimal.{Decimal}
use Rattle.source_values.specs.declared.kinds.Range.TheVariants.{Coordinate}
use Rattle.source_values.specs.Decimals.{is_whole, is_natural_in}
use Rattle.source_values.specs.Values.{items_at, decimal_at, decimal_under, in_range, natural_by}
use Rattle.source_values.specs.Values.{natural_in, natural_or, items_under, text_or_empty}
use Rattle.layer_shapes.specs.declared.kind.LayerKind.{LayerKind}
use Rattle.layer_shapes.specs.declared.kind.LayerKind.TheVariants.{Master, Intermediate}
use Rattle.layer_shapes.specs.declared.placing.TheConstants.{GREATEST_SCALE}
use Rattle.layer_shapes.specs.Placing.{size_in_billionths, in_billionths, nearest_raw, nearest}
use Rattle.layer_shapes.specs.Placing.{is_at_most, quarters_in}
use Rattle.layer_shapes.specs.DecimalLaws.{value_small}
use Rattle.layer_shapes.specs.LayerRules.{is_pair, is_node, is_component_at, component_numbers}
use Rattle.layer_shapes.specs.LayerReading.{units_by, units_of, coordinate_of, point_by, origin}
use Rattle.layer_shapes.specs.LayerReading.{node_point, point_of, behind_first, last_first}
use Rattle.layer_shapes.specs.LayerReading.{contour_of, path_by, paths_of, bounded_by, bounded_of}
use Rattle.layer_shapes.specs.LayerReading.{bounded_pair_by, bounded_pair}
use Rattle.layer_shapes.specs.LayerReading.{component_of, other_shape, shapes_of}
use Rattle.layer_shapes.specs.LayerReading.{position_by, position_at}
use Rattle.layer_shapes.specs.LayerReading.{anchor_of, has_other_name, first_of_each_name}
use Rattle.layer_shapes.specs.LayerReading.{anchors_of, layer_record}
use Rattle.layer_shapes.specs.ReadLayers.{IsReadLayer, bases_of, ComponentsHaveTheirBases}

-- ---- whole numbers

natural_small : (low high : ℕ) (o : Option Decimal) → low ≤ high → natural_by low high o ≤ high
natural_small low high None le = le
natural_small low high (Some d) le = chosen (is_whole d && is_natural_in low high d) refl
  where
    chosen : (b : Bool) → (is_whole d && is_natural_in low high d) ≡ b
        → (if b then d.whole else low) ≤ high
    chosen true e = grind (arith, nat_tests)
    chosen false e = le

width_small : (t : Tree) (o : Option ℕ) → option_map_or (natural_in 0 32767 t) o 0 ≤ 32767
unfolding natural_in
width_small t None = omega arith
width_small t (Some n) = natural_small 0 32767 (decimal_at t n) (omega arith)

signed_small : (negative : Bool) (n : ℕ) → n ≤ 16383
    → IsSmall (if negative then neg_ℤ (pos n) else pos n)
signed_small true n le = (omega (arith, ints), omega (arith, ints))
signed_small false n le = (omega (arith, ints), omega (arith, ints))

units_small : (o : Option Decimal) → IsSmall (units_by o)
units_small None = (omega (arith, ints), omega (arith, ints))
units_small (Some d) = chosen (is_whole d && in_range Coordinate d) refl
  where
    chosen : (b : Bool) → (is_whole d && in_range Coordinate d) ≡ b
        → IsSmall (if b then (if d.negative then neg_ℤ (pos d.whole) else pos d.whole) else pos 0)
    chosen true e =
        let small : d.whole ≤ COORDINATE = grind (arith, nat_tests) in
        signed_small d.negative d.whole small
    chosen false e = (omega (arith, ints), omega (arith, ints))

in_fixed_small : (z : ℤ) → IsSmall z → IsSmallFixed (record { 0 = pos 65536 *ℤ z })
in_fixed_small z (low, high) = (omega (arith, ints), omega (arith, ints))

coordinate_small : (t : Tree) (n : ℕ) → IsSmallFixed (coordinate_of t n)
unfolding coordinate_of units_of
coordinate_small t n = in_fixed_small (units_by (decimal_at t n)) (units_small (decimal_at t n))

-- ---- decimals

abbrev in_fixed : ℤ → ℤ
in_fixed z = floor_quotient (z *ℤ pos 65536 +ℤ pos 500000000) (pos 1000000000)

in_fixed_monotone : (a b : ℤ) → a ≤ℤ b → in_fixed a ≤ℤ in_fixed b
in_fixed_monotone a b le =
    floor_monotone (a *ℤ pos 65536 +ℤ pos 500000000) (b *ℤ pos 65536 +ℤ pos 500000000) 1000000000
    (omega arith) (omega (arith, ints))

parts_small : (bound whole billionths : ℕ) → billionths < 1000000000
    → (nat_lt whole bound || (whole == bound && billionths == 0)) ≡ true
    → 1000000000 * whole + billionths ≤ 1000000000 * bound
parts_small bound whole billionths small e = grind (arith, nat_tests)

-- a number between these bounds
abbrev IsBetween : ℤ → ℤ → ℤ → Type 0
IsBetween low high z = (low ≤ℤ z) × (z ≤ℤ high)

signed_between : (negative : Bool) (size most : ℕ) → size ≤ most
    → IsBetween (neg_ℤ (pos most)) (pos most) (if negative then neg_ℤ (pos size) else pos size)
signed_between true size most le = (omega (arith, ints), omega (arith, ints))
signed_between false size most le = (omega (arith, ints), omega (arith, ints))

nearest_between : (bound : ℕ) (d : Decimal) → d.billionths < 1000000000
    → is_at_most bound d ≡ true
    → IsBetween (in_fixed (neg_ℤ (pos (1000000000 * bound)))) (in_fixed (pos (1000000000 * bound)))
    (nearest_raw d)
unfolding nearest_raw
nearest_between bound d small e =
    let between = signed_between d.negative (size_in_billionths d) (1000000000 * bound)
    (parts_small bound d.whole d.billionths small e) in (
      in_fixed_monotone (neg_ℤ (pos (1000000000 * bound))) (in_billionths d) between.0,
      in_fixed_monotone (in_billionths d) (pos (1000000000 * bound)) between.1,
    )

bounded_between : (bound : ℕ) (low high : ℤ) → low ≤ℤ pos 0 → pos 0 ≤ℤ high
    → low ≤ℤ in_fixed (neg_ℤ (pos (1000000000 * bound)))
    → in_fixed (pos (1000000000 * bound)) ≤ℤ high
    → (o : Option Decimal) → ((d : Decimal) → o ≡ Some d → d.billionths < 1000000000)
    → IsBetween low high (bounded_by bound o).0
bounded_between bound low high l h below above None small = (l, h)
bounded_between bound low high l h below above (Some d) small = chosen (is_at_most bound d) refl
  where
    chosen : (b : Bool) → is_at_most bound d ≡ b
        → IsBetween low high (let zero : Fixed = record { 0 = pos 0 } in cond b (nearest d) zero).0
    chosen true e =
        let between = nearest_between bound d (small d refl) e in
        (omega (arith, ints), omega (arith, ints))
    chosen false e = (l, h)

offset_small : (t : Tree) (n : ℕ) → IsSmallFixed (bounded_of COORDINATE t n)
unfolding bounded_of
offset_small t n =
    bounded_between COORDINATE (neg_ℤ (pos 1073676288)) (pos 1073676288) (omega (arith, ints))
    (omega (arith, ints)) (omega (arith, ints)) (omega (arith, ints)) (decimal_at t n)
    (value_small t n)

factor_small : (t : Tree) (n : ℕ) → IsScale (bounded_of GREATEST_SCALE t n)
unfolding bounded_of
factor_small t n =
    bounded_between GREATEST_SCALE (neg_ℤ (pos 1048576)) (pos 1048576) (omega (arith, ints))
    (omega (arith, ints)) (omega (arith, ints)) (omega (arith, ints)) (decimal_at t n)
    (value_small t n)

-- ---- lists

all_append : {X : Type 0} (P : X → Type 0) (xs ys : List X) → AllByRecursion P xs
    → AllByRecursion P ys
    → AllByRecursion P (xs ++ ys)
all_append P [] ys a b = b
all_append P (x ∷ xs) ys a b = (a.0, all_append P xs ys a.1 b)

all_behind : {X : Type 0} (P : X → Type 0) (x : X) (ys : List X) → P x → AllByRecursion P ys
    → AllByRecursion P (behind_first x ys)
all_behind P x [] p h = (p, tt)
all_behind P x (y ∷ ys) p h = (h.0, (p, h.1))

all_last_first : {X : Type 0} (P : X → Type 0) (xs : List X) → AllByRecursion P xs
    → AllByRecursion P (last_first xs)
all_last_first P [] h = tt
all_last_first P (x ∷ xs) h = all_behind P x (last_first xs) h.0 (all_last_first P xs h.1)

all_kept : {X : Type 0} (P : X → Type 0) (test : X → Bool) (xs : List X) → AllByRecursion P xs
    → AllByRecursion P (filter test xs)
all_kept P test [] h = tt
all_kept P test (x ∷ xs) h = chosen (test x) (all_kept P test xs h.1)
  where
    chosen : (b : Bool) → AllByRecursion P (filter test xs)
        → AllByRecursion P (cond b (x ∷ filter test xs) (filter test xs))
    chosen true rest = (h.0, rest)
    chosen false rest = rest

-- ---- paths

origin_small : IsSmallPoint origin
origin_small = (
  (omega (arith, ints), omega (arith, ints)),
  (omega (arith, ints), omega (arith, ints)),
)

node_small : (t : Tree) (o : Option (List ℕ)) → IsSmallPoint (node_point t o)
node_small t None = origin_small
node_small t (Some parts) = chosen (is_node parts)
  where
    chosen : (b : Bool) → IsSmallPoint (if b
        then point_by t (slice_index parts 0) (slice_index parts 1) (slice_index parts 2)
        else origin)
    chosen true =
        (coordinate_small t (slice_index parts 0), coordinate_small t (slice_index parts 1))
    chosen false = origin_small

points_small : (t : Tree) (nodes : List ℕ) → AllByRecursion IsSmallPoint (map (point_of t) nodes)
unfolding point_of
points_small t [] = tt
points_small t (n ∷ ns) = (node_small t (items_at t n), points_small t ns)

path_small : (t : Tree) (o : Option (List ℕ)) → AllByRecursion IsInRange (path_by t o)
unfolding contour_of
path_small t None = tt
path_small t (Some []) = tt
path_small t (Some (n ∷ ns)) = (
  All-from_recursion IsSmallPoint _ (all_last_first IsSmallPoint (map (point_of t) (n ∷ ns))
      (points_small t (n ∷ ns))),
  tt,
)

some_behind : {X : Type 0} (x : X) (ys : List X) → 0 < length (behind_first x ys)
some_behind x [] = omega arith
some_behind x (y ∷ ys) = omega arith

path_stands : (t : Tree) (o : Option (List ℕ)) → AllByRecursion HasPoints (path_by t o)
unfolding contour_of
path_stands t None = tt
path_stands t (Some []) = tt
path_stands t (Some (n ∷ ns)) = (some_behind (point_of t n) (last_first (map (point_of t) ns)), tt)

-- ---- components

module _ (P : Fixed → Type 0) (bound : ℕ) (t : Tree) (zero_so : P (record { 0 = pos 0 }))
    (so : (n : ℕ) → P (bounded_of bound t n)) where
  abbrev BothSo : Fixed × Fixed → Type 0
  BothSo two = P two.0 × P two.1

  pair_so : (o : Option (List ℕ)) → BothSo (bounded_pair_by bound t o)
  pair_so None = (zero_so, zero_so)
  pair_so (Some parts) = chosen (is_pair parts)
    where
      chosen : (b : Bool) → BothSo (cond b
          (bounded_of bound t (slice_index parts 0), bounded_of bound t (slice_index parts 1))
          (record { 0 = pos 0 }, record { 0 = pos 0 }))
      chosen true = (so (slice_index parts 0), so (slice_index parts 1))
      chosen false = (zero_so, zero_so)

  under_so : (o : Option ℕ) (missing : Fixed × Fixed) → BothSo missing
      → BothSo (option_map_or (bounded_pair bound t) o missing)
  unfolding bounded_pair
  under_so None missing h = h
  under_so (Some n) missing h = pair_so (items_at t n)

no_offset : IsSmallFixed (record { 0 = pos 0 })
no_offset = (omega (arith, ints), omega (arith, ints))

no_factor : IsScale (record { 0 = pos 0 })
no_factor = (omega (arith, ints), omega (arith, ints))

one_factor : IsScale (record { 0 = pos 65536 })
one_factor = (omega (arith, ints), omega (arith, ints))

turned_small : (negative : Bool) (n : ℕ) → (if negative then (4 - (n % 4)) % 4 else n % 4) < 4
turned_small true n = omega arith
turned_small false n = omega arith

quarters_small : (o : Option Decimal) → option_map_or quarters_in o 0 < 4
quarters_small None = omega arith
quarters_small (Some d) = turned_small d.negative (d.whole / 90)

component_small : (t : Tree) (n : ℕ) → IsInRange (component_of t n)
unfolding component_of
component_small t n =
    let offset = under_so IsSmallFixed COORDINATE t no_offset (offset_small t)
    (find_in t n (codes "pos")) (record { 0 = pos 0 }, record { 0 = pos 0 })
    (no_offset, no_offset) in
    let factor = under_so IsScale GREATEST_SCALE t no_factor (factor_small t)
    (find_in t n (codes "scale")) (record { 0 = pos 65536 }, record { 0 = pos 65536 })
    (one_factor, one_factor) in (
      offset.0,
      offset.1,
      factor.0,
      factor.1,
      quarters_small (decimal_under t n (codes "angle")),
    )

component_stands : (t : Tree) (n : ℕ) → HasPoints (component_of t n)
unfolding component_of
component_stands t n = tt

-- ---- shapes

module _ (P : Shape → Type 0) (t : Tree)
    (path : (o : Option (List ℕ)) → AllByRecursion P (path_by t o))
    (component : (n : ℕ) → P (component_of t n)) where
  of_component : (n : ℕ) (b : Bool) → AllByRecursion P (cond b (component_of t n ∷ []) [])
  of_component n true = (component n, tt)
  of_component n false = tt

  of_shape : (n : ℕ) (o : Option ℕ)
      → AllByRecursion P (option_map_or (paths_of t) o (other_shape t n))
  of_shape n None = of_component n (is_some (find_in t n (codes "ref")))
  of_shape n (Some nodes) = path (items_at t nodes)

  of_shapes : (ns : List ℕ) → AllByRecursion P (flat_map (shapes_of t) ns)
  unfolding shapes_of
  of_shapes [] = tt
  of_shapes (n ∷ ns) =
      all_append P _ _ (of_shape n (find_in t n (codes "nodes"))) (of_shapes ns)

-- ---- anchors

abbrev IsSmallAnchor : Anchor → Type 0
IsSmallAnchor anchor = IsSmall anchor.x × IsSmall anchor.y

abbrev IsSmallPosition : ℤ × ℤ → Type 0
IsSmallPosition position = IsSmall position.0 × IsSmall position.1

zero_small : IsSmall (pos 0)
zero_small = (omega (arith, ints), omega (arith, ints))

unit_small : (t : Tree) (n : ℕ) → IsSmall (units_of t n)
unfolding units_of
unit_small t n = units_small (decimal_at t n)

position_small : (t : Tree) (o : Option (List ℕ)) → IsSmallPosition (position_by t o)
position_small t None = (zero_small, zero_small)
position_small t (Some parts) = chosen (is_pair parts)
  where
    chosen : (b : Bool) → IsSmallPosition (cond b
        (units_of t (slice_index parts 0), units_of t (slice_index parts 1)) (pos 0, pos 0))
    chosen true = (unit_small t (slice_index parts 0), unit_small t (slice_index parts 1))
    chosen false = (zero_small, zero_small)

under_small : (t : Tree) (o : Option ℕ)
    → IsSmallPosition (option_map_or (position_at t) o (pos 0, pos 0))
unfolding position_at
under_small t None = (zero_small, zero_small)
under_small t (Some n) = position_small t (items_at t n)

anchors_small : (t : Tree) (ns : List ℕ) → AllByRecursion IsSmallAnchor (map (anchor_of t) ns)
unfolding anchor_of
anchors_small t [] = tt
anchors_small t (n ∷ ns) = (under_small t (find_in t n (codes "pos")), anchors_small t ns)

firsts_small : (anchors : List Anchor) → AllByRecursion IsSmallAnchor anchors
    → AllByRecursion IsSmallAnchor (first_of_each_name anchors)
firsts_small [] h = tt
firsts_small (anchor ∷ anchors) h = (
  h.0,
  all_kept IsSmallAnchor (has_other_name anchor.name) (first_of_each_name anchors)
      (firsts_small anchors h.1),
)

layer_anchors : (kind : LayerKind) (t : Tree) (layer : ℕ)
    → AllByRecursion IsSmallAnchor (anchors_of kind t layer)
unfolding anchors_of
layer_anchors Master t layer =
    let ns = items_under t layer (codes "anchors") in
    firsts_small (map (anchor_of t) ns) (anchors_small t ns)
layer_anchors Intermediate t layer = tt

-- ---- layers

-- each layer that is read is in its ranges
pub layer_is_read : (kind : LayerKind) (t : Tree) (layer : ℕ)
    → IsReadLayer (layer_record kind t layer)
unfolding layer_record
layer_is_read kind t layer =
    let shapes = items_under t layer (codes "shapes") in
    let small : natural_or 0 32767 0 t layer (codes "width") ≤ 32767
    = width_small t (find_in t layer (codes "width")) in
    record {
      width = (omega (arith, ints), omega (arith, ints));
      points = All-from_recursion HasPoints _
          (of_shapes HasPoints t (path_stands t) (component_stands t) shapes);
      ranges = All-from_recursion IsInRange _
          (of_shapes IsInRange t (path_small t) (component_small t) shapes);
      small_anchors = All-from_recursion IsSmallAnchor _ (layer_anchors kind t layer);
    }

-- ---- components and their bases

bases_joined : (xs ys : List Shape) → bases_of (xs ++ ys) ≡ bases_of xs ++ bases_of ys
bases_joined [] ys = refl
bases_joined (Path contour ∷ xs) ys = bases_joined xs ys
bases_joined (Component name at scale quarters ∷ xs) ys =
    ap (λ (bases : List (List ℕ)). name ∷ bases) (bases_joined xs ys)

path_bases : (t : Tree) (o : Option (List ℕ)) → bases_of (path_by t o) ≡ []
path_bases t None = refl
path_bases t (Some []) = refl
path_bases t (Some (n ∷ ns)) = refl

module _ (t : Tree) where
  abbrev base : ℕ → List ℕ
  base n = text_or_empty t n (codes "ref")

  other_bases : (n : ℕ) (b : Bool)
      → bases_of (cond b (component_of t n ∷ []) []) ≡ cond b (base n ∷ []) []
  unfolding component_of
  other_bases n true = refl
  other_bases n false = refl

  shape_bases : (n : ℕ) (o : Option ℕ)
      → bases_of (option_map_or (paths_of t) o (other_shape t n))
      ≡ cond (not (is_some o) && is_some (find_in t n (codes "ref"))) (base n ∷ []) []
  shape_bases n None = other_bases n (is_some (find_in t n (codes "ref")))
  shape_bases n (Some nodes) = path_bases t (items_at t nodes)

  one_base : (n : ℕ) (ns : List ℕ) (b : Bool)
      → map base (cond b (n ∷ ns) ns) ≡ cond b (base n ∷ []) [] ++ map base ns
  one_base n ns true = refl
  one_base n ns false = refl

  all_bases : (ns : List ℕ)
      → map base (filter (is_component_at t) ns) ≡ bases_of (flat_map (shapes_of t) ns)
  unfolding shapes_of
  all_bases [] = refl
  all_bases (n ∷ ns) =
      one_base n (filter (is_component_at t) ns) (is_component_at t n)
      ∙ ap (λ (bases : List (List ℕ)). cond (is_component_at t n) (base n ∷ []) [] ++ bases)
      (all_bases ns)
      ∙ ap (λ (bases : List (List ℕ)). bases ++ bases_of (flat_map (shapes_of t) ns))
      (sym (shape_bases n (find_in t n (codes "nodes"))))
      ∙ sym (bases_joined (option_map_or (paths_of t) (find_in t n (codes "nodes"))
      (other_shape t n)) (flat_map (shapes_of t) ns))

-- the numbers of a layer's components name the glyphs that its components draw
pub components_have_bases : ComponentsHaveTheirBases
unfolding component_numbers layer_record
components_have_bases kind t layer = all_bases t (items_under t layer (codes "shapes"))

count_bases : (shapes : List Shape) → count_by is_component shapes ≡ length (bases_of shapes)
count_bases [] = refl
count_bases (Path contour ∷ shapes) = count_bases shapes
count_bases (Component name at scale quarters ∷ shapes) =
    omega (
      arith,
      count_bases shapes,
      sum_by-cons (λ (shape : Shape). cond (is_component shape) 1 0)
          (Component name at scale quarters) shapes,
    )

-- so they are as many
pub components_are_counted : (kind : LayerKind) (t : Tree) (layer : ℕ)
    → count_by is_component (layer_record kind t layer).shapes
    ≡ length (component_numbers t layer)
components_are_counted kind t layer =
    count_bases (layer_record kind t layer).shapes
    ∙ sym (ap length (components_have_bases kind t layer))
    ∙ length-map (component_numbers t layer) (λ n. text_or_empty t n (codes "ref"))
