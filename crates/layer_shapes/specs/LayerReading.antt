-- What a layer of a glyph holds (Glyphs file format, version 3; that the last node stored is where
-- a contour starts, and what missing keys mean, is fontc's own reading). A value that fails a rule
-- reads as some number in its range, so that each record has its numbers in their ranges.
use Rattle.std.specs.Prelude.{ℕ, ◌*ℤ◌, Bool, ◌&&◌, not, true, List, [], ◌∷◌, map}
use Rattle.std.specs.Prelude.{flat_map, slice_index, codes, is_some, Option, Some, None, ℤ, pos}
use Rattle.std.specs.Prelude.{neg_ℤ, nat_eq, if◌then◌else◌}
use Rattle.std.specs.Option.{option_map_or}
use Rattle.std.specs.List.{filter}
use Rattle.std.specs.Cmp.Lexicographic.{pointwise}
use Rattle.plist_reader.specs.declared.tree.Tree.{Tree}
use Rattle.plist_reader.specs.Tree.{find_in}
use Rattle.fixed_math.specs.declared.Fixed.{Fixed}
use Rattle.font_ir.specs.declared.glyph.Anchor.{Anchor}
use Rattle.font_ir.specs.declared.glyph.DrawnPoint.{DrawnPoint}
use Rattle.font_ir.specs.declared.glyph.Contour.{Contour}
use Rattle.font_ir.specs.declared.glyph.Shape.{Shape}
use Rattle.font_ir.specs.declared.glyph.Shape.TheVariants.{Path, Component}
use Rattle.font_ir.specs.declared.glyph.LayerIr.{LayerIr}
use Rattle.refusal_codes.specs.declared.limits.TheConstants.{COORDINATE}
use Rattle.source_values.specs.declared.decimals.Decimal.{Decimal}
use Rattle.source_values.specs.declared.kinds.Range.TheVariants.{Coordinate}
use Rattle.source_values.specs.Decimals.{is_whole}
use Rattle.source_values.specs.Values.{items_at, decimal_at, decimal_under, in_range, natural_or}
use Rattle.source_values.specs.Values.{items_under, text_or_empty}
use Rattle.layer_shapes.specs.declared.kind.LayerKind.{LayerKind}
use Rattle.layer_shapes.specs.declared.kind.LayerKind.TheVariants.{Master, Intermediate}
use Rattle.layer_shapes.specs.declared.placing.TheConstants.{GREATEST_SCALE}
use Rattle.layer_shapes.specs.Placing.{nearest, is_at_most, quarters_in}
use Rattle.layer_shapes.specs.LayerRules.{is_pair, is_node, is_off_curve}

-- ---- whole coordinates

-- a coordinate in font units: a whole number of at most 16383 in size, 0 where the value is none
abbrev pub units_by : Option Decimal → ℤ
units_by None = pos 0
units_by (Some d) =
    if is_whole d && in_range Coordinate d
    then (if d.negative then neg_ℤ (pos d.whole) else pos d.whole)
    else pos 0

unfoldable pub units_of : Tree → ℕ → ℤ
units_of t n = units_by (decimal_at t n)

-- the same in 16.16: 65536 times as much
unfoldable pub coordinate_of : Tree → ℕ → Fixed
coordinate_of t n = record { 0 = pos 65536 *ℤ units_of t n }

-- ---- paths

-- a node is a point at its first two values, on the curve unless its type says otherwise; what is
-- no node reads as the origin
abbrev pub point_by : Tree → ℕ → ℕ → ℕ → DrawnPoint
point_by t x y kind =
    record { x = coordinate_of t x; y = coordinate_of t y; on = not (is_off_curve t kind) }

abbrev pub origin : DrawnPoint
origin = record { x = record { 0 = pos 0 }; y = record { 0 = pos 0 }; on = true }

abbrev pub node_point : Tree → Option (List ℕ) → DrawnPoint
node_point t None = origin
node_point t (Some parts) =
    if is_node parts
    then point_by t (slice_index parts 0) (slice_index parts 1) (slice_index parts 2)
    else origin

unfoldable pub point_of : Tree → ℕ → DrawnPoint
point_of t n = node_point t (items_at t n)

-- the last item first, and then the others in their order: each item but the last one stands behind
-- the last of those that follow it
abbrev pub behind_first : {X : Type 0} → X → List X → List X
behind_first x [] = x ∷ []
behind_first x (y ∷ ys) = y ∷ x ∷ ys

abbrev pub last_first : {X : Type 0} → List X → List X
last_first [] = []
last_first (x ∷ xs) = behind_first x (last_first xs)

-- a contour of a path's nodes: the last node stored is its start
unfoldable pub contour_of : Tree → List ℕ → Contour
contour_of t nodes = record { points = last_first (map (point_of t) nodes) }

-- the path of a list of nodes; one without nodes is dropped
abbrev pub path_by : Tree → Option (List ℕ) → List Shape
path_by t None = []
path_by t (Some []) = []
path_by t (Some (n ∷ ns)) = Path (contour_of t (n ∷ ns)) ∷ []

abbrev pub paths_of : Tree → ℕ → List Shape
paths_of t n = path_by t (items_at t n)

-- ---- components

-- a decimal in 16.16, 0 where the value is none or too large
abbrev pub bounded_by : ℕ → Option Decimal → Fixed
bounded_by bound None = record { 0 = pos 0 }
bounded_by bound (Some d) = if is_at_most bound d then nearest d else record { 0 = pos 0 }

unfoldable pub bounded_of : ℕ → Tree → ℕ → Fixed
bounded_of bound t n = bounded_by bound (decimal_at t n)

-- a list of two such decimals; zeros where the value is no such list
abbrev pub bounded_pair_by : ℕ → Tree → Option (List ℕ) → Fixed × Fixed
bounded_pair_by bound t None = (record { 0 = pos 0 }, record { 0 = pos 0 })
bounded_pair_by bound t (Some parts) =
    if is_pair parts
    then (bounded_of bound t (slice_index parts 0), bounded_of bound t (slice_index parts 1))
    else (record { 0 = pos 0 }, record { 0 = pos 0 })

unfoldable pub bounded_pair : ℕ → Tree → ℕ → Fixed × Fixed
bounded_pair bound t n = bounded_pair_by bound t (items_at t n)

-- where a component is moved to, by how much it is scaled, and how it is turned. One without `pos`
-- isn't moved, one without `scale` isn't scaled, and one without `angle` isn't turned
abbrev pub offset_of : Tree → ℕ → Fixed × Fixed
offset_of t n = option_map_or (bounded_pair COORDINATE t) (find_in t n (codes "pos"))
    (record { 0 = pos 0 }, record { 0 = pos 0 })

abbrev pub scale_of : Tree → ℕ → Fixed × Fixed
scale_of t n = option_map_or (bounded_pair GREATEST_SCALE t) (find_in t n (codes "scale"))
    (record { 0 = pos 65536 }, record { 0 = pos 65536 })

abbrev pub quarters_of : Tree → ℕ → ℕ
quarters_of t n = option_map_or quarters_in (decimal_under t n (codes "angle")) 0

unfoldable pub component_of : Tree → ℕ → Shape
component_of t n = Component (text_or_empty t n (codes "ref")) (offset_of t n) (scale_of t n)
    (quarters_of t n)

-- ---- shapes

-- a shape with nodes is a path, and another one with `ref` a component
abbrev pub other_shape : Tree → ℕ → List Shape
other_shape t n = if is_some (find_in t n (codes "ref")) then component_of t n ∷ [] else []

unfoldable pub shapes_of : Tree → ℕ → List Shape
shapes_of t n = option_map_or (paths_of t) (find_in t n (codes "nodes")) (other_shape t n)

-- the shapes of a layer
abbrev pub all_shapes : Tree → ℕ → List Shape
all_shapes t layer = flat_map (shapes_of t) (items_under t layer (codes "shapes"))

-- ---- anchors

-- a position in font units; zeros where the value is no list of two
abbrev pub position_by : Tree → Option (List ℕ) → ℤ × ℤ
position_by t None = (pos 0, pos 0)
position_by t (Some parts) =
    if is_pair parts
    then (units_of t (slice_index parts 0), units_of t (slice_index parts 1))
    else (pos 0, pos 0)

unfoldable pub position_at : Tree → ℕ → ℤ × ℤ
position_at t n = position_by t (items_at t n)

-- an anchor without `pos` is at the origin
abbrev pub position_of : Tree → ℕ → ℤ × ℤ
position_of t n = option_map_or (position_at t) (find_in t n (codes "pos")) (pos 0, pos 0)

unfoldable pub anchor_of : Tree → ℕ → Anchor
anchor_of t n = record {
  name = text_or_empty t n (codes "name");
  x = (position_of t n).0;
  y = (position_of t n).1;
}

-- of anchors of one name the first counts: the first anchor, and those of the others that count and
-- have another name
abbrev pub has_other_name : List ℕ → Anchor → Bool
has_other_name name anchor = not (pointwise nat_eq name anchor.name)

abbrev pub first_of_each_name : List Anchor → List Anchor
first_of_each_name [] = []
first_of_each_name (anchor ∷ anchors) =
    anchor ∷ filter (has_other_name anchor.name) (first_of_each_name anchors)

-- the anchors of an intermediate layer aren't read
abbrev pub anchors_by : LayerKind → Tree → ℕ → List Anchor
anchors_by Master t layer =
    first_of_each_name (map (anchor_of t) (items_under t layer (codes "anchors")))
anchors_by Intermediate t layer = []

unfoldable pub anchors_of : LayerKind → Tree → ℕ → List Anchor
anchors_of = anchors_by

-- ---- layers

unfoldable pub layer_record : LayerKind → Tree → ℕ → LayerIr
layer_record kind t layer = record {
  width = pos (natural_or 0 32767 0 t layer (codes "width"));
  shapes = all_shapes t layer;
  anchors = anchors_of kind t layer;
}
