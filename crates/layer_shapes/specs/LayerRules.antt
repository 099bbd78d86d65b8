-- The rules that a layer of a glyph may fail (Glyphs file format, version 3; the rules are fontc's
-- own). A layer has a width, shapes and anchors. A shape with `nodes` is a path, and another one
-- with `ref` a component. A value of a wrong shape isn't looked into further.
use Rattle.std.specs.Prelude.{ℕ, Bool, false, not, ◌||◌, ◌&&◌, ◌==◌, is_some, List, [], ◌++◌}
use Rattle.std.specs.Prelude.{length, slice_index, flat_map, codes, Option, Some, None}
use Rattle.std.specs.Prelude.{if◌then◌else◌}
use Rattle.std.specs.Option.{option_map_or}
use Rattle.std.specs.List.{filter, list_any}
use Rattle.plist_reader.specs.declared.tree.Tree.{Tree}
use Rattle.plist_reader.specs.Tree.{find_in, is_key}
use Rattle.refusal_codes.specs.declared.limits.TheConstants.{COORDINATE}
use Rattle.refusal_codes.specs.declared.rule.Rule.{Rule}
use Rattle.refusal_codes.specs.declared.rule.Rule.TheVariants.{WrongShape, MissingKey, NotWhole}
use Rattle.refusal_codes.specs.declared.rule.Rule.TheVariants.{OutOfRange, CubicNode, OpenContour}
use Rattle.refusal_codes.specs.declared.rule.Rule.TheVariants.{UnsupportedTransform}
use Rattle.refusal_codes.specs.declared.rule.Rule.TheVariants.{CoordinateTooLarge}
use Rattle.refusal_codes.specs.declared.first.Failure.{Failure}
use Rattle.source_values.specs.declared.decimals.Decimal.{Decimal}
use Rattle.source_values.specs.declared.kinds.Range.TheVariants.{Natural, Coordinate}
use Rattle.source_values.specs.Decimals.{is_whole}
use Rattle.source_values.specs.Values.{items_at, decimal_at, decimal_under, items_under}
use Rattle.source_values.specs.Asking.{fails, whole_failures, text_failures, each, dictionary}
use Rattle.source_values.specs.Asking.{required, optional}
use Rattle.layer_shapes.specs.declared.kind.LayerKind.{LayerKind}
use Rattle.layer_shapes.specs.declared.kind.LayerKind.TheVariants.{Master, Intermediate}
use Rattle.layer_shapes.specs.declared.placing.TheConstants.{GREATEST_SCALE}
use Rattle.layer_shapes.specs.Placing.{is_at_most, is_zero_decimal, is_quarter_turn}

-- ---- lists of two values

abbrev pub is_pair : List ℕ → Bool
is_pair parts = length parts == 2

-- a list of exactly two values, each of which may fail
abbrev pub pair_by : (ℕ → List Failure) → Tree → ℕ → Option (List ℕ) → List Failure
pair_by failures t n None = fails WrongShape t n
pair_by failures t n (Some parts) =
    if is_pair parts
    then failures (slice_index parts 0) ++ failures (slice_index parts 1)
    else fails WrongShape t n

abbrev pub pair : (Tree → ℕ → List Failure) → Tree → ℕ → List Failure
pair failures t n = pair_by (failures t) t n (items_at t n)

-- ---- nodes: a list of x, y and a type, and maybe a fourth value, which is ignored

-- whether a node's type is one of a point on the curve, of one off the curve, and of a cubic curve.
-- A final `s` says that the node is smooth
abbrev pub is_on_curve : Tree → ℕ → Bool
is_on_curve t n =
    is_key t (codes "l") n
    || is_key t (codes "ls") n
    || is_key t (codes "q") n
    || is_key t (codes "qs") n

abbrev pub is_off_curve : Tree → ℕ → Bool
is_off_curve t n = is_key t (codes "o") n || is_key t (codes "os") n

abbrev pub is_cubic : Tree → ℕ → Bool
is_cubic t n = is_key t (codes "c") n || is_key t (codes "cs") n

-- a node's type: cubic curves aren't drawn, and fail at the node; what is no type fails at itself
unfoldable pub type_failures : Tree → ℕ → ℕ → List Failure
type_failures t node kind =
    if is_on_curve t kind || is_off_curve t kind
    then []
    else if is_cubic t kind
    then fails CubicNode t node
    else fails WrongShape t kind

unfoldable pub node_parts_failures : Tree → ℕ → ℕ → ℕ → ℕ → List Failure
node_parts_failures t node x y kind =
    whole_failures Coordinate t x ++ whole_failures Coordinate t y ++ type_failures t node kind

-- a list of three or four values
abbrev pub is_node : List ℕ → Bool
is_node parts = length parts == 3 || length parts == 4

abbrev pub node_failures_by : Tree → ℕ → Option (List ℕ) → List Failure
node_failures_by t n None = fails WrongShape t n
node_failures_by t n (Some parts) =
    if is_node parts
    then node_parts_failures t n (slice_index parts 0) (slice_index parts 1) (slice_index parts 2)
    else fails WrongShape t n

unfoldable pub node_failures : Tree → ℕ → List Failure
node_failures t n = node_failures_by t n (items_at t n)

unfoldable pub nodes_failures : Tree → ℕ → List Failure
nodes_failures = each node_failures

-- ---- paths

-- `closed` is a whole number, and a path whose `closed` is 0 isn't drawn. The place is the path,
-- whether it has nodes or not
abbrev pub closed_failures_by : Tree → ℕ → ℕ → Option Decimal → List Failure
closed_failures_by t path n None = fails WrongShape t n
closed_failures_by t path n (Some d) =
    if is_whole d then (if d.whole == 0 then fails OpenContour t path else []) else fails NotWhole t
    n

unfoldable pub closed_failures : ℕ → Tree → ℕ → List Failure
closed_failures path t n = closed_failures_by t path n (decimal_at t n)

-- a path, whose list of nodes is the value `nodes`
abbrev pub path_failures : Tree → ℕ → ℕ → List Failure
path_failures t path nodes =
    optional (codes "closed") (closed_failures path) t path ++ nodes_failures t nodes

-- ---- components

-- a decimal
unfoldable pub decimal_failures : Tree → ℕ → List Failure
decimal_failures t n = if is_some (decimal_at t n) then [] else fails WrongShape t n

-- a decimal that is at most so much in size
abbrev pub bounded_failures_by : ℕ → Rule → Tree → ℕ → Option Decimal → List Failure
bounded_failures_by bound rule t n None = fails WrongShape t n
bounded_failures_by bound rule t n (Some d) = if is_at_most bound d then [] else fails rule t n

unfoldable pub bounded_failures : ℕ → Rule → Tree → ℕ → List Failure
bounded_failures bound rule t n = bounded_failures_by bound rule t n (decimal_at t n)

-- where a component is moved to, and by how much it is scaled
unfoldable pub offset_failures : Tree → ℕ → List Failure
offset_failures = pair (bounded_failures COORDINATE CoordinateTooLarge)

unfoldable pub scale_failures : Tree → ℕ → List Failure
scale_failures = pair (bounded_failures GREATEST_SCALE OutOfRange)

-- a slant is a decimal or a list of decimals
abbrev pub slant_failures_by : Tree → ℕ → Option (List ℕ) → List Failure
slant_failures_by t n None = decimal_failures t n
slant_failures_by t n (Some items) = flat_map (decimal_failures t) items

unfoldable pub slant_failures : Tree → ℕ → List Failure
slant_failures t n = slant_failures_by t n (items_at t n)

-- whether a value is a decimal other than 0, and whether a slant is or has one
abbrev pub is_not_zero : Tree → ℕ → Bool
is_not_zero t n = option_map_or (λ d. not (is_zero_decimal d)) (decimal_at t n) false

abbrev pub is_slanted_by : Tree → ℕ → Option (List ℕ) → Bool
is_slanted_by t n None = is_not_zero t n
is_slanted_by t n (Some items) = list_any (is_not_zero t) items

abbrev pub is_slanted : Tree → ℕ → Bool
is_slanted t n = is_slanted_by t n (items_at t n)

-- the transformations of a component that aren't drawn: a slant, an angle that is no multiple of 90
-- degrees, and the settings of a smart component, `piece`
abbrev pub has_slant : Tree → ℕ → Bool
has_slant t n = option_map_or (is_slanted t) (find_in t n (codes "slant")) false

abbrev pub has_odd_angle : Tree → ℕ → Bool
has_odd_angle t n =
    option_map_or (λ d. not (is_quarter_turn d)) (decimal_under t n (codes "angle")) false

abbrev pub has_piece : Tree → ℕ → Bool
has_piece t n = is_some (find_in t n (codes "piece"))

abbrev pub is_unsupported : Tree → ℕ → Bool
is_unsupported t n = has_slant t n || has_odd_angle t n || has_piece t n

unfoldable pub transform_failures : Tree → ℕ → List Failure
transform_failures t n = if is_unsupported t n then fails UnsupportedTransform t n else []

-- a component: all its parts but `ref` may be missing
unfoldable pub component_failures : Tree → ℕ → List Failure
component_failures t n =
    optional (codes "ref") text_failures t n
    ++ optional (codes "pos") offset_failures t n
    ++ optional (codes "scale") scale_failures t n
    ++ optional (codes "angle") decimal_failures t n
    ++ optional (codes "slant") slant_failures t n
    ++ transform_failures t n

-- ---- shapes

-- a shape without nodes is a component; one with neither `nodes` nor `ref` lacks a key
unfoldable pub other_shape_failures : Tree → ℕ → List Failure
other_shape_failures t n =
    if is_some (find_in t n (codes "ref")) then component_failures t n else fails MissingKey t n

abbrev pub shape_failures_by : Tree → ℕ → Option ℕ → List Failure
shape_failures_by t n None = other_shape_failures t n
shape_failures_by t n (Some nodes) = path_failures t n nodes

unfoldable pub shape_parts_failures : Tree → ℕ → List Failure
shape_parts_failures t n = shape_failures_by t n (find_in t n (codes "nodes"))

unfoldable pub shape_failures : Tree → ℕ → List Failure
shape_failures = dictionary shape_parts_failures

unfoldable pub shapes_failures : Tree → ℕ → List Failure
shapes_failures = optional (codes "shapes") (each shape_failures)

-- the shapes of a layer that are components: those that have `ref`, but not `nodes`
abbrev pub is_component_at : Tree → ℕ → Bool
is_component_at t n =
    not (is_some (find_in t n (codes "nodes"))) && is_some (find_in t n (codes "ref"))

unfoldable pub component_numbers : Tree → ℕ → List ℕ
component_numbers t layer = filter (is_component_at t) (items_under t layer (codes "shapes"))

-- ---- anchors: also one whose name an earlier one has is looked at

unfoldable pub anchor_parts_failures : Tree → ℕ → List Failure
anchor_parts_failures t n =
    required (codes "name") text_failures t n
    ++ optional (codes "pos") (pair (whole_failures Coordinate)) t n

unfoldable pub anchor_failures : Tree → ℕ → List Failure
anchor_failures = dictionary anchor_parts_failures

-- the anchors of an intermediate layer aren't read
abbrev pub anchors_failures_by : LayerKind → Tree → ℕ → List Failure
anchors_failures_by Master t layer = optional (codes "anchors") (each anchor_failures) t layer
anchors_failures_by Intermediate t layer = []

unfoldable pub anchors_failures : LayerKind → Tree → ℕ → List Failure
anchors_failures = anchors_failures_by

-- ---- layers

unfoldable pub layer_failures : LayerKind → Tree → ℕ → List Failure
layer_failures kind t layer =
    required (codes "width") (whole_failures (Natural 0 32767)) t layer
    ++ shapes_failures t layer
    ++ anchors_failures kind t layer
