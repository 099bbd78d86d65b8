-- What is asked of a layer of a glyph, as tables of ways and rules (Glyphs file format, version 3;
-- the rules are fontc's own). They tell of each rule where it fails: exactly at the values that a
-- row of that rule reaches, and of which it doesn't hold. So they know no order, and no walk.
use Rattle.std.specs.Prelude.{◌≡◌, ℕ, Bool, true, false, not, ◌||◌, List, [], ◌∷◌, ◌++◌}
use Rattle.std.specs.Prelude.{slice_index, codes, ◌⊎◌, ◌↔◌}
use Rattle.std.specs.Option.{option_map_or}
use Rattle.plist_reader.specs.declared.tree.Tree.{Tree}
use Rattle.refusal_codes.specs.declared.limits.TheConstants.{COORDINATE}
use Rattle.refusal_codes.specs.declared.rule.Rule.{Rule}
use Rattle.refusal_codes.specs.declared.rule.Rule.TheVariants.{WrongShape, MissingKey, NotWhole}
use Rattle.refusal_codes.specs.declared.rule.Rule.TheVariants.{OutOfRange, CubicNode, OpenContour}
use Rattle.refusal_codes.specs.declared.rule.Rule.TheVariants.{UnsupportedTransform}
use Rattle.refusal_codes.specs.declared.rule.Rule.TheVariants.{CoordinateTooLarge}
use Rattle.source_values.specs.declared.kinds.Range.TheVariants.{Natural, Coordinate}
use Rattle.source_values.specs.Decimals.{is_whole}
use Rattle.source_values.specs.Values.{place_at, items_at, is_list, is_dictionary, decimal_at}
use Rattle.source_values.specs.Values.{is_zero, decimal_under}
use Rattle.source_values.specs.Ways.{IsOneOf, Step, under, each_item, item, when, Reaches, Row}
use Rattle.source_values.specs.Ways.{Fails, rows_of, here, behind, has}
use Rattle.source_values.specs.Tables.{is_decimal_value, decimal_table, whole_table, text_table}
use Rattle.source_values.specs.Tables.{required_table, optional_table, each_table, inside_table}
use Rattle.source_values.specs.Tables.{has_fraction, is_outside}
use Rattle.layer_shapes.specs.declared.kind.LayerKind.{LayerKind}
use Rattle.layer_shapes.specs.declared.kind.LayerKind.TheVariants.{Master, Intermediate}
use Rattle.layer_shapes.specs.declared.placing.TheConstants.{GREATEST_SCALE}
use Rattle.layer_shapes.specs.Placing.{is_at_most}
use Rattle.layer_shapes.specs.LayerRules.{is_pair, is_node, is_on_curve, is_off_curve, is_cubic}
use Rattle.layer_shapes.specs.LayerRules.{is_unsupported, layer_failures}

-- ---- lists of two values

abbrev pub is_pair_value : Tree → ℕ → Bool
is_pair_value t n = option_map_or is_pair (items_at t n) false

abbrev pub pair_table : List Row → List Row
pair_table rows =
    here WrongShape is_pair_value
    ++ behind (when is_pair_value) (behind (item 0) rows ++ behind (item 1) rows)

-- ---- nodes

-- a list of three or four values
abbrev pub is_node_value : Tree → ℕ → Bool
is_node_value t n = option_map_or is_node (items_at t n) false

-- whether a node's type, its third value, passes a test
abbrev pub has_type : (Tree → ℕ → Bool) → Tree → ℕ → Bool
has_type test t n = option_map_or (λ parts. test t (slice_index parts 2)) (items_at t n) false

-- of a type `c` or `cs`
abbrev pub is_cubic_node : Tree → ℕ → Bool
is_cubic_node = has_type is_cubic

abbrev pub is_no_cubic_node : Tree → ℕ → Bool
is_no_cubic_node t n = not (is_cubic_node t n)

-- whether a text is the type of a node
abbrev pub is_type : Tree → ℕ → Bool
is_type t n = (is_on_curve t n || is_off_curve t n) || is_cubic t n

-- two coordinates and a type, of which those of cubic curves fail at the node, and what is no type
-- at itself
abbrev pub node_parts_table : List Row
node_parts_table =
    behind (item 0) (whole_table Coordinate)
    ++ behind (item 1) (whole_table Coordinate)
    ++ (here CubicNode is_no_cubic_node ++ behind (item 2) (here WrongShape is_type))

abbrev pub node_table : List Row
node_table = here WrongShape is_node_value ++ behind (when is_node_value) node_parts_table

-- ---- paths

-- whether what stands under `closed` is 0
abbrev pub is_open : Tree → ℕ → Bool
is_open t n = is_zero (decimal_under t n (codes "closed"))

abbrev pub is_not_open : Tree → ℕ → Bool
is_not_open t n = not (is_open t n)

-- `closed` is a whole number and not 0, and `nodes` is a list of nodes
abbrev pub path_table : List Row
path_table =
    optional_table (codes "closed") (decimal_table NotWhole is_whole)
    ++ here OpenContour is_not_open
    ++ optional_table (codes "nodes") (each_table node_table)

-- ---- components

abbrev pub bounded_table : ℕ → Rule → List Row
bounded_table bound rule = decimal_table rule (is_at_most bound)

abbrev pub is_no_list : Tree → ℕ → Bool
is_no_list t n = not (is_list t n)

-- a list of decimals, or one decimal
abbrev pub slant_table : List Row
slant_table =
    behind (when is_list) (each_table (here WrongShape is_decimal_value))
    ++ behind (when is_no_list) (here WrongShape is_decimal_value)

abbrev pub is_supported : Tree → ℕ → Bool
is_supported t n = not (is_unsupported t n)

abbrev pub component_table : List Row
component_table =
    optional_table (codes "ref") text_table
    ++ optional_table (codes "pos") (pair_table (bounded_table COORDINATE CoordinateTooLarge))
    ++ optional_table (codes "scale") (pair_table (bounded_table GREATEST_SCALE OutOfRange))
    ++ optional_table (codes "angle") (here WrongShape is_decimal_value)
    ++ optional_table (codes "slant") slant_table
    ++ here UnsupportedTransform is_supported

-- ---- shapes

-- a shape without `nodes` has `ref`
abbrev pub other_table : List Row
other_table = here MissingKey (has (codes "ref"))
    ++ behind (when (has (codes "ref"))) component_table

-- a shape with `nodes` is a path
abbrev pub has_no_nodes : Tree → ℕ → Bool
has_no_nodes t n = not (has (codes "nodes") t n)

abbrev pub shape_parts_table : List Row
shape_parts_table =
    behind (when (has (codes "nodes"))) path_table ++ behind (when has_no_nodes) other_table

abbrev pub shape_table : List Row
shape_table = inside_table shape_parts_table

-- ---- anchors

abbrev pub anchor_table : List Row
anchor_table =
    inside_table
    (required_table (codes "name") text_table
    ++ optional_table (codes "pos") (pair_table (whole_table Coordinate)))

abbrev pub anchors_table : LayerKind → List Row
anchors_table Master = optional_table (codes "anchors") (each_table anchor_table)
anchors_table Intermediate = []

-- ---- layers

abbrev pub layer_table : LayerKind → List Row
layer_table kind =
    required_table (codes "width") (whole_table (Natural 0 32767))
    ++ optional_table (codes "shapes") (each_table shape_table)
    ++ anchors_table kind

-- a rule of a layer fails at a place exactly where a row of that rule says so
abbrev pub LayersAreTabled : Type 0
LayersAreTabled =
    (kind : LayerKind) (t : Tree) (layer : ℕ) (rule : Rule) (place : ℕ)
    → IsOneOf (layer_failures kind t layer) (record { rule = rule; place = place })
    ↔ Fails (rows_of rule (layer_table kind)) t layer (record { rule = rule; place = place })

-- ---- some rules in words

-- the values at the end of a way that pass a test
pub record Spot : Type 0 where
  pub way : List Step
  pub test : Tree → ℕ → Bool

abbrev pub at_end : List Step → (Tree → ℕ → Bool) → List Spot
at_end way test = record { way = way; test = test } ∷ []

-- the place of a value at the end of this way, which passes the test
abbrev pub IsSpot : Tree → ℕ → Spot → ℕ → Type 0
IsSpot t layer spot place =
    (n : ℕ)
    × Reaches t spot.way layer n
    × (spot.test t n ≡ true)
    × (place ≡ place_at t n)

-- the place of such a value at the end of one of these ways
abbrev pub IsAtOneOf : Tree → ℕ → List Spot → ℕ → Type 0
IsAtOneOf t layer [] place = ⊥
IsAtOneOf t layer (spot ∷ spots) place = IsSpot t layer spot place ⊎ IsAtOneOf t layer spots place

-- a rule fails in a layer exactly at these values
abbrev pub FailsExactlyAt : Rule → (LayerKind → List Spot) → Type 0
FailsExactlyAt rule spots =
    (kind : LayerKind) (t : Tree) (layer place : ℕ)
    → IsOneOf (layer_failures kind t layer) (record { rule = rule; place = place })
    ↔ IsAtOneOf t layer (spots kind) place

-- the ways from a layer to its shapes, its paths, the nodes of its paths, its components, and its
-- anchors
abbrev pub to_shapes : List Step
to_shapes = under (codes "shapes") ∷ each_item ∷ when is_dictionary ∷ []

abbrev pub to_paths : List Step
to_paths = to_shapes ++ (when (has (codes "nodes")) ∷ [])

abbrev pub to_nodes : List Step
to_nodes = to_paths ++ (under (codes "nodes") ∷ each_item ∷ when is_node_value ∷ [])

abbrev pub to_others : List Step
to_others = to_shapes ++ (when has_no_nodes ∷ [])

abbrev pub to_components : List Step
to_components = to_others ++ (when (has (codes "ref")) ∷ [])

abbrev pub to_anchors : List Step
to_anchors = under (codes "anchors") ∷ each_item ∷ when is_dictionary ∷ []

-- further from these: to the value under a key, and to one of the two values of a list under it
abbrev pub key_of : List Step → List ℕ → List Step
key_of way key = way ++ (under key ∷ [])

abbrev pub part_of : List Step → List ℕ → ℕ → List Step
part_of way key place = way ++ (under key ∷ when is_pair_value ∷ item place ∷ [])

abbrev pub node_part : ℕ → List Step
node_part place = to_nodes ++ (item place ∷ [])

-- what is only asked of the anchors of a master's layer
abbrev pub of_master : LayerKind → List Spot → List Spot
of_master Master spots = spots
of_master Intermediate spots = []

-- a cubic node is refused exactly where a path has a node of type `c` or `cs`
abbrev pub CubicNodesAreRefused : Type 0
CubicNodesAreRefused = FailsExactlyAt CubicNode (λ kind. at_end to_nodes is_cubic_node)

-- an open contour is refused exactly where a path has a `closed` that is 0
abbrev pub OpenContoursAreRefused : Type 0
OpenContoursAreRefused = FailsExactlyAt OpenContour (λ kind. at_end to_paths is_open)

-- a transformation is refused exactly where a component has a slant other than 0, an angle that is
-- no multiple of 90 degrees, or `piece`
abbrev pub TransformsAreRefused : Type 0
TransformsAreRefused =
    FailsExactlyAt UnsupportedTransform (λ kind. at_end to_components is_unsupported)

-- a key is missing exactly where the layer has no `width`, a shape neither `nodes` nor `ref`, or an
-- anchor of a master's layer no `name`
abbrev pub has_no : List ℕ → Tree → ℕ → Bool
has_no key t n = not (has key t n)

abbrev pub missing_spots : LayerKind → List Spot
missing_spots kind =
    at_end [] (has_no (codes "width"))
    ++ at_end to_others (has_no (codes "ref"))
    ++ of_master kind (at_end to_anchors (has_no (codes "name")))

abbrev pub MissingKeysAreRefused : Type 0
MissingKeysAreRefused = FailsExactlyAt MissingKey missing_spots

-- a decimal that is greater than so much in size
abbrev pub is_beyond : ℕ → Tree → ℕ → Bool
is_beyond bound t n = option_map_or (λ d. not (is_at_most bound d)) (decimal_at t n) false

-- a number is out of range exactly where the layer has a whole `width` that is not from 0 to 32767,
-- or a component is scaled by more than 16 in size
abbrev pub out_of_range_spots : LayerKind → List Spot
out_of_range_spots kind =
    at_end (key_of [] (codes "width")) (is_outside (Natural 0 32767))
    ++ at_end (part_of to_components (codes "scale") 0) (is_beyond GREATEST_SCALE)
    ++ at_end (part_of to_components (codes "scale") 1) (is_beyond GREATEST_SCALE)

abbrev pub RangesAreKept : Type 0
RangesAreKept = FailsExactlyAt OutOfRange out_of_range_spots

-- a coordinate is too large exactly where a node or an anchor of a master's layer has a whole x or
-- y, or a component a decimal x or y of `pos`, of more than 16383 in size
abbrev pub too_large_spots : LayerKind → List Spot
too_large_spots kind =
    at_end (node_part 0) (is_outside Coordinate)
    ++ at_end (node_part 1) (is_outside Coordinate)
    ++ at_end (part_of to_components (codes "pos") 0) (is_beyond COORDINATE)
    ++ at_end (part_of to_components (codes "pos") 1) (is_beyond COORDINATE)
    ++ of_master kind
    (at_end (part_of to_anchors (codes "pos") 0) (is_outside Coordinate)
    ++ at_end (part_of to_anchors (codes "pos") 1) (is_outside Coordinate))

abbrev pub LargeCoordinatesAreRefused : Type 0
LargeCoordinatesAreRefused = FailsExactlyAt CoordinateTooLarge too_large_spots

-- a number isn't whole exactly where `width`, `closed` of a path, x or y of a node, or x or y of an
-- anchor of a master's layer has a fraction
abbrev pub fraction_spots : LayerKind → List Spot
fraction_spots kind =
    at_end (key_of [] (codes "width")) has_fraction
    ++ at_end (key_of to_paths (codes "closed")) has_fraction
    ++ at_end (node_part 0) has_fraction
    ++ at_end (node_part 1) has_fraction
    ++ of_master kind
    (at_end (part_of to_anchors (codes "pos") 0) has_fraction
    ++ at_end (part_of to_anchors (codes "pos") 1) has_fraction)

abbrev pub FractionsAreRefused : Type 0
FractionsAreRefused = FailsExactlyAt NotWhole fraction_spots
