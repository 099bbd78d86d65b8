-- Where a glyph's layers lie, and the whole rules on it (OpenType 1.9, "Coordinate scales and
-- normalization"; the rules are fontc's own). Each master must have a layer; an intermediate layer
-- has one coordinate per axis, from the least to the greatest one of the masters; no two layers lie
-- at one place; and there are at most 64.
use Rattle.std.specs.Prelude.{ℕ, ◌+◌, Bool, true, false, ◌&&◌, ◌==◌, nat_lt, List, [], ◌∷◌, ◌++◌, length}
use Rattle.std.specs.Prelude.{int_le, map, flat_map, codes, is_some, Option, Some, None, slice_get}
use Rattle.std.specs.Prelude.{if◌then◌else◌}
use Rattle.std.specs.Option.{option_map, option_map_or}
use Rattle.std.specs.List.{list_all}
use Rattle.plist_reader.specs.declared.tree.Tree.{Tree}
use Rattle.plist_reader.specs.Tree.{find_in}
use Rattle.fixed_math.specs.declared.F2Dot14.{F2Dot14}
use Rattle.fixed_math.specs.declared.Fixed.{Fixed}
use Rattle.font_ir.specs.declared.header.Header.{Header}
use Rattle.font_ir.specs.declared.header.Master.{Master}
use Rattle.font_ir.specs.declared.header.CoordinateScale.TheVariants.{Design}
use Rattle.font_ir.specs.Coordinates.{coordinates_on}
use Rattle.font_ir.specs.Extremes.{least, greatest}
use Rattle.refusal_codes.specs.declared.rule.Rule.TheVariants.{MissingLayer, LayerPlace}
use Rattle.refusal_codes.specs.declared.rule.Rule.TheVariants.{SameLayerPlace, TooManyLayers}
use Rattle.refusal_codes.specs.declared.first.Failure.{Failure}
use Rattle.refusal_codes.specs.declared.limits.TheConstants.{PLACES}
use Rattle.refusal_codes.specs.First.{foremost, or_next}
use Rattle.source_values.specs.Values.{place_at}
use Rattle.source_values.specs.Asking.{fails}
use Rattle.source_axes.specs.AxisValues.{coordinates_under}
use Rattle.layer_shapes.specs.declared.kind.LayerKind.{LayerKind}
use Rattle.layer_shapes.specs.declared.kind.LayerKind.TheVariants as a
use Rattle.axis_space.specs.Placing.{place_of}
use Rattle.axis_space.specs.Repeats.{first_repeat}
use Rattle.glyphs_layers.specs.declared.layers.SourceLayer.{SourceLayer}
use Rattle.glyphs_layers.specs.SourceLayers.{layer_numbers, layer_of, attribute_at, source_layers}

-- ---- each master has a layer

abbrev pub is_masters_by : LayerKind → Bool
is_masters_by a.Master = true
is_masters_by a.Intermediate = false

abbrev pub is_masters : SourceLayer → Bool
is_masters layer = is_masters_by layer.kind

unfoldable pub missing_layer : Tree → List Master → ℕ → List Failure
missing_layer t masters glyph =
    if list_all (λ m. is_some (layer_of t (layer_numbers t glyph) m)) masters
    then []
    else fails MissingLayer t glyph

-- ---- each intermediate layer lies between the masters

-- its design coordinates in 16.16
unfoldable pub design_of : Tree → ℕ → List Fixed
design_of t n = option_map_or (λ attr. coordinates_under t attr (codes "coordinates"))
    (find_in t n (codes "attr")) []

-- from the least to the greatest coordinate of the masters on an axis
abbrev pub is_within : List Master → ℕ → Fixed → Bool
is_within masters axis v =
    let all = coordinates_on Design axis masters in
    int_le (least all) v.0 && int_le v.0 (greatest all)

-- the same of coordinates on the axes from this one on
abbrev pub are_within : List Master → ℕ → List Fixed → Bool
are_within masters axis [] = true
are_within masters axis (v ∷ vs) = is_within masters axis v && are_within masters (axis + 1) vs

abbrev pub lies_within : Header → List Fixed → Bool
lies_within header design =
    length design == length header.axes && are_within header.masters 0 design

-- the place of the list of coordinates in the source
abbrev pub coordinates_place : Tree → ℕ → ℕ
coordinates_place t n = option_map_or (place_at t) (attribute_at t n (codes "coordinates")) 0

-- a layer lies somewhere: a master's does
abbrev pub is_placed_by : LayerKind → Tree → Header → ℕ → Bool
is_placed_by a.Master t header n = true
is_placed_by a.Intermediate t header n = lies_within header (design_of t n)

abbrev pub is_placed : Tree → Header → SourceLayer → Bool
is_placed t header layer = is_placed_by layer.kind t header layer.number

abbrev pub misplaced : Tree → Header → SourceLayer → List Failure
misplaced t header layer =
    if is_placed t header layer
    then []
    else record { rule = LayerPlace; place = coordinates_place t layer.number } ∷ []

-- ---- the places

-- where an intermediate layer lies
abbrev pub own_place_by : LayerKind → Tree → Header → ℕ → List (List F2Dot14)
own_place_by a.Master t header n = []
own_place_by a.Intermediate t header n =
    place_of header.masters header.origin (length header.axes) (design_of t n) ∷ []

abbrev pub own_place : Tree → Header → SourceLayer → List (List F2Dot14)
own_place t header layer = own_place_by layer.kind t header layer.number

-- those of the masters, and then those of the intermediate layers in the order of the file
unfoldable pub places_of : Tree → Header → ℕ → List (List F2Dot14)
places_of t header glyph =
    map (λ m. m.location) header.masters
    ++ flat_map (own_place t header) (source_layers t header glyph)

-- ---- no two layers lie at one place, and there are at most 64

-- the layer of the first place that an earlier one equals
abbrev pub layer_at : List SourceLayer → Option ℕ → Option SourceLayer
layer_at layers None = None
layer_at layers (Some i) = slice_get layers i

abbrev pub at_same_place : Tree → SourceLayer → Failure
at_same_place t layer = record { rule = SameLayerPlace; place = place_at t layer.number }

unfoldable pub same_place : Tree → List SourceLayer → List (List F2Dot14) → Option Failure
same_place t layers places = option_map (at_same_place t) (layer_at layers (first_repeat places))

abbrev pub too_many_layers : Tree → ℕ → List (List F2Dot14) → Option Failure
too_many_layers t glyph places =
    if nat_lt PLACES (length places) then foremost (fails TooManyLayers t glyph) else None

-- ---- in their order

unfoldable pub layers_failure : Tree → Header → ℕ → Option Failure
layers_failure t header glyph =
    or_next (foremost (missing_layer t header.masters glyph))
    (foremost (flat_map (misplaced t header) (source_layers t header glyph)))

unfoldable pub places_failure : Tree → ℕ → List SourceLayer → List (List F2Dot14) → Option Failure
places_failure t glyph layers places =
    or_next (same_place t layers places) (too_many_layers t glyph places)
