-- Which layers of a glyph are read (Glyphs file format, version 3). The layer of a master is the
-- first one that names it by `layerId`. In a font with axes, a layer whose `attr` has `coordinates`
-- but no `axisRules`, and which is the layer of no master, is an intermediate layer: it lies at a
-- place of its own. All other layers are ignored. What `coordinates` and `axisRules` mean, and that
-- a further layer that names a master can be an intermediate one, is fontc's own.
use Rattle.std.specs.Prelude.{ℕ, Bool, not, ◌&&◌, ◌==◌, is_some, List, [], ◌∷◌, ◌++◌, length}
use Rattle.std.specs.Prelude.{flat_map, codes, Option, option_and_then, if◌then◌else◌}
use Rattle.std.specs.Option.{option_map_or}
use Rattle.std.specs.List.{find, list_any}
use Rattle.plist_reader.specs.declared.tree.Tree.{Tree}
use Rattle.plist_reader.specs.Tree.{find_in, spells}
use Rattle.font_ir.specs.declared.header.Header.{Header}
use Rattle.font_ir.specs.declared.header.Master.{Master}
use Rattle.source_values.specs.Values.{items_under, text_under}
use Rattle.layer_shapes.specs.declared.kind.LayerKind.TheVariants as a
use Rattle.glyphs_layers.specs.declared.layers.SourceLayer.{SourceLayer}

-- the values of a glyph's list of layers
unfoldable pub layer_numbers : Tree → ℕ → List ℕ
layer_numbers t glyph = items_under t glyph (codes "layers")

-- whether a layer names the master with this id
abbrev pub is_layer_of : Tree → List ℕ → ℕ → Bool
is_layer_of t id n = spells id (text_under t n (codes "layerId"))

-- a master's layer: the first that names it
abbrev pub layer_of : Tree → List ℕ → Master → Option ℕ
layer_of t numbers m = find (is_layer_of t m.id) numbers

abbrev pub masters_layer : ℕ → List SourceLayer
masters_layer n = record { kind = a.Master; number = n } ∷ []

abbrev pub layers_of : Tree → List ℕ → Master → List SourceLayer
layers_of t numbers m = option_map_or masters_layer (layer_of t numbers m) []

-- the layers of the masters that have one, in the order of the masters
abbrev pub masters_layers : Tree → List Master → List ℕ → List SourceLayer
masters_layers t masters numbers = flat_map (layers_of t numbers) masters

-- what the `attr` of a layer has under a key; an `attr` that is no dictionary has nothing
abbrev pub attribute_at : Tree → ℕ → List ℕ → Option ℕ
attribute_at t n key = option_and_then (λ attr. find_in t attr key) (find_in t n (codes "attr"))

abbrev pub has_attribute : Tree → ℕ → List ℕ → Bool
has_attribute t n key = is_some (attribute_at t n key)

-- whether a layer is one of these
abbrev pub is_among_layers : List SourceLayer → ℕ → Bool
is_among_layers layers n = list_any (λ layer. layer.number == n) layers

-- a layer with coordinates and without rules is an intermediate one, where it is none of the
-- masters' layers
abbrev pub is_intermediate : Tree → List SourceLayer → ℕ → Bool
is_intermediate t masters n =
    has_attribute t n (codes "coordinates")
    && not (has_attribute t n (codes "axisRules"))
    && not (is_among_layers masters n)

abbrev pub if_intermediate : Tree → List SourceLayer → ℕ → List SourceLayer
if_intermediate t masters n =
    if is_intermediate t masters n
    then record { kind = a.Intermediate; number = n } ∷ []
    else []

-- the intermediate layers, in the order of the file: none in a font without axes
abbrev pub intermediate_layers : Tree → Header → List ℕ → List SourceLayer
intermediate_layers t header numbers =
    if length header.axes == 0
    then []
    else flat_map (if_intermediate t (masters_layers t header.masters numbers)) numbers

-- the layers of a glyph that are read
unfoldable pub source_layers : Tree → Header → ℕ → List SourceLayer
source_layers t header glyph =
    masters_layers t header.masters (layer_numbers t glyph)
    ++ intermediate_layers t header (layer_numbers t glyph)
