-- The local rules that a glyph's layers may fail (Glyphs file format, version 3; the rules are
-- fontc's own). Each layer must be a dictionary, and its `layerId` a text where it has one; all else
-- that a layer holds which is not read is ignored. The `coordinates` of an intermediate layer are a
-- list of decimals from -32767 to 32767.
use Rattle.std.specs.Prelude.{ℕ, List, [], ◌++◌, flat_map, codes}
use Rattle.plist_reader.specs.declared.tree.Tree.{Tree}
use Rattle.font_ir.specs.declared.header.Header.{Header}
use Rattle.refusal_codes.specs.declared.first.Failure.{Failure}
use Rattle.source_values.specs.Asking.{text_failures, each, dictionary, optional}
use Rattle.source_axes.specs.AxisValues.{axis_value_failures}
use Rattle.layer_shapes.specs.declared.kind.LayerKind.{LayerKind}
use Rattle.layer_shapes.specs.declared.kind.LayerKind.TheVariants as a
use Rattle.layer_shapes.specs.LayerRules.{layer_failures}
use Rattle.glyphs_layers.specs.declared.layers.SourceLayer.{SourceLayer}
use Rattle.glyphs_layers.specs.SourceLayers.{source_layers}

-- ---- each layer of a glyph

unfoldable pub entry_failures : Tree → ℕ → List Failure
entry_failures = optional (codes "layerId") text_failures

unfoldable pub entries_failures : Tree → ℕ → List Failure
entries_failures = optional (codes "layers") (each (dictionary entry_failures))

-- ---- the layers that are read

unfoldable pub coordinates_failures : Tree → ℕ → List Failure
coordinates_failures =
    optional (codes "attr") (optional (codes "coordinates") (each axis_value_failures))

-- what fails of where a layer says that it lies: a master's layer doesn't say it
abbrev pub place_failures : LayerKind → Tree → ℕ → List Failure
place_failures a.Master t n = []
place_failures a.Intermediate t n = coordinates_failures t n

abbrev pub source_failures : Tree → SourceLayer → List Failure
source_failures t layer =
    place_failures layer.kind t layer.number ++ layer_failures layer.kind t layer.number

-- the local rules that a glyph fails
unfoldable pub glyph_failures : Tree → Header → ℕ → List Failure
glyph_failures t header glyph =
    entries_failures t glyph ++ flat_map (source_failures t) (source_layers t header glyph)
