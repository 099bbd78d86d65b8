-- What is asked of a glyph's list of layers, and of where an intermediate layer says that it lies,
-- as tables of ways and rules (Glyphs file format, version 3; the rules are fontc's own). They tell
-- of each local rule of a glyph where it fails, in words that know no order: at the values that a
-- row of that rule reaches and of which it doesn't hold, or where a layer that is read fails it.
use Rattle.std.specs.Prelude.{ℕ, List, [], codes, ◌⊎◌, ◌↔◌}
use Rattle.plist_reader.specs.declared.tree.Tree.{Tree}
use Rattle.font_ir.specs.declared.header.Header.{Header}
use Rattle.refusal_codes.specs.declared.rule.Rule.TheVariants.{OutOfRange}
use Rattle.refusal_codes.specs.declared.first.Failure.{Failure}
use Rattle.source_values.specs.Ways.{IsOneOf, Row, Fails}
use Rattle.source_values.specs.Tables.{text_table, decimal_table, optional_table, each_table}
use Rattle.source_values.specs.Tables.{inside_table}
use Rattle.source_axes.specs.AxisValues.{is_axis_value}
use Rattle.layer_shapes.specs.declared.kind.LayerKind.{LayerKind}
use Rattle.layer_shapes.specs.declared.kind.LayerKind.TheVariants as a
use Rattle.layer_shapes.specs.LayerRules.{layer_failures}
use Rattle.glyphs_layers.specs.declared.layers.SourceLayer.{SourceLayer}
use Rattle.glyphs_layers.specs.SourceLayers.{source_layers}
use Rattle.glyphs_layers.specs.GlyphRules.{glyph_failures}

-- a list of dictionaries, whose `layerId` is a text where they have one
abbrev pub entries_table : List Row
entries_table =
    optional_table (codes "layers")
    (each_table (inside_table (optional_table (codes "layerId") text_table)))

-- the `coordinates` of an `attr` are a list of decimals from -32767 to 32767
abbrev pub coordinates_table : List Row
coordinates_table =
    optional_table (codes "attr")
    (optional_table (codes "coordinates") (each_table (decimal_table OutOfRange is_axis_value)))

abbrev pub place_table : LayerKind → List Row
place_table a.Master = []
place_table a.Intermediate = coordinates_table

-- a layer that is read fails, by where it says that it lies or by what it holds
abbrev pub FailsAsRead : Tree → Failure → SourceLayer → Type 0
FailsAsRead t f layer =
    Fails (place_table layer.kind) t layer.number f
    ⊎ IsOneOf (layer_failures layer.kind t layer.number) f

-- a local rule of a glyph fails at a place exactly where its list of layers or a layer that is read
-- does
abbrev pub GlyphsAreTabled : Type 0
GlyphsAreTabled =
    (t : Tree) (header : Header) (glyph : ℕ) (f : Failure)
    → IsOneOf (glyph_failures t header glyph) f
    ↔ (Fails entries_table t glyph f
    ⊎ ((layer : SourceLayer) × IsOneOf (source_layers t header glyph) layer
    × FailsAsRead t f layer))
