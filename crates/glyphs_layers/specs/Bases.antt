-- The whole rules on the components of a glyph's layers: each names a glyph of the source, and a
-- layer has at most 256. fontc's own.
use Rattle.std.specs.Prelude.{ℕ, Bool, nat_eq, nat_lt, List, [], flat_map, codes}
use Rattle.std.specs.Prelude.{is_some, if◌then◌else◌}
use Rattle.std.specs.List.{count_by}
use Rattle.std.specs.Map.{lookup}
use Rattle.std.specs.Cmp.Lexicographic.{pointwise}
use Rattle.plist_reader.specs.declared.tree.Tree.{Tree}
use Rattle.font_ir.specs.ReadGlyphs.{is_component}
use Rattle.refusal_codes.specs.declared.rule.Rule.TheVariants.{UnknownComponent}
use Rattle.refusal_codes.specs.declared.rule.Rule.TheVariants.{TooManyComponents}
use Rattle.refusal_codes.specs.declared.first.Failure.{Failure}
use Rattle.refusal_codes.specs.declared.limits.TheConstants.{COMPONENTS}
use Rattle.source_values.specs.Values.{text_or_empty}
use Rattle.source_values.specs.Asking.{fails}
use Rattle.glyphs_source.specs.declared.entries.IndexEntry.{IndexEntry}
use Rattle.layer_shapes.specs.LayerRules.{component_numbers}
use Rattle.glyphs_layers.specs.declared.layers.SourceLayer.{SourceLayer}
use Rattle.glyphs_layers.specs.Forms.{record_of}

abbrev pub is_glyph : List (List ℕ × IndexEntry) → List ℕ → Bool
is_glyph index name = is_some (lookup (pointwise nat_eq name) index)

-- a component names a glyph by its `ref`
abbrev pub base_of : Tree → ℕ → List ℕ
base_of t n = text_or_empty t n (codes "ref")

abbrev pub without_base : Tree → List (List ℕ × IndexEntry) → ℕ → List Failure
without_base t index n = if is_glyph index (base_of t n) then [] else fails UnknownComponent t n

abbrev pub unknown_components : Tree → List (List ℕ × IndexEntry) → SourceLayer → List Failure
unknown_components t index layer =
    flat_map (without_base t index) (component_numbers t layer.number)

abbrev pub too_many_components : Tree → SourceLayer → List Failure
too_many_components t layer =
    if nat_lt COMPONENTS (count_by is_component (record_of t layer).shapes)
    then fails TooManyComponents t layer.number
    else []
