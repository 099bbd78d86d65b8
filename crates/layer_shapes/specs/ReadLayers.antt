-- What each layer that is read fulfils: what readers above rely on. The limits are fontc's own.
use Rattle.std.specs.Prelude.{◌≡◌, ℕ, pos, ◌≤ℤ◌, List, [], ◌∷◌, map, codes}
use Rattle.std.specs.List.{All}
use Rattle.plist_reader.specs.declared.tree.Tree.{Tree}
use Rattle.font_ir.specs.declared.glyph.Shape.{Shape}
use Rattle.font_ir.specs.declared.glyph.Shape.TheVariants.{Path, Component}
use Rattle.font_ir.specs.declared.glyph.LayerIr.{LayerIr}
use Rattle.font_ir.specs.FlatGlyphs.{IsSmall}
use Rattle.font_ir.specs.ReadGlyphs.{HasPoints, IsInRange}
use Rattle.source_values.specs.Values.{text_or_empty}
use Rattle.layer_shapes.specs.declared.kind.LayerKind.{LayerKind}
use Rattle.layer_shapes.specs.LayerRules.{component_numbers}
use Rattle.layer_shapes.specs.LayerReading.{layer_record}

-- a width from 0 to 32767, no path without points, and the numbers of shapes and anchors in their
-- ranges
pub record IsReadLayer (layer : LayerIr) : Type 0 where
  pub width : (pos 0 ≤ℤ layer.width) × (layer.width ≤ℤ pos 32767)
  pub points : All HasPoints layer.shapes
  pub ranges : All IsInRange layer.shapes
  pub small_anchors : All (λ anchor. IsSmall anchor.x × IsSmall anchor.y) layer.anchors

-- the glyphs that the components of these shapes draw, in order
abbrev pub bases_of : List Shape → List (List ℕ)
bases_of [] = []
bases_of (Path contour ∷ shapes) = bases_of shapes
bases_of (Component base at scale quarters ∷ shapes) = base ∷ bases_of shapes

-- the numbers of a layer's components name, by their `ref`, the glyphs that its components draw
abbrev pub ComponentsHaveTheirBases : Type 0
ComponentsHaveTheirBases =
    (kind : LayerKind) (t : Tree) (layer : ℕ)
    → map (λ n. text_or_empty t n (codes "ref")) (component_numbers t layer)
    ≡ bases_of (layer_record kind t layer).shapes
