-- What a layer draws at a place (Glyphs file format, version 3): its shapes in their order, each
-- component replaced by the contours of its base there, transformed. The bases are those of the
-- layer's components, in their order.
use Rattle.std.specs.Prelude.{ℕ, pos, List, [], ◌∷◌, ◌++◌, drop, map, slice_index_or}
use Rattle.fixed_math.specs.declared.F2Dot14.{F2Dot14}
use Rattle.font_ir.specs.declared.glyph.Contour.{Contour}
use Rattle.font_ir.specs.declared.glyph.Shape.{Shape}
use Rattle.font_ir.specs.declared.glyph.Shape.TheVariants.{Path, Component}
use Rattle.font_ir.specs.declared.glyph.LayerIr.{LayerIr}
use Rattle.font_ir.specs.declared.glyph.GlyphIr.{GlyphIr}
use Rattle.font_ir.specs.declared.glyph.FlatGlyph.{FlatGlyph}
use Rattle.font_ir.specs.Places.{place_at}
use Rattle.component_flatten.specs.Numbered.{numbered}
use Rattle.component_flatten.specs.Transforms.{transformed_point}
use Rattle.component_flatten.specs.Places.{placed}
use Rattle.component_flatten.specs.declared.transform.Transform.{Transform}

abbrev pub transformed_contour : Transform → Contour → Contour
transformed_contour transform contour = record {
  points = map (transformed_point transform) contour.points;
}

-- what a component draws
abbrev pub component_drawn : List F2Dot14 → Transform → FlatGlyph → List Contour
component_drawn at transform base = map (transformed_contour transform) (placed base at)

-- the same of the first of these bases
abbrev pub first_base_drawn : List F2Dot14 → Transform → List FlatGlyph → List Contour
first_base_drawn at transform [] = []
first_base_drawn at transform (base ∷ bases) = component_drawn at transform base

-- what a shape draws, where the first of these bases is its own
abbrev pub shape_drawn : List F2Dot14 → List FlatGlyph → Shape → List Contour
shape_drawn at bases (Path contour) = contour ∷ []
shape_drawn at bases (Component base to scale quarters) =
    first_base_drawn at (record { at = to; scale = scale; quarters = quarters }) bases

-- the bases of the shapes behind a shape
abbrev pub bases_after : Shape → List FlatGlyph → List FlatGlyph
bases_after (Path contour) bases = bases
bases_after (Component base at scale quarters) bases = drop 1 bases

-- what shapes draw, with the bases of the components among them
abbrev pub shapes_drawn : List F2Dot14 → List FlatGlyph → List Shape → List Contour
shapes_drawn at bases [] = []
shapes_drawn at bases (shape ∷ shapes) =
    shape_drawn at bases shape ++ shapes_drawn at (bases_after shape bases) shapes

-- what the layer at the place with this number draws
abbrev pub layer_drawn : List (List F2Dot14) → List FlatGlyph → ℕ → LayerIr → List Contour
layer_drawn places bases i layer = shapes_drawn (place_at places i) bases layer.shapes

-- what a glyph draws at each of its places
abbrev pub glyph_drawn : GlyphIr → List FlatGlyph → List (List Contour)
glyph_drawn glyph bases = numbered (layer_drawn glyph.places bases) 0 glyph.layers

-- ---- the components of a glyph

-- the names of the bases
abbrev pub names_of : List Shape → List (List ℕ)
names_of [] = []
names_of (Path contour ∷ shapes) = names_of shapes
names_of (Component base at scale quarters ∷ shapes) = base ∷ names_of shapes

-- the shapes of the first layer: all layers have shapes of the same form
abbrev pub first_shapes : GlyphIr → List Shape
first_shapes glyph =
    (slice_index_or glyph.layers 0 (record { width = pos 0; shapes = []; anchors = [] })).shapes

abbrev pub component_names : GlyphIr → List (List ℕ)
component_names glyph = names_of (first_shapes glyph)
