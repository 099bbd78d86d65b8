-- The glyphs that are read from a source: what their layers fulfil. The limits are fontc's own.
use Rattle.std.specs.Prelude.{◌≡◌, ℕ, ◌<◌, ◌≤◌, pos, neg_ℤ, ◌≤ℤ◌, Bool, true, false, List, length}
use Rattle.std.specs.Prelude.{map}
use Rattle.std.specs.List.{All, AllPairs, count_by}
use Rattle.fixed_math.specs.declared.Fixed.{Fixed}
use Rattle.font_ir.specs.declared.glyph.Shape.{Shape}
use Rattle.font_ir.specs.declared.glyph.Shape.TheVariants.{Path, Component}
use Rattle.font_ir.specs.declared.glyph.LayerIr.{LayerIr}
use Rattle.font_ir.specs.declared.glyph.GlyphIr.{GlyphIr}
use Rattle.refusal_codes.specs.declared.limits.TheConstants.{COMPONENTS}
use Rattle.font_ir.specs.Places.{AreGlyphPlaces}
use Rattle.font_ir.specs.FlatGlyphs.{IsSmall, IsSmallFixed, IsSmallPoint}

-- what of a shape is the same at each place: which points of a path are on the curve, and the glyph
-- of a component
pub data ShapeForm : Type 0 where
  path_form : List Bool → ShapeForm
  component_form : List ℕ → ShapeForm

abbrev pub form_of : Shape → ShapeForm
form_of (Path contour) = path_form (map (λ point. point.on) contour.points)
form_of (Component base at scale quarters) = component_form base

-- layers of one form can be interpolated
abbrev pub layer_form : LayerIr → List ShapeForm
layer_form layer = map form_of layer.shapes

-- a path has points
abbrev pub HasPoints : Shape → Type 0
HasPoints (Path contour) = 0 < length contour.points
HasPoints (Component base at scale quarters) = Unit {0}

-- a scale is from -16 to 16: in 16.16 its raw number is at most 16 times 65536 in size
abbrev pub IsScale : Fixed → Type 0
IsScale f = (neg_ℤ (pos 1048576) ≤ℤ f.0) × (f.0 ≤ℤ pos 1048576)

-- a shape's numbers are in their ranges: the coordinates of a path's points, or where a component
-- is moved to, its scale and its quarter turns
abbrev pub IsInRange : Shape → Type 0
IsInRange (Path contour) = All IsSmallPoint contour.points
IsInRange (Component base at scale quarters) =
    IsSmallFixed at.0 × IsSmallFixed at.1 × IsScale scale.0 × IsScale scale.1 × (quarters < 4)

abbrev pub is_component : Shape → Bool
is_component (Path contour) = false
is_component (Component base at scale quarters) = true

pub record IsReadGlyph (glyph : GlyphIr) : Type 0 where
  pub places : AreGlyphPlaces glyph.places
  pub masters : glyph.masters ≤ length glyph.places
  pub layers : length glyph.layers ≡ length glyph.places
  pub one_form : AllPairs (λ a b. layer_form a ≡ layer_form b) glyph.layers
  pub widths : All (λ layer. (pos 0 ≤ℤ layer.width) × (layer.width ≤ℤ pos 32767)) glyph.layers
  pub points : All (λ layer. All HasPoints layer.shapes) glyph.layers
  pub ranges : All (λ layer. All IsInRange layer.shapes) glyph.layers
  pub few_components : All (λ layer. count_by is_component layer.shapes ≤ COMPONENTS) glyph.layers
  pub small_anchors : All (λ layer. All (λ anchor. IsSmall anchor.x × IsSmall anchor.y)
      layer.anchors) glyph.layers

-- each shape is a path
abbrev pub IsPath : Shape → Type 0
IsPath (Path contour) = Unit {0}
IsPath (Component base at scale quarters) = ⊥

abbrev pub HasNoComponents : GlyphIr → Type 0
HasNoComponents glyph = All (λ layer. All IsPath layer.shapes) glyph.layers

-- no layer has anchors
abbrev pub HasNoAnchors : GlyphIr → Type 0
HasNoAnchors glyph = All (λ layer. length layer.anchors ≡ 0) glyph.layers
