-- Whether the layers of a glyph can be interpolated: each has the form of the first master's, that
-- is the same kinds of shapes in the same order, as many points in each path, the same of them on
-- the curve, and the same base of each component. fontc's own.
use Rattle.std.specs.Prelude.{◌≡◌, Bool, true, false, nat_eq, List, [], ◌∷◌, flat_map}
use Rattle.std.specs.Prelude.{◌≢◌, ◌++◌, Some, ◌↔◌, if◌then◌else◌}
use Rattle.std.specs.List.{AllByRecursion}
use Rattle.std.specs.Cmp.Lexicographic.{pointwise}
use Rattle.plist_reader.specs.declared.tree.Tree.{Tree}
use Rattle.font_ir.specs.declared.glyph.DrawnPoint.{DrawnPoint}
use Rattle.font_ir.specs.declared.glyph.Shape.{Shape}
use Rattle.font_ir.specs.declared.glyph.Shape.TheVariants.{Path, Component}
use Rattle.font_ir.specs.declared.glyph.LayerIr.{LayerIr}
use Rattle.font_ir.specs.ReadGlyphs.{layer_form}
use Rattle.refusal_codes.specs.declared.rule.Rule.TheVariants.{Incompatible}
use Rattle.refusal_codes.specs.declared.first.Failure.{Failure}
use Rattle.refusal_codes.specs.First.{foremost}
use Rattle.source_values.specs.Values.{place_at}
use Rattle.source_values.specs.Asking.{fails}
use Rattle.layer_shapes.specs.LayerReading.{layer_record}
use Rattle.glyphs_layers.specs.declared.layers.SourceLayer.{SourceLayer}

abbrev pub same_flag : Bool → Bool → Bool
same_flag true b = b
same_flag false true = false
same_flag false false = true

abbrev pub same_side : DrawnPoint → DrawnPoint → Bool
same_side p q = same_flag p.on q.on

abbrev pub same_shape : Shape → Shape → Bool
same_shape (Path a) (Path b) = pointwise same_side a.points b.points
same_shape (Path a) (Component base at scale quarters) = false
same_shape (Component base at scale quarters) (Path b) = false
same_shape (Component base at scale quarters) (Component other to size turns) =
    pointwise nat_eq base other

abbrev pub same_form : LayerIr → LayerIr → Bool
same_form a b = pointwise same_shape a.shapes b.shapes

-- two layers are of one form exactly where what is the same at each place is the same of them
abbrev pub FormsAreCompared : Type 0
FormsAreCompared = (a b : LayerIr) → (same_form a b ≡ true) ↔ (layer_form a ≡ layer_form b)

-- what a layer holds
abbrev pub record_of : Tree → SourceLayer → LayerIr
record_of t layer = layer_record layer.kind t layer.number

abbrev pub unlike_first : Tree → LayerIr → SourceLayer → List Failure
unlike_first t first layer =
    if same_form first (record_of t layer) then [] else fails Incompatible t layer.number

-- the layers that have another form than the first one, in the order of the places
abbrev pub incompatible : Tree → List SourceLayer → List Failure
incompatible t [] = []
incompatible t (first ∷ layers) = flat_map (unlike_first t (record_of t first)) layers

-- a failure is that of the first of these layers of another form than this one
pub record IsFirstOfOtherForm (t : Tree) (first : LayerIr) (layers : List SourceLayer) (f : Failure)
    : Type 0 where
  pub before : List SourceLayer
  pub layer : SourceLayer
  pub behind : List SourceLayer
  pub in_order : layers ≡ before ++ layer ∷ behind
  pub same : AllByRecursion (λ other. layer_form first ≡ layer_form (record_of t other)) before
  pub other : layer_form first ≢ layer_form (record_of t layer)
  pub told : f ≡ record { rule = Incompatible; place = place_at t layer.number }

-- the layer that is refused is the first of another form
abbrev pub OtherFormsAreRefused : Type 0
OtherFormsAreRefused =
    (t : Tree) (first : LayerIr) (layers : List SourceLayer) (f : Failure)
    → foremost (flat_map (unlike_first t first) layers) ≡ Some f
    → IsFirstOfOtherForm t first layers f
