-- Worked examples: what layers that are written out hold, and which rule they fail.
use Rattle.std.proofs.Common.{◌≡◌, ℕ, Bool, true, false, List, [], ◌∷◌, map, Option, Some, None}
use Rattle.std.proofs.Common.{refl}
use Rattle.std.specs.Prelude.{ℤ, pos, neg_ℤ, codes}
use Rattle.fixed_math.specs.declared.Fixed.{Fixed}
use Rattle.font_ir.specs.declared.glyph.Anchor.{Anchor}
use Rattle.font_ir.specs.declared.glyph.DrawnPoint.{DrawnPoint}
use Rattle.font_ir.specs.declared.glyph.Shape.{Shape}
use Rattle.font_ir.specs.declared.glyph.Shape.TheVariants.{Path, Component}
use Rattle.plist_reader.specs.declared.tree.Tree.{Tree}
use Rattle.refusal_codes.specs.declared.rule.Rule.{Rule}
use Rattle.refusal_codes.specs.declared.rule.Rule.TheVariants.{WrongShape, CubicNode, OutOfRange}
use Rattle.refusal_codes.specs.declared.rule.Rule.TheVariants.{UnsupportedTransform}
use Rattle.refusal_codes.specs.declared.rule.Rule.TheVariants.{CoordinateTooLarge}
use Rattle.refusal_codes.specs.declared.first.Failure.{Failure}
use Rattle.refusal_codes.specs.First.{first_of}
use Rattle.layer_shapes.specs.declared.kind.LayerKind.TheVariants.{Master, Intermediate}
use Rattle.layer_shapes.specs.LayerRules.{layer_failures, component_numbers}
use Rattle.layer_shapes.specs.LayerReading.{layer_record}
use Rattle.layer_shapes.specs.OnLiterals.{layers_on_literals}
use Rattle.layer_shapes.proofs.WrittenLayers.{path_layer, component_layer, anchor_layer}

-- the first failure of a layer, by rule and place
abbrev refused : Rule → ℕ → Option Failure
refused rule place = Some (record { rule = rule; place = place })

-- ---- paths

abbrev point : ℤ → ℤ → Bool → DrawnPoint
point x y on = record { x = record { 0 = x }; y = record { 0 = y }; on = on }

-- a layer with this second node, which starts the contour
abbrev path : Bool → List Shape
path on = Path (record {
  points = point (pos 655360) (neg_ℤ (pos 1310720)) on ∷ point (pos 0) (pos 0) true ∷ [];
}) ∷ []

abbrev path_rows : List (List ℕ × Bool)
path_rows =
    (codes "l", true)
    ∷ (codes "ls", true)
    ∷ (codes "q", true)
    ∷ (codes "qs", true)
    ∷ (codes "o", false)
    ∷ (codes "os", false)
    ∷ []

pub paths-computed :
    map {B = List Shape × Option Failure} (λ row. (
      (layer_record Master (path_layer row.0) 15).shapes,
      first_of (layer_failures Master (path_layer row.0) 15),
    )) path_rows
    ≡ map {B = List Shape × Option Failure} (λ row. (path row.1, None)) path_rows
unfolding layers_on_literals
paths-computed = refl

-- a cubic node is refused at the node, what is no type at itself
abbrev type_rows : List (List ℕ × Option Failure)
type_rows =
    (codes "c", refused CubicNode 110)
    ∷ (codes "cs", refused CubicNode 110)
    ∷ (codes "x", refused WrongShape 100)
    ∷ (codes "os ", refused WrongShape 100)
    ∷ []

pub types-computed :
    map (λ row. first_of (layer_failures Master (path_layer row.0) 15)) type_rows
    ≡ map (λ row. row.1) type_rows
unfolding layers_on_literals
types-computed = refl

-- ---- components

abbrev component : ℤ → ℤ → ℤ → ℕ → List Shape
component x y s quarters =
    let at : Fixed × Fixed = (record { 0 = x }, record { 0 = y }) in
    let scale : Fixed × Fixed = (record { 0 = pos 32768 }, record { 0 = s }) in
    Component (codes "B") at scale quarters ∷ []

-- moved by (10.25,-3), scaled by (0.5,-2), and turned: by 90 degrees, back by 450 and by 90, by two
-- full turns, and by a number of ninety degrees that has more digits than are kept elsewhere
abbrev angle_rows : List (List ℕ × ℕ)
angle_rows =
    (codes "90", 1)
    ∷ (codes "180.0", 2)
    ∷ (codes "-450", 3)
    ∷ (codes "-90", 3)
    ∷ (codes "-0", 0)
    ∷ (codes "720", 0)
    ∷ (codes "99999999999999999990", 3)
    ∷ (codes "-99999999999999999990", 1)
    ∷ []

abbrev angle_layer : List ℕ → Tree
angle_layer angle =
    component_layer (codes "10.25") (codes "-3") (codes "-2") (codes "angle") angle

pub angles-computed :
    map {B = List Shape × Option Failure} (λ row. (
      (layer_record Master (angle_layer row.0) 17).shapes,
      first_of (layer_failures Master (angle_layer row.0) 17),
    )) angle_rows
    ≡ map {B = List Shape × Option Failure}
    (λ row. (component (pos 671744) (neg_ℤ (pos 196608)) (neg_ℤ (pos 131072)) row.1, None))
    angle_rows
unfolding layers_on_literals
angles-computed = refl

-- a decimal reads as the nearest number in 16.16
abbrev offset_rows : List (List ℕ × ℤ)
offset_rows =
    (codes "16383", pos 1073676288)
    ∷ (codes "-16383.0", neg_ℤ (pos 1073676288))
    ∷ (codes "0.000007629", pos 0)
    ∷ (codes "0.00000763", pos 1)
    ∷ (codes "-0.000007629", pos 0)
    ∷ (codes "-0.00000763", neg_ℤ (pos 1))
    ∷ []

pub offsets-computed :
    map (λ row. (layer_record Intermediate
    (component_layer row.0 (codes "0") (codes "16") (codes "none") (codes "0")) 17).shapes)
    offset_rows
    ≡ map (λ row. component row.1 (pos 0) (pos 1048576) 0) offset_rows
unfolding layers_on_literals
offsets-computed = refl

-- which rule a component fails: x, the second scale, and the value under a key
abbrev refused_rows : List ((List ℕ × List ℕ × List ℕ × List ℕ) × Option Failure)
refused_rows =
    ((codes "0", codes "1", codes "angle", codes "45"), refused UnsupportedTransform 150)
    ∷ ((codes "0", codes "1", codes "angle", codes "90.5"), refused UnsupportedTransform 150)
    ∷ ((codes "0", codes "1", codes "angle", codes "x"), refused WrongShape 140)
    ∷ ((codes "0", codes "1", codes "slant", codes "5"), refused UnsupportedTransform 150)
    ∷ ((codes "0", codes "1", codes "slant", codes "-0"), None)
    ∷ ((codes "0", codes "1", codes "piece", codes "0"), refused UnsupportedTransform 150)
    ∷ ((codes "16383.5", codes "1", codes "none", codes "0"), refused CoordinateTooLarge 60)
    ∷ ((codes "0", codes "16.000000001", codes "none", codes "0"), refused OutOfRange 110)
    ∷ ((codes "0", codes "-17", codes "none", codes "0"), refused OutOfRange 110)
    ∷ []

pub refusals-computed :
    map (λ row. first_of (layer_failures Master
    (component_layer row.0.0 (codes "0") row.0.1 row.0.2 row.0.3) 17)) refused_rows
    ≡ map (λ row. row.1) refused_rows
unfolding layers_on_literals
refusals-computed = refl

pub components-numbered : component_numbers (angle_layer (codes "0")) 17 ≡ 15 ∷ []
unfolding layers_on_literals
components-numbered = refl

-- ---- anchors

abbrev anchor : List ℕ → ℤ → Anchor
anchor name x = record { name = name; x = x; y = pos 2 }

-- of two anchors of one name the first counts, and an intermediate layer has none
pub anchors-computed :
    (layer_record Master (anchor_layer (codes "bottom") (codes "-5")) 15).anchors
    ∷ (layer_record Master (anchor_layer (codes "top") (codes "-5")) 15).anchors
    ∷ (layer_record Intermediate (anchor_layer (codes "bottom") (codes "-5")) 15).anchors
    ∷ []
    ≡ (anchor (codes "top") (pos 1) ∷ anchor (codes "bottom") (neg_ℤ (pos 5)) ∷ [])
    ∷ (anchor (codes "top") (pos 1) ∷ [])
    ∷ []
    ∷ []
unfolding layers_on_literals
anchors-computed = refl

-- a second anchor of a name is looked at too
pub second_anchors-refused :
    first_of (layer_failures Master (anchor_layer (codes "top") (codes "16384")) 15)
    ∷ first_of (layer_failures Intermediate (anchor_layer (codes "top") (codes "16384")) 15)
    ∷ []
    ≡ refused CoordinateTooLarge 110 ∷ None ∷ []
unfolding layers_on_literals
second_anchors-refused = refl
