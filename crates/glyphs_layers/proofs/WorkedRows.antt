-- Worked examples of where layers lie, and of layers that have or have not the form of the first.
-- The masters are at 400 and 700, as in a font of one axis.
use Rattle.std.proofs.Common.{◌≡◌, ℕ, Bool, true, false, List, [], ◌∷◌, Some, None, refl}
use Rattle.std.specs.Prelude.{ℤ, pos, codes}
use Rattle.plist_reader.specs.declared.tree.Tree.{Tree}
use Rattle.fixed_math.specs.declared.F2Dot14.{F2Dot14}
use Rattle.fixed_math.specs.declared.Fixed.{Fixed}
use Rattle.font_ir.specs.declared.glyph.DrawnPoint.{DrawnPoint}
use Rattle.font_ir.specs.declared.glyph.Shape.{Shape}
use Rattle.font_ir.specs.declared.glyph.Shape.TheVariants.{Path, Component}
use Rattle.font_ir.specs.declared.glyph.LayerIr.{LayerIr}
use Rattle.font_ir.specs.declared.header.Master.{Master}
use Rattle.refusal_codes.specs.declared.rule.Rule.TheVariants.{SameLayerPlace}
use Rattle.source_values.specs.Values.{place_at}
use Rattle.axis_space.specs.Placing.{place_of}
use Rattle.axis_space.specs.Repeats.{first_repeat}
use Rattle.layer_shapes.specs.declared.kind.LayerKind.TheVariants as a
use Rattle.glyphs_layers.specs.declared.layers.SourceLayer.{SourceLayer}
use Rattle.glyphs_layers.specs.GlyphPlaces.{are_within, same_place}
use Rattle.glyphs_layers.specs.Forms.{same_form}

abbrev fixed : ℤ → Fixed
fixed raw = record { 0 = raw }

abbrev number : ℤ → F2Dot14
number raw = record { 0 = raw }

abbrev master : List ℕ → ℤ → ℤ → Master
master id design location = record {
  id = id;
  design = fixed design ∷ [];
  user = fixed design ∷ [];
  location = number location ∷ [];
  ascender = pos 0;
  descender = pos 0;
  cap = pos 0;
  xheight = pos 0;
  place = 0;
}

abbrev ends : List Master
ends =
    master (codes "m1") (pos 26214400) (pos 0) ∷ master (codes "m2") (pos 45875200) (pos 16384)
    ∷ []

-- 550 lies half of the way between them, 400 at the first one, and 800 beyond the second one
at_550 : are_within ends 0 (fixed (pos 36044800) ∷ []) ≡ true
at_550 = refl

half_way : place_of ends 0 1 (fixed (pos 36044800) ∷ []) ≡ number (pos 8192) ∷ []
unfolding place_of
half_way = refl

at_400 : are_within ends 0 (fixed (pos 26214400) ∷ []) ≡ true
at_400 = refl

at_800 : are_within ends 0 (fixed (pos 52428800) ∷ []) ≡ false
at_800 = refl

-- layers of both masters and one between them
abbrev layers : List SourceLayer
layers =
    record { kind = a.Master; number = 1 } ∷ record { kind = a.Master; number = 2 }
    ∷ record { kind = a.Intermediate; number = 3 } ∷ []

abbrev places : ℤ → List (List F2Dot14)
places between =
    (number (pos 0) ∷ []) ∷ (number (pos 16384) ∷ []) ∷ (number between ∷ []) ∷ []

-- the one at the first master's place is told
between_them : (t : Tree) → same_place t layers (places (pos 8192)) ≡ None
unfolding same_place first_repeat
between_them t = refl

at_the_first : (t : Tree) → same_place t layers (places (pos 0))
    ≡ Some (record { rule = SameLayerPlace; place = place_at t 3 })
unfolding same_place first_repeat
at_the_first t = refl

-- ---- forms

abbrev point : ℤ → ℤ → Bool → DrawnPoint
point x y on = record { x = fixed x; y = fixed y; on = on }

abbrev layer : List Shape → LayerIr
layer shapes = record { width = pos 500; shapes = shapes; anchors = [] }

abbrev line : ℤ → Bool → Shape
line x on = Path (record { points = point (pos 0) (pos 0) true ∷ point x (pos 7) on ∷ [] })

abbrev component : List ℕ → ℤ → Shape
component base x = Component base (fixed x, fixed (pos 0)) (fixed (pos 65536), fixed (pos 65536)) 0

-- where points lie and components are put doesn't count
moved : same_form (layer (line (pos 5) true ∷ component (codes "A") (pos 1) ∷ []))
    (layer (line (pos 6) true ∷ component (codes "A") (pos 2) ∷ [])) ≡ true
moved = refl

off_the_curve : same_form (layer (line (pos 5) true ∷ [])) (layer (line (pos 5) false ∷ []))
    ≡ false
off_the_curve = refl

other_base : same_form (layer (component (codes "A") (pos 1) ∷ []))
    (layer (component (codes "B") (pos 1) ∷ [])) ≡ false
other_base = refl

other_kind : same_form (layer (line (pos 5) true ∷ []))
    (layer (component (codes "A") (pos 1) ∷ [])) ≡ false
other_kind = refl
