-- Which anchors a glyph has (Glyphs file format, version 3): those that the layer of every master
-- has, in the order of the first master's layer, with a position for each master. fontc's own.
use Rattle.std.specs.Prelude.{ℕ, nat_eq, if◌then◌else◌, List, [], ◌∷◌, take}
use Rattle.std.specs.Prelude.{Option, Some, None, ℤ}
use Rattle.std.specs.List.{flat_map}
use Rattle.std.specs.Cmp.Lexicographic.{pointwise}
use Rattle.font_ir.specs.declared.glyph.Anchor.{Anchor}
use Rattle.font_ir.specs.declared.glyph.LayerIr.{LayerIr}
use Rattle.font_ir.specs.declared.glyph.GlyphIr.{GlyphIr}

-- where the anchor with this name is; of two with one name the first counts
abbrev pub anchor_at : List ℕ → List Anchor → Option (ℤ × ℤ)
anchor_at name [] = None
anchor_at name (anchor ∷ anchors) =
    if pointwise nat_eq anchor.name name then Some (anchor.x, anchor.y) else anchor_at name anchors

-- one more position
abbrev pub with_position : Option (ℤ × ℤ) → Option (List (ℤ × ℤ)) → Option (List (ℤ × ℤ))
with_position None positions = None
with_position (Some position) None = None
with_position (Some position) (Some positions) = Some (position ∷ positions)

-- where it is in each layer, if all of them have it
abbrev pub positions_of : List ℕ → List LayerIr → Option (List (ℤ × ℤ))
positions_of name [] = Some []
positions_of name (layer ∷ layers) =
    with_position (anchor_at name layer.anchors) (positions_of name layers)

abbrev pub used_if : List ℕ → Option (List (ℤ × ℤ)) → List (List ℕ × List (ℤ × ℤ))
used_if name None = []
used_if name (Some positions) = (name, positions) ∷ []

-- an anchor that all of these layers have
abbrev pub used_anchor : List LayerIr → Anchor → List (List ℕ × List (ℤ × ℤ))
used_anchor layers anchor = used_if anchor.name (positions_of anchor.name layers)

abbrev pub first_anchors : List LayerIr → List Anchor
first_anchors [] = []
first_anchors (layer ∷ layers) = layer.anchors

-- the anchors that all of these layers have
abbrev pub used_anchors : List LayerIr → List (List ℕ × List (ℤ × ℤ))
used_anchors layers = flat_map (used_anchor layers) (first_anchors layers)

-- the masters' layers come first
abbrev pub anchors_of : GlyphIr → List (List ℕ × List (ℤ × ℤ))
anchors_of glyph = used_anchors (take glyph.masters glyph.layers)
