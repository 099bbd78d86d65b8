-- What a caller of `flatten` may use where a glyph has no components or no anchors.
use Rattle.std.proofs.Common.{◌≡◌, ℕ, Bool, true, false, List, [], ◌∷◌, length, refl, arith}
use Rattle.std.proofs.Common.{take, ◌+◌, zero, suc, cond}
use Rattle.std.specs.Prelude.{slice_index_or, if◌then◌else◌, pos}
use Rattle.std.specs.List.{All, AllByRecursion, flat_map, count_by}
use Rattle.std.proofs.lemmas.List.Elements.{recursion_from_All}
use Rattle.std.proofs.lemmas.List.Sums.{sum_by-cons}
use Rattle.font_ir.specs.declared.glyph.Shape.{Shape}
use Rattle.font_ir.specs.declared.glyph.Shape.TheVariants.{Path, Component}
use Rattle.font_ir.specs.declared.glyph.Anchor.{Anchor}
use Rattle.font_ir.specs.declared.glyph.Kept.{Kept}
use Rattle.font_ir.specs.declared.glyph.LayerIr.{LayerIr}
use Rattle.font_ir.specs.declared.glyph.GlyphIr.{GlyphIr}
use Rattle.font_ir.specs.ReadGlyphs.{IsPath, HasNoComponents, HasNoAnchors, is_component}
use Rattle.glyphs_source.specs.declared.entries.IndexEntry.{IndexEntry}
use Rattle.component_flatten.specs.Numbered.{flat_numbered}
use Rattle.component_flatten.specs.Drawing.{names_of, first_shapes, component_names}
use Rattle.component_flatten.specs.Composites.{kept_shape, stays_composite, kept_of}
use Rattle.component_flatten.specs.Anchors.{used_anchor, used_anchors, anchors_of}
use Rattle.component_flatten.specs.Flattening.{HasBases}

no_names : (shapes : List Shape) → AllByRecursion IsPath shapes → names_of shapes ≡ []
no_names [] h = refl
no_names (Path contour ∷ shapes) h = no_names shapes h.1
no_names (Component base at scale quarters ∷ shapes) h = absurd h.0

abbrev shapes_first : List LayerIr → List Shape
shapes_first layers =
    (slice_index_or layers 0 (record { width = pos 0; shapes = []; anchors = [] })).shapes

paths_first : (layers : List LayerIr) → All (λ layer. All IsPath layer.shapes) layers
    → AllByRecursion IsPath (shapes_first layers)
paths_first [] h = tt
paths_first (layer ∷ layers) h =
    recursion_from_All IsPath layer.shapes (h 0 layer (omega arith))

-- a glyph without components needs no bases
pub no_components : (glyph : GlyphIr) → HasNoComponents glyph → HasBases glyph []
no_components glyph h =
    let e : component_names glyph ≡ [] = no_names (first_shapes glyph) (paths_first glyph.layers h)
    in rw e refl

-- it needs one for each component of its first layer
pub names_counted : (shapes : List Shape) → count_by is_component shapes ≡ length (names_of shapes)
names_counted [] = refl
names_counted (Path contour ∷ shapes) =
    let counted = sum_by-cons (λ (s : Shape). cond (is_component s) 1 0) (Path contour) shapes in
    omega (arith, counted, names_counted shapes)
names_counted (Component base at scale quarters ∷ shapes) =
    let counted = sum_by-cons (λ (s : Shape). cond (is_component s) 1 0)
    (Component base at scale quarters) shapes in
    omega (arith, counted, names_counted shapes)

-- and isn't kept as a composite
nothing_kept : (layers : List LayerIr) (k : ℕ) (shapes : List Shape)
    → AllByRecursion IsPath shapes → flat_numbered (kept_shape layers) k shapes ≡ []
nothing_kept layers k [] h = refl
nothing_kept layers k (Path contour ∷ shapes) h = nothing_kept layers (k + 1) shapes h.1
nothing_kept layers k (Component base at scale quarters ∷ shapes) h = absurd h.0

either : (b : Bool) (kept : List Kept) → kept ≡ [] → (if b then kept else []) ≡ []
either true kept e = e
either false kept e = refl

pub not_kept : (index : List (List ℕ × IndexEntry)) (glyph : GlyphIr) → HasNoComponents glyph
    → kept_of index glyph ≡ []
not_kept index glyph h = either (stays_composite index glyph) _
    (nothing_kept glyph.layers 0 (first_shapes glyph) (paths_first glyph.layers h))

none_used : (layers : List LayerIr) (anchors : List Anchor) → length anchors ≡ 0
    → flat_map (used_anchor layers) anchors ≡ []
none_used layers [] e = refl
none_used layers (anchor ∷ anchors) e = absurd (omega (arith, e))

none_first : (masters : ℕ) (layers : List LayerIr)
    → All (λ layer. length layer.anchors ≡ 0) layers → used_anchors (take masters layers) ≡ []
none_first zero layers h = refl
none_first (suc masters) [] h = refl
none_first (suc masters) (layer ∷ layers) h =
    none_used (layer ∷ take masters layers) layer.anchors (h 0 layer (omega arith))

-- a glyph without anchors in its layers has none
pub no_anchors : (glyph : GlyphIr) → HasNoAnchors glyph → anchors_of glyph ≡ []
no_anchors glyph h = none_first glyph.masters glyph.layers h
