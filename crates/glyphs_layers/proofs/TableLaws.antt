-- The tables of a glyph's list of layers tell which local rules fail.
use Rattle.std.proofs.Common.{◌⊎◌, ℕ, inl, inr}
use Rattle.std.specs.Prelude.{codes, flat_map}
use Rattle.plist_reader.specs.declared.tree.Tree.{Tree}
use Rattle.font_ir.specs.declared.header.Header.{Header}
use Rattle.refusal_codes.specs.declared.first.Failure.{Failure}
use Rattle.source_values.specs.Ways.{IsOneOf, Fails}
use Rattle.source_values.specs.WayLaws.{among_left, among_right, among_cases}
use Rattle.source_values.specs.Telling.{Told, text, can, every, within}
use Rattle.source_values.specs.Telling.{of_several, to_several}
use Rattle.source_axes.specs.AxisTelling.{axis_value_told}
use Rattle.layer_shapes.specs.declared.kind.LayerKind.{LayerKind}
use Rattle.layer_shapes.specs.declared.kind.LayerKind.TheVariants as a
use Rattle.layer_shapes.specs.LayerRules.{layer_failures}
use Rattle.glyphs_layers.specs.declared.layers.SourceLayer.{SourceLayer}
use Rattle.glyphs_layers.specs.SourceLayers.{source_layers}
use Rattle.glyphs_layers.specs.GlyphRules.{entry_failures, entries_failures, coordinates_failures}
use Rattle.glyphs_layers.specs.GlyphRules.{place_failures, source_failures, glyph_failures}
use Rattle.glyphs_layers.specs.GlyphTables.{entries_table, coordinates_table, place_table}
use Rattle.glyphs_layers.specs.GlyphTables.{FailsAsRead, GlyphsAreTabled}

entries_told : Told entries_table entries_failures
unfolding entries_failures entry_failures
entries_told = can (codes "layers") (every (within (can (codes "layerId") text)))

coordinates_told : Told coordinates_table coordinates_failures
unfolding coordinates_failures
coordinates_told = can (codes "attr") (can (codes "coordinates") (every axis_value_told))

module _ (t : Tree) (f : Failure) where
  to_place : (kind : LayerKind) (n : ℕ) → IsOneOf (place_failures kind t n) f
      → Fails (place_table kind) t n f
  to_place a.Master n p = p
  to_place a.Intermediate n p = (coordinates_told.tells t n f).0 p

  of_place : (kind : LayerKind) (n : ℕ) → Fails (place_table kind) t n f
      → IsOneOf (place_failures kind t n) f
  of_place a.Master n p = p
  of_place a.Intermediate n p = (coordinates_told.tells t n f).1 p

  to_read : (layer : SourceLayer) → IsOneOf (source_failures t layer) f → FailsAsRead t f layer
  to_read layer p =
      elim (among_cases f (place_failures layer.kind t layer.number)
      (layer_failures layer.kind t layer.number) p) [
        | inl q ↦ inl (to_place layer.kind layer.number q)
        | inr q ↦ inr q
      ]

  of_read : (layer : SourceLayer) → FailsAsRead t f layer → IsOneOf (source_failures t layer) f
  of_read layer (inl q) =
      among_left f (place_failures layer.kind t layer.number)
      (layer_failures layer.kind t layer.number) (of_place layer.kind layer.number q)
  of_read layer (inr q) =
      among_right f (place_failures layer.kind t layer.number)
      (layer_failures layer.kind t layer.number) q

  module _ (h : Header) (g : ℕ) where
    abbrev Told-here : Type 0
    Told-here = Fails entries_table t g f
        ⊎ ((layer : SourceLayer) × IsOneOf (source_layers t h g) layer × FailsAsRead t f layer)

    forth : IsOneOf (glyph_failures t h g) f → Told-here
    unfolding glyph_failures
    forth p =
        elim (among_cases f (entries_failures t g)
        (flat_map (source_failures t) (source_layers t h g)) p) [
          | inl q ↦ inl ((entries_told.tells t g f).0 q)
          | inr q ↦ (
              let (layer, is, r) = of_several (source_failures t) f (source_layers t h g) q in
              inr (layer, is, to_read layer r)
              )
        ]

    back : Told-here → IsOneOf (glyph_failures t h g) f
    unfolding glyph_failures
    back (inl p) =
        among_left f (entries_failures t g) (flat_map (source_failures t) (source_layers t h g))
        ((entries_told.tells t g f).1 p)
    back (inr (layer, is, p)) =
        among_right f (entries_failures t g) (flat_map (source_failures t) (source_layers t h g))
        (to_several (source_failures t) f (source_layers t h g) layer is (of_read layer p))

pub tabled : GlyphsAreTabled
tabled t header glyph f = (forth t f header glyph, back t f header glyph)
