-- A font without axes has no other layers than those of its masters, so a glyph has no other places
-- than theirs. For the proofs of this crate and of those above it.
use Rattle.std.proofs.Common.{◌≡◌, ℕ, cond, List, [], ◌∷◌, ◌++◌, length, map, Option, Some, None}
use Rattle.std.proofs.Common.{refl, ap, ◌∙◌, append-nil}
use Rattle.std.specs.Prelude.{flat_map, nat_eq}
use Rattle.std.specs.Option.{option_map_or}
use Rattle.plist_reader.specs.declared.tree.Tree.{Tree}
use Rattle.fixed_math.specs.declared.F2Dot14.{F2Dot14}
use Rattle.font_ir.specs.declared.header.Header.{Header}
use Rattle.font_ir.specs.declared.header.Master.{Master}
use Rattle.glyphs_layers.specs.declared.layers.SourceLayer.{SourceLayer}
use Rattle.glyphs_layers.specs.SourceLayers.{layer_numbers, layer_of, masters_layer}
use Rattle.glyphs_layers.specs.SourceLayers.{masters_layers, if_intermediate, intermediate_layers}
use Rattle.glyphs_layers.specs.SourceLayers.{source_layers}
use Rattle.glyphs_layers.specs.GlyphPlaces.{own_place, places_of}

abbrev pub location_of : Master → List F2Dot14
location_of m = m.location

-- the places of layers that have one of their own
abbrev pub own : Tree → Header → List SourceLayer → List (List F2Dot14)
own t h layers = flat_map (own_place t h) layers

module _ (t : Tree) (h : Header) where
  none_own_by : (o : Option ℕ) (behind rest : List SourceLayer) (places : List (List F2Dot14))
      → own t h (behind ++ rest) ≡ places
      → own t h ((option_map_or masters_layer o [] ++ behind) ++ rest) ≡ places
  none_own_by None behind rest places e = e
  none_own_by (Some n) behind rest places e = e

  -- the layers of masters have none
  pub none_own : (ns : List ℕ) (ms : List Master) (rest : List SourceLayer)
      → own t h (masters_layers t ms ns ++ rest) ≡ own t h rest
  none_own ns [] rest = refl
  none_own ns (m ∷ ms) rest =
      none_own_by (layer_of t ns m) (masters_layers t ms ns) rest (own t h rest)
      (none_own ns ms rest)

  -- without axes there are the masters' places alone
  pub masters_places : (g : ℕ) → h.axes ≡ [] → places_of t h g ≡ map location_of h.masters
  unfolding places_of source_layers
  masters_places g none =
      let ns = layer_numbers t g in
      ap (λ (ps : List (List F2Dot14)). map location_of h.masters ++ ps)
      (none_own ns h.masters (intermediate_layers t h ns)
      ∙ ap (λ (k : ℕ). own t h (cond (nat_eq k 0) []
      (flat_map (if_intermediate t (masters_layers t h.masters ns)) ns)))
      (ap length none))
      ∙ append-nil (map location_of h.masters)
