-- the places so far and those of the layers that are left are all
use Rattle.std.proofs.Common.{◌≡◌, ◌++◌, drop}
use Rattle.std.specs.Prelude.{flat_map}
use Rattle.glyphs_layers.specs.GlyphPlaces.{own_place}
use Rattle.glyphs_layers.proofs.places.add_own_places.Given as goal

abbrev pub invariant-loop-layer : goal.invariant-loop-layer
invariant-loop-layer l =
    l.places.items ++ flat_map (own_place l.tree l.header) (drop l.layer-index l.layers)
    ≡ l.initial.places.items ++ flat_map (own_place l.tree l.header) l.layers
