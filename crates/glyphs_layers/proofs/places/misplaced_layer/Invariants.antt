-- the first misplaced layer among those that are left is the first among all
use Rattle.std.proofs.Common.{◌≡◌, drop}
use Rattle.std.specs.Prelude.{flat_map}
use Rattle.refusal_codes.specs.First.{foremost}
use Rattle.glyphs_layers.specs.GlyphPlaces.{misplaced}
use Rattle.glyphs_layers.proofs.places.misplaced_layer.Given as goal

abbrev pub invariant-loop-layer : goal.invariant-loop-layer
invariant-loop-layer l =
    foremost (flat_map (misplaced l.tree l.header) (drop l.layer-index l.layers))
    ≡ foremost (flat_map (misplaced l.tree l.header) l.layers)
