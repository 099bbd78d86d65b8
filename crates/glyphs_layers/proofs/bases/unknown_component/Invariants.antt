-- what is noted, with what the layers that are left fail, is what all fail
use Rattle.std.proofs.Common.{◌≡◌, drop, None}
use Rattle.std.specs.Prelude.{flat_map}
use Rattle.refusal_codes.specs.First.{noted}
use Rattle.glyphs_layers.specs.Bases.{unknown_components}
use Rattle.glyphs_layers.proofs.bases.unknown_component.Given as goal

abbrev pub invariant-loop-layer : goal.invariant-loop-layer
invariant-loop-layer l =
    noted l.first (flat_map (unknown_components l.tree l.index) (drop l.layer-index l.layers))
    ≡ noted None (flat_map (unknown_components l.tree l.index) l.layers)
