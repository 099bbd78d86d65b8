-- what is noted, with what the layers that are left fail, is what all fail
use Rattle.std.proofs.Common.{◌≡◌, drop, None}
use Rattle.std.specs.Prelude.{flat_map}
use Rattle.refusal_codes.specs.First.{noted}
use Rattle.glyphs_layers.specs.Bases.{too_many_components}
use Rattle.glyphs_layers.proofs.bases.crowded_layer.Given as goal

abbrev pub invariant-loop-i : goal.invariant-loop-i
invariant-loop-i l =
    noted l.first (flat_map (too_many_components l.tree) (drop l.i l.layers))
    ≡ noted None (flat_map (too_many_components l.tree) l.layers)
