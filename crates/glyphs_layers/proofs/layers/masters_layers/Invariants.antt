-- the layers so far and those of the masters that are left are those of all
use Rattle.std.proofs.Common.{◌≡◌, ◌++◌, drop}
use Rattle.std.specs.Prelude.{flat_map}
use Rattle.glyphs_layers.specs.SourceLayers.{layers_of}
use Rattle.glyphs_layers.proofs.layers.masters_layers.Given as goal

abbrev pub invariant-loop-master : goal.invariant-loop-master
invariant-loop-master l =
    l.layers.items ++ flat_map (layers_of l.tree l.numbers) (drop l.master-index l.masters)
    ≡ flat_map (layers_of l.tree l.numbers) l.masters
