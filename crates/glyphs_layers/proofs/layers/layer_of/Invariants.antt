-- what is found among the layers that are left is what is found among all
use Rattle.std.proofs.Common.{◌≡◌, drop}
use Rattle.std.specs.List.{find}
use Rattle.glyphs_layers.specs.SourceLayers.{is_layer_of}
use Rattle.glyphs_layers.proofs.layers.layer_of.Given as goal

abbrev pub invariant-loop-number : goal.invariant-loop-number
invariant-loop-number l = find (is_layer_of l.tree l.master.id) (drop l.number-index l.numbers)
    ≡ find (is_layer_of l.tree l.master.id) l.numbers
