-- the layers so far and those that are left are all
use Rattle.std.proofs.Common.{◌≡◌, ◌++◌, drop}
use Rattle.std.specs.Prelude.{flat_map}
use Rattle.glyphs_layers.specs.SourceLayers.{if_intermediate}
use Rattle.glyphs_layers.proofs.layers.each_intermediate.Given as goal

abbrev pub invariant-loop-number : goal.invariant-loop-number
invariant-loop-number l =
    l.layers.items ++ flat_map (if_intermediate l.tree l.masters) (drop l.number-index l.numbers)
    ≡ flat_map (if_intermediate l.tree l.masters) l.numbers
