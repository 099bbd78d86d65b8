use Rattle.std.proofs.Common.{◌≡◌, ◌++◌, drop, map}
use Rattle.component_flatten.specs.Composites.{offset_in}
use Rattle.component_flatten.proofs.composites.offsets.Given as goal

abbrev pub invariant-loop-layer : goal.invariant-loop-layer
invariant-loop-layer l = l.offsets ++ map (offset_in l.n) (drop l.layer-index l.layers)
    ≡ map (offset_in l.n) l.layers
