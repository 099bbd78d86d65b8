-- the widths so far and those of the layers that are left are those of all
use Rattle.std.proofs.Common.{◌≡◌, ◌++◌, drop, map}
use Rattle.component_flatten.proofs.drawing.widths.Given as goal

abbrev pub invariant-loop-layer : goal.invariant-loop-layer
invariant-loop-layer l = l.widths.items ++ map (λ layer. layer.width) (drop l.layer-index l.layers)
    ≡ map (λ layer. layer.width) l.layers
