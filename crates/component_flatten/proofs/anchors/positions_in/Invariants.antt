use Rattle.std.proofs.Common.{take}
use Rattle.std.specs.List.{AllZip}
use Rattle.component_flatten.specs.Judging.{Finds}
use Rattle.component_flatten.proofs.anchors.positions_in.Given as goal

abbrev pub invariant-loop-layer : goal.invariant-loop-layer
invariant-loop-layer l = AllZip (λ positions layer. Finds positions layer.anchors) l.found
    (take l.layer-index l.layers)
