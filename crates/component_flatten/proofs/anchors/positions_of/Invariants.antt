use Rattle.std.proofs.Common.{◌≡◌, drop}
use Rattle.component_flatten.specs.Judging.{found_in, behind}
use Rattle.component_flatten.proofs.anchors.positions_of.Given as goal

abbrev pub invariant-loop-layer : goal.invariant-loop-layer
invariant-loop-layer l = behind l.positions (found_in l.name (drop l.layer-index l.found))
    ≡ found_in l.name l.found
