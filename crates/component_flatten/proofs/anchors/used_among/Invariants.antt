use Rattle.std.proofs.Common.{◌≡◌, ◌++◌, drop}
use Rattle.std.specs.List.{flat_map}
use Rattle.component_flatten.specs.Anchors.{used_if}
use Rattle.component_flatten.specs.Judging.{found_in}
use Rattle.component_flatten.proofs.anchors.used_among.Given as goal

abbrev pub invariant-loop-anchor : goal.invariant-loop-anchor
invariant-loop-anchor l = l.used
    ++ flat_map (λ anchor. used_if anchor.name (found_in anchor.name l.found))
    (drop l.anchor-index l.anchors)
    ≡ flat_map (λ anchor. used_if anchor.name (found_in anchor.name l.found)) l.anchors
