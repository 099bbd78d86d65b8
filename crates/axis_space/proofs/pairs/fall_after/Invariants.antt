use Rattle.std.proofs.Common.{◌≡◌, drop}
use Rattle.axis_space.specs.AxisPairs.{fall_after}
use Rattle.axis_space.proofs.pairs.fall_after.Given as goal

abbrev pub invariant-loop-pair : goal.invariant-loop-pair
invariant-loop-pair l = fall_after l.last (drop l.pair-index l.pairs)
    ≡ fall_after l.fn.first l.pairs
