use Rattle.std.proofs.Common.{◌≡◌, drop}
use Rattle.variation_model.specs.Supports as spec
use Rattle.variation_model.proofs.supports.largest_ratio.Given as goal

abbrev pub invariant-loop-i : goal.invariant-loop-i
invariant-loop-i l =
    spec.largest_ratio_from (l.largest.distance, l.largest.reach) (drop l.i l.sides)
    (drop l.i l.place) ≡ spec.largest_ratio l.sides l.place
