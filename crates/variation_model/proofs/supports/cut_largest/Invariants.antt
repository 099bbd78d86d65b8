use Rattle.std.proofs.Common.{◌≡◌, ◌++◌, take, drop}
use Rattle.variation_model.specs.Supports as spec
use Rattle.variation_model.proofs.supports.cut_largest.Given as goal

abbrev pub invariant-loop-i : goal.invariant-loop-i
invariant-loop-i l =
    take l.i l.sides ++ spec.cut_largest (l.largest.distance, l.largest.reach) (drop l.i l.sides)
    (drop l.i l.place) ≡ spec.cut_largest (l.largest.distance, l.largest.reach) l.initial.sides
    l.place
