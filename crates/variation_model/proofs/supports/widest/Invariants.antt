use Rattle.std.proofs.Common.{◌≡◌, ◌++◌, drop}
use Rattle.variation_model.specs.Supports as spec
use Rattle.variation_model.proofs.supports.widest.Given as goal

abbrev pub invariant-loop-axis : goal.invariant-loop-axis
invariant-loop-axis l = l.sides.items ++ spec.widest_from l.places l.axis (drop l.axis l.place)
    ≡ spec.widest_from l.places 0 l.place
