use Rattle.std.proofs.Common.{◌≡◌, drop}
use Rattle.variation_model.specs.Supports as spec
use Rattle.variation_model.proofs.supports.are_all_inside.Given as goal

abbrev pub invariant-loop-i : goal.invariant-loop-i
invariant-loop-i l = spec.all_inside (drop l.i l.sides) (drop l.i l.place)
    ≡ spec.all_inside l.sides l.place
