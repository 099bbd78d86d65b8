use Rattle.std.proofs.Common.{◌≡◌, drop}
use Rattle.axis_space.specs.Points as spec
use Rattle.axis_space.proofs.points.neighbour_above.Given as goal

abbrev pub invariant-loop-master : goal.invariant-loop-master
invariant-loop-master l =
    spec.lower l.nearest (spec.above l.design.0
    (spec.points_of (drop l.master-index l.masters) l.axis))
    ≡ spec.above l.design.0 (spec.points_of l.masters l.axis)
