use Rattle.std.proofs.Common.{◌≡◌, map}
use Rattle.std.specs.List.{range_with_len}
use Rattle.font_ir.specs.Coordinates.{coordinate_at}
use Rattle.axis_space.specs.Scales.{normal_by, scale_at}
use Rattle.axis_space.proofs.placing.place_on.Given as goal

abbrev pub invariant-loop-axis : goal.invariant-loop-axis
invariant-loop-axis l =
    l.place.items ≡ map (λ axis. normal_by (scale_at l.scales axis) (coordinate_at l.design axis))
    (range_with_len 0 l.axis)
