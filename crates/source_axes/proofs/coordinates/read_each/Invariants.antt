use Rattle.std.proofs.Common.{◌≡◌, map, take}
use Rattle.source_axes.specs.AxisValues.{axis_coordinate}
use Rattle.source_axes.proofs.coordinates.read_each.Given as goal

abbrev pub invariant-loop-number : goal.invariant-loop-number
invariant-loop-number l = l.values.items
    ≡ map (axis_coordinate l.tree) (take l.number-index l.numbers)
