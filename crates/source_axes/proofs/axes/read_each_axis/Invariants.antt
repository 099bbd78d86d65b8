use Rattle.std.proofs.Common.{◌≡◌, map, take}
use Rattle.source_axes.specs.AxisReading.{axis_of}
use Rattle.source_axes.proofs.axes.read_each_axis.Given as goal

abbrev pub invariant-loop-number : goal.invariant-loop-number
invariant-loop-number l = l.axes.items ≡ map (axis_of l.tree) (take l.number-index l.numbers)
