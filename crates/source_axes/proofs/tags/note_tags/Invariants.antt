-- what is noted of the axes that are left is what is noted of all
use Rattle.std.proofs.Common.{◌≡◌, drop}
use Rattle.refusal_codes.specs.First.{noted}
use Rattle.source_axes.specs.AxisReading.{repeated_tags}
use Rattle.source_axes.proofs.tags.note_tags.Given as goal

abbrev pub invariant-loop-axis : goal.invariant-loop-axis
invariant-loop-axis l =
    noted l.first (repeated_tags l.tree l.tags.keys (drop l.axis-index l.axes))
    ≡ noted l.initial.first (repeated_tags l.tree l.initial.tags.keys l.axes)
