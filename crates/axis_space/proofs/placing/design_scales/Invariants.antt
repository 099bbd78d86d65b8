use Rattle.std.proofs.Common.{◌≡◌}
use Rattle.axis_space.specs.Scales.{scales_on}
use Rattle.axis_space.proofs.placing.design_scales.Given as goal

abbrev pub invariant-loop-axis : goal.invariant-loop-axis
invariant-loop-axis l = l.scales.items ≡ scales_on l.masters l.origin l.axis
