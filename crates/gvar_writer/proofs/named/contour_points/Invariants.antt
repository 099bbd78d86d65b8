use Rattle.std.proofs.Common.{◌≡◌, take}
use Rattle.gvar_writer.proofs.named.contour_points.Given as goal

abbrev pub invariant-loop-point : goal.invariant-loop-point
invariant-loop-point l = l.contour.items ≡ take l.point-index l.points
