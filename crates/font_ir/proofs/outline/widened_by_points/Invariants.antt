use Rattle.std.proofs.Common.{◌≡◌, map, drop}
use Rattle.font_ir.specs.Outlines.{stored_point, widened_by_all}
use Rattle.font_ir.proofs.outline.widened_by_points.Given as goal

abbrev pub invariant-loop-point : goal.invariant-loop-point
invariant-loop-point l =
    widened_by_all l.widest (map stored_point (drop l.point-index l.points))
    ≡ widened_by_all l.fn.bounds (map stored_point l.points)
