use Rattle.std.proofs.Common.{◌≡◌, drop, None}
use Rattle.font_ir.specs.Outlines.{stored_points, widened_by_all}
use Rattle.font_ir.proofs.outline.bounds_of.Given as goal

abbrev pub invariant-loop-contour : goal.invariant-loop-contour
invariant-loop-contour l =
    widened_by_all l.bounds (stored_points (drop l.contour-index l.contours))
    ≡ widened_by_all None (stored_points l.contours)
