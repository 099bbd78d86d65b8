-- the count is that of the contours so far, cut to the greatest number
use Rattle.std.proofs.Common.{◌≡◌, ◌-◌, ◌^◌, min, take, length}
use Rattle.std.specs.List.{sum_by}
use Rattle.font_ir.specs.declared.glyph.Contour.{Contour}
use Rattle.component_flatten.proofs.limits.count_points.Given as goal

abbrev pub invariant-loop-contour : goal.invariant-loop-contour
invariant-loop-contour l = l.count ≡ min
    (sum_by (λ (contour : Contour). length contour.points) (take l.contour-index l.contours))
    (2 ^ 64 - 1)
