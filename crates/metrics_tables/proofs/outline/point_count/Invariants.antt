use Rattle.std.proofs.Common.{◌≡◌, take}
use Rattle.font_ir.specs.FlatGlyphs.{point_count}
use Rattle.metrics_tables.proofs.outline.point_count.Given as goal

abbrev pub invariant-loop-contour : goal.invariant-loop-contour
invariant-loop-contour l = l.count ≡ point_count (take l.contour-index l.contours)
