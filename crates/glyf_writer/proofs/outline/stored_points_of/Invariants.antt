use Rattle.std.proofs.Common.{◌≡◌, ◌++◌, drop}
use Rattle.font_ir.specs.Outlines.{stored_points}
use Rattle.glyf_writer.specs.Outlines.{AreSmall}
use Rattle.glyf_writer.proofs.outline.stored_points_of.Given as goal

abbrev pub invariant-loop-contour : goal.invariant-loop-contour
invariant-loop-contour l =
    record {
      told : l.points.items ++ stored_points (drop l.contour-index l.contours)
          ≡ stored_points l.contours;
      small : AreSmall l.points.items;
    }
