use Rattle.std.proofs.Common.{arith, subst, sym, ◌∙◌, Option, List, ℤ}
use Rattle.std.specs.Prelude.{IfSome}
use Rattle.std.proofs.lemmas.List.{at_drop_all}
use Rattle.font_ir.specs.Outlines.{stored_points, AreBounds, widened_by_all}
use Rattle.font_ir.specs.OutlineLaws.{bounds_are, widened_all}
use Rattle.font_ir.proofs.outline.bounds_of.Goals as goal

pub returns : goal.returns
returns c =
    let points = stored_points c.args.contours.now in
    let sides =
    sym (at_drop_all (λ contours. widened_by_all c.loop-contour.bounds (stored_points contours))
    c.args.contours.now c.loop-contour.contour-index (omega arith))
    ∙ c.loop-contour.invariant
    ∙ widened_all points in
    record {
      sides = sides;
      bounds = subst (λ (known : Option (List ℤ)). IfSome known (AreBounds points)) (sym sides)
          (bounds_are points);
    }
