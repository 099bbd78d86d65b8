use Rattle.std.proofs.Common.{◌≡◌, ◌++◌, drop, map}
use Rattle.std.specs.List.{list_all}
use Rattle.component_flatten.specs.Drawing.{transformed_contour}
use Rattle.component_flatten.specs.Places.{contour_between}
use Rattle.component_flatten.specs.Flattening.{has_small_points}
use Rattle.component_flatten.proofs.drawing.push_between.Given as goal

abbrev pub invariant-loop-deltas : goal.invariant-loop-deltas
invariant-loop-deltas l = record {
  so_far : l.contours ++ map (transformed_contour l.transform)
      (map (contour_between l.between.model l.at) (drop l.deltas-index l.between.contours))
      ≡ l.initial.contours ++ map (transformed_contour l.transform)
      (map (contour_between l.between.model l.at) l.between.contours);
  small : list_all has_small_points (map (transformed_contour l.transform)
      (map (contour_between l.between.model l.at) (drop l.deltas-index l.between.contours)))
      ≡ list_all has_small_points (map (transformed_contour l.transform)
      (map (contour_between l.between.model l.at) l.between.contours));
}
