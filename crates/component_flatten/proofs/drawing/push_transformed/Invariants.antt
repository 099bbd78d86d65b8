use Rattle.std.proofs.Common.{◌≡◌, ◌++◌, drop, map}
use Rattle.std.specs.List.{list_all}
use Rattle.component_flatten.specs.Drawing.{transformed_contour}
use Rattle.component_flatten.specs.Flattening.{has_small_points}
use Rattle.component_flatten.proofs.drawing.push_transformed.Given as goal

abbrev pub invariant-loop-contour : goal.invariant-loop-contour
invariant-loop-contour l = record {
  so_far : l.contours ++ map (transformed_contour l.transform) (drop l.contour-index l.drawn)
      ≡ l.initial.contours ++ map (transformed_contour l.transform) l.drawn;
  small : list_all has_small_points
      (map (transformed_contour l.transform) (drop l.contour-index l.drawn))
      ≡ list_all has_small_points (map (transformed_contour l.transform) l.drawn);
}
