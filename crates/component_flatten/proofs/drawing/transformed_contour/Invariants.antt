use Rattle.std.proofs.Common.{◌≡◌, ◌++◌, drop, map}
use Rattle.std.specs.List.{list_all}
use Rattle.component_flatten.specs.Transforms.{transformed_point}
use Rattle.component_flatten.specs.Flattening.{is_small_point}
use Rattle.component_flatten.proofs.drawing.transformed_contour.Given as goal

abbrev pub invariant-loop-point : goal.invariant-loop-point
invariant-loop-point l = record {
  so_far : l.points ++ map (transformed_point l.transform) (drop l.point-index l.contour.points)
      ≡ map (transformed_point l.transform) l.contour.points;
  small : list_all is_small_point
      (map (transformed_point l.transform) (drop l.point-index l.contour.points))
      ≡ list_all is_small_point (map (transformed_point l.transform) l.contour.points);
}
