-- The points of a contour with their deltas.
use Rattle.std.specs.Prelude.{ℤ, List, [], ◌∷◌}
use Rattle.delta_infer.specs.declared.moved.MovedPoint.{MovedPoint}
use Rattle.delta_infer.specs.declared.moved.Move.{Move}

-- on each axis: the coordinate and the delta
abbrev pub move_in_x : MovedPoint → Move
move_in_x point = record { at = point.x; delta = point.dx }

abbrev pub move_in_y : MovedPoint → Move
move_in_y point = record { at = point.y; delta = point.dy }

-- one delta per point, in order
abbrev pub moved_points : List (ℤ × ℤ) → List (ℤ × ℤ) → List MovedPoint
moved_points [] deltas = []
moved_points (point ∷ points) [] = []
moved_points (point ∷ points) (delta ∷ deltas) =
    record { x = point.0; y = point.1; dx = delta.0; dy = delta.1 } ∷ moved_points points deltas
