-- What holds of the points that are left out.
use Rattle.std.specs.Prelude.{◌≡◌, ℕ, ℤ, pos, ◌*ℤ◌, Bool, true, false, List, [], ◌∷◌, ◌++◌, length}
use Rattle.std.specs.Prelude.{take, drop, slice_index_or, EachIndex}
use Rattle.delta_infer.specs.declared.moved.MovedPoint.{MovedPoint}
use Rattle.delta_infer.specs.Moved.{moved_points, move_in_x, move_in_y}
use Rattle.delta_infer.specs.Inferred.{MarkedPoint, inferred}
use Rattle.delta_infer.specs.Omitted.{with_marks, can_be_left_out}

-- each point that is left out has, from the points that stay named, exactly its own delta
abbrev pub NothingChanges : List MarkedPoint → Type 0
NothingChanges contour =
    (earlier later : List MarkedPoint) (point : MovedPoint)
    → contour ≡ earlier ++ record { point = point; left_out = true } ∷ later
    → (inferred move_in_x (later ++ earlier) point.x ≡ pos 65536 *ℤ point.dx)
    × (inferred move_in_y (later ++ earlier) point.y ≡ pos 65536 *ℤ point.dy)

-- the marks of a contour: each point is left out exactly where it can be, beside those that were
-- left out before it
pub record AreContourMarks (points : List MovedPoint) (marks : List Bool) : Type 0 where
  pub as_many : length marks ≡ length points
  pub each : EachIndex marks (λ k. slice_index_or marks k false
      ≡ can_be_left_out points (take k marks))
  pub nothing_changes : NothingChanges (with_marks points marks)

-- the marks of all contours
abbrev pub AreMarks : List (List (ℤ × ℤ)) → List (ℤ × ℤ) → List Bool → Type 0
AreMarks [] deltas marks = marks ≡ []
AreMarks (contour ∷ contours) deltas marks =
    AreContourMarks (moved_points contour (take (length contour) deltas))
    (take (length contour) marks)
    × AreMarks contours (drop (length contour) deltas) (drop (length contour) marks)
