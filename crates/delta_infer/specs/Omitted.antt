-- Which points of an outline are left out, since their deltas can be inferred exactly. Which ones,
-- of the many choices, is fontc's own: the points of each contour are tried in order.
use Rattle.std.specs.Prelude.{ℕ, ℤ, Bool, true, false, List, [], ◌∷◌, ◌++◌, length, take, drop}
use Rattle.delta_infer.specs.declared.moved.MovedPoint.{MovedPoint}
use Rattle.delta_infer.specs.Moved.{moved_points}
use Rattle.delta_infer.specs.Inferred.{MarkedPoint, all_exact, named}

-- points with their marks: true where a point is left out. A point that has no mark yet is named.
abbrev pub with_marks : List MovedPoint → List Bool → List MarkedPoint
with_marks [] marks = []
with_marks (point ∷ points) [] = named point ∷ with_marks points []
with_marks (point ∷ points) (mark ∷ marks) = record { point = point; left_out = mark }
    ∷ with_marks points marks

-- whether the point after those with marks can be left out: then every point that is left out is
-- exact
abbrev pub can_be_left_out : List MovedPoint → List Bool → Bool
can_be_left_out points marks = all_exact (with_marks points (marks ++ true ∷ []))

-- a mark more for each point that is left to try
abbrev pub marks_after : List MovedPoint → List Bool → List MovedPoint → List Bool
marks_after points marks [] = marks
marks_after points marks (point ∷ rest) = marks_after points
    (marks ++ can_be_left_out points marks ∷ []) rest

abbrev pub contour_marks : List MovedPoint → List Bool
contour_marks points = marks_after points [] points

-- the marks of all contours, whose deltas stand one after another
abbrev pub omitted : List (List (ℤ × ℤ)) → List (ℤ × ℤ) → List Bool
omitted [] deltas = []
omitted (contour ∷ contours) deltas =
    contour_marks (moved_points contour (take (length contour) deltas))
    ++ omitted contours (drop (length contour) deltas)
