-- What the parts of the search compute.
use Rattle.std.specs.Prelude.{ℕ, pos, ◌+◌, ◌-◌, ◌*ℤ◌, Bool, true, false, ◌&&◌, ◌==◌, nat_lt}
use Rattle.std.specs.Prelude.{if◌then◌else◌, List, length, take, drop, slice_index_or}
use Rattle.std.specs.List.{list_all}
use Rattle.std.specs.Ordering.{int_eq}
use Rattle.delta_infer.specs.declared.moved.MovedPoint.{MovedPoint}
use Rattle.delta_infer.specs.declared.left_out.Run.{Run}
use Rattle.delta_infer.specs.Moved.{move_in_x, move_in_y}
use Rattle.delta_infer.specs.Inferred.{inferred_between}

-- in both coordinates exactly the point's own delta is inferred between two others
abbrev pub is_between : MovedPoint → MovedPoint → MovedPoint → Bool
is_between before after point =
    int_eq (inferred_between (move_in_x before) (move_in_x after) point.x) (pos 65536 *ℤ point.dx)
    && int_eq (inferred_between (move_in_y before) (move_in_y after) point.y)
    (pos 65536 *ℤ point.dy)

abbrev pub is_still : MovedPoint → Bool
is_still point = int_eq (pos 0) (pos 65536 *ℤ point.dx) && int_eq (pos 0) (pos 65536 *ℤ point.dy)

abbrev pub no_point : MovedPoint
no_point = record { x = pos 0; y = pos 0; dx = pos 0; dy = pos 0 }

abbrev pub point_at : List MovedPoint → ℕ → MovedPoint
point_at points k = slice_index_or points k no_point

-- the points from `start` to `at`
abbrev pub run_of : List MovedPoint → ℕ → ℕ → List MovedPoint
run_of points start at = take (at + 1 - start) (drop start points)

-- the named point before a run
abbrev pub point_before : List MovedPoint → ℕ → MovedPoint
point_before points start = if start == 0 then point_at points (length points - 1) else point_at
    points (start - 1)

-- the points from `start` to `at` are between the point before them and the next one. At the
-- contour's end they go on to the first named point, or no point is named.
abbrev pub run_fits : List MovedPoint → ℕ → ℕ → ℕ → Bool
run_fits points first start at =
    if nat_lt at (length points - 1) then list_all
    (is_between (point_before points start) (point_at points (at + 1))) (run_of points start at)
    else (
    if start == 0 then list_all is_still (run_of points start at) else (
    list_all (is_between (point_at points (start - 1)) (point_at points first))
    (run_of points start at)
    && list_all (is_between (point_at points (start - 1)) (point_at points first))
    (take first points)))

-- the run goes on with a point that is left out. One that is named ends it, and is the first where
-- none was before.
abbrev pub run_after : Run → ℕ → Bool → Run
run_after run at true = run
run_after run at false = record { first = if run.start == 0 then at else run.first; start = at + 1 }
