use Rattle.std.proofs.Common.{◌≡◌, ◌++◌, drop}
use Rattle.delta_infer.specs.Moved.{moved_points}
use Rattle.delta_infer.proofs.moved.moved_points.Given as goal

abbrev pub invariant-loop-i : goal.invariant-loop-i
invariant-loop-i l = l.points.items ++ moved_points (drop l.i l.contour) (drop l.i l.deltas)
    ≡ moved_points l.contour l.deltas
