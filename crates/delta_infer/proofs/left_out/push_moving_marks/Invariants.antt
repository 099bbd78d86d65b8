use Rattle.delta_infer.proofs.Runs.{IsTried}
use Rattle.delta_infer.proofs.left_out.push_moving_marks.Given as goal

abbrev pub invariant-loop-at : goal.invariant-loop-at
invariant-loop-at l = IsTried l.points l.fn.marks.items l.marks.items l.run.first l.run.start l.at
