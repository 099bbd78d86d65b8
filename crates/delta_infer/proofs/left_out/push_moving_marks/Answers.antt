use Rattle.std.proofs.Common.{◌+◌, sym, subst, arith}
use Rattle.delta_infer.specs.declared.left_out.Run.{Run}
use Rattle.delta_infer.proofs.Runs.{IsTried, tried_next, tried_all}
use Rattle.delta_infer.proofs.left_out.push_moving_marks.Goals as goal

pub loop-at-preserved : goal.loop-at-preserved
loop-at-preserved c =
    let points = c.args.points.now in
    let old = c.args.marks.now.items in
    let at = c.loop-at.at in
    let P : Run → Type 0 = λ r. IsTried points old c.push.new.self.items r.first r.start (at + 1) in
    subst P (sym c.after-run.ensures) (tried_next points old c.loop-at.marks.items
    c.push.new.self.items c.loop-at.run at c.fits-left_out.result c.loop-at.invariant
    (omega arith) c.in_ok-push.ensures.items c.fits-left_out.ensures)
