use Rattle.std.proofs.Common.{pos, arith, rules}
use Rattle.delta_infer.proofs.Steps.{moved_step, moved_all}
use Rattle.delta_infer.specs.Moved.{moved_points}
use Rattle.delta_infer.proofs.moved.moved_points.Goals as goal

pub loop-i-preserved : goal.loop-i-preserved
loop-i-preserved c =
    moved_step c.args.contour.now c.args.deltas.now c.loop-i.i (pos 0, pos 0) (pos 0, pos 0)
    c.loop-i.points.items c.push.new.self.items
    (moved_points c.args.contour.now c.args.deltas.now) (omega arith) c.requires (search rules)
    c.loop-i.invariant

pub returns : goal.returns
returns c = moved_all c.args.contour.now c.args.deltas.now c.loop-i.i c.loop-i.points.items
    (moved_points c.args.contour.now c.args.deltas.now) (omega arith) c.loop-i.invariant
