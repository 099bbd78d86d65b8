use Rattle.std.proofs.Common.{arith}
use Rattle.refusal_codes.specs.NotingLaws.{noted_turn}
use Rattle.source_masters.specs.WholeRules.{axis_count}
use Rattle.source_masters.proofs.whole_rules.note_counts.Goals as goal

pub loop-master-preserved : goal.loop-master-preserved
loop-master-preserved c =
    noted_turn (axis_count c.args.axes c.args.tree.now) c.args.masters.now
    c.loop-master.master-index 0 _ _ _
    (omega arith) c.note_count.ensures c.loop-master.invariant
