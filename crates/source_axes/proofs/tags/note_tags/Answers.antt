use Rattle.std.proofs.Common.{arith}
use Rattle.source_axes.proofs.Turns.{tag_turn}
use Rattle.source_axes.proofs.tags.note_tags.Goals as goal

pub loop-axis-preserved : goal.loop-axis-preserved
loop-axis-preserved c =
    tag_turn c.args.tree.now c.loop-axis.tags.keys _ c.args.axes.now c.loop-axis.axis-index
    c.loop-axis.first _ _ (omega arith) c.in_ok-note_tag.ensures.failure
    c.in_ok-note_tag.ensures.tags c.loop-axis.invariant
