use Rattle.std.proofs.Common.{arith}
use Rattle.refusal_codes.specs.NotingLaws.{noted_turn}
use Rattle.source_values.proofs.asking.note_items.Goals as goal

pub loop-item-preserved : goal.loop-item-preserved
loop-item-preserved g c =
    noted_turn (g.A.Asked.failures c.args.asked.now c.args.tree.now) c.args.items.now
    c.loop-item.item-index 0 _ _ _
    (omega arith) c.note.ensures c.loop-item.invariant
