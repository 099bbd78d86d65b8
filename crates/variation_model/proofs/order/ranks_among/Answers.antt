use Rattle.variation_model.proofs.OrderLemmas.{ranks_more}
use Rattle.variation_model.proofs.order.ranks_among.Goals as goal

pub loop-key-preserved : goal.loop-key-preserved
loop-key-preserved c =
    ranks_more c.args.keys.now c.loop-key.key-index c.key-item.result c.as_slice.result.now
    c.loop-key.ranks.items c.push.new.self.items c.rank.result c.loop-key-test.true
    c.key-item.is c.as_slice.ensures.value c.rank.ensures c.loop-key.invariant
    c.in_ok-push.ensures.items
