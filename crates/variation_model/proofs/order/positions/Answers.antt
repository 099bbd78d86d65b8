use Rattle.std.proofs.Common.{ap, ◌∙◌, arith}
use Rattle.variation_model.specs.Places as spec
use Rattle.variation_model.proofs.OrderLemmas.{ranged_more, order_from_ranks}
use Rattle.variation_model.proofs.order.positions.Goals as goal

pub loop-k-preserved : goal.loop-k-preserved
loop-k-preserved c =
    c.in_ok-push.ensures.items ∙ ranged_more (spec.of_rank c.in_ok-ranks.ranks.items)
    c.loop-k.order.items c.loop-k.k c.of_rank.result c.loop-k.invariant
    (c.of_rank.ensures.position ∙ ap (λ ns. spec.of_rank ns c.loop-k.k)
    c.as_slice.ensures.value)

pub returns : goal.returns
returns c =
    order_from_ranks c.args.places.now c.in_ok-ranks.ranks.items c.loop-k.k c.loop-k.order.items
    c.loop-k.invariant c.in_ok-ranks.ensures (omega arith)
