use Rattle.variation_model.proofs.OrderLemmas.{keys_more}
use Rattle.variation_model.proofs.order.keys.Goals as goal

pub loop-place-preserved : goal.loop-place-preserved
loop-place-preserved c =
    keys_more c.args.places.now c.loop-place.place-index c.place-item.result c.as_slice.result.now
    c.in_ok-coordinates.coordinates.items c.as_slice-in-loop-place-2.result.now
    c.in_ok-on_axis.on_axis.items c.as_slice-in-loop-place.result.now c.in_ok-key.field-0
    c.loop-place.keys.items c.push.new.self.items c.loop-place-test.true c.place-item.is
    c.as_slice.ensures c.in_ok-coordinates.ensures c.as_slice-in-loop-place-2.ensures.value
    c.in_ok-on_axis.ensures c.as_slice-in-loop-place.ensures.value c.in_ok-key.ensures
    c.loop-place.invariant c.in_ok-push.ensures.items
