use Rattle.std.proofs.Common.{◌≡◌, ◌<◌, true, false, [], ap, ◌∙◌, map, length, arith, rules}
use Rattle.std.proofs.Common.{FitsSigned, to_z-of_z, ◌++◌, ◌∷◌}
use Rattle.std.proofs.lemmas.List.{length-map}
use Rattle.std.specs.Int.{w16, w64}
use Rattle.variation_model.specs.Parts.{deltas_by}
use Rattle.variation_model.specs.Deltas.{is_storable, value_at_place}
use Rattle.variation_model.proofs.DeltaLemmas.{AreDeltas-more, AreDeltas-large, delta_at}
use Rattle.variation_model.proofs.model.deltas_over.Goals as goal

pub returns-in-None : goal.returns-in-None
returns-in-None c =
    let values = map (value_at_place c.args.values.now) c.args.order.now in
    let some_row : c.loop-k.k < length c.args.rows.now = omega arith in
    let some_value : c.loop-k.k < length values
    = omega (arith, length-map c.args.order.now (value_at_place c.args.values.now)) in
    let is_delta = delta_at c.args.rows.now c.args.values.now c.args.order.now c.loop-k.k
    c.index-rows-k.result c.as_slice-row.result.now c.loop-k.deltas.items c.as_slice.result.now
    c.next_delta-delta.result c.loop-k-test.true some_row c.index-rows-k.is
    c.as_slice-row.ensures c.as_slice.ensures.value c.next_delta-delta.ensures in
    let fits : FitsSigned w64 c.next_delta-delta.result = search rules in
    let large : is_storable c.next_delta-delta.result
    ≡ false = rw (to_z-of_z fits) at c.in-None.ensures in
    rw (to_z-of_z fits) (AreDeltas-large c.args.rows.now values
    (deltas_by c.args.rows.now [] values) c.loop-k.k c.loop-k.deltas.items
    c.next_delta-delta.result some_row some_value c.loop-k.invariant is_delta large)

pub loop-k-preserved : goal.loop-k-preserved
loop-k-preserved c =
    let values = map (value_at_place c.args.values.now) c.args.order.now in
    let some_row : c.loop-k.k < length c.args.rows.now = omega arith in
    let some_value : c.loop-k.k < length values
    = omega (arith, length-map c.args.order.now (value_at_place c.args.values.now)) in
    let is_delta = delta_at c.args.rows.now c.args.values.now c.args.order.now c.loop-k.k
    c.index-rows-k.result c.as_slice-row.result.now c.loop-k.deltas.items c.as_slice.result.now
    c.next_delta-delta.result c.loop-k-test.true some_row c.index-rows-k.is
    c.as_slice-row.ensures c.as_slice.ensures.value c.next_delta-delta.ensures in
    let fits : FitsSigned w64 c.next_delta-delta.result = search rules in
    let small : is_storable c.next_delta-delta.result
    ≡ true = rw (to_z-of_z fits) at c.in-Some.ensures.0 in
    let same : c.in-Some.small ≡ c.next_delta-delta.result
    = rw (to_z-of_z fits) at c.in-Some.ensures.1 in
    let fits16 : FitsSigned w16 c.in-Some.small = search rules in
    let next : c.push.new.self.items ≡ c.loop-k.deltas.items ++ c.next_delta-delta.result
    ∷ [] = c.in_ok-push-in-Some.ensures.items
    ∙ ap (λ z. c.loop-k.deltas.items ++ z ∷ []) (to_z-of_z fits16 ∙ same) in
    AreDeltas-more c.args.rows.now values (deltas_by c.args.rows.now [] values) c.loop-k.k
    c.loop-k.deltas.items c.push.new.self.items c.next_delta-delta.result some_row some_value
    c.loop-k.invariant is_delta small next
