use Rattle.std.proofs.Common.{◌≡◌, List, [], map, ap, subst, length, sym, ◌∙◌, ℤ}
use Rattle.fixed_math.specs.declared.F2Dot14.{F2Dot14}
use Rattle.variation_model.specs.Places.{ArePlaces}
use Rattle.variation_model.specs.Deltas.{GivesDeltas, deltas_of, value_at_place}
use Rattle.variation_model.specs.Parts.{deltas_by}
use Rattle.variation_model.proofs.ModelLemmas.{model_few_rows, model_row_each, model_earlier}
use Rattle.variation_model.proofs.ModelLemmas.{model_small, model_deltas, order_below}
use Rattle.variation_model.proofs.RefusalLemmas.{given_refuses_first}
use Rattle.variation_model.proofs.ModelLaws.{given_as_many, given_deltas_lack, given_deltas_meet}
use Rattle.variation_model.proofs.model.Model.deltas.Goals as goal

pub deltas_over-requires-clause-few : goal.deltas_over-requires-clause-few
deltas_over-requires-clause-few c = rw c.as_slice.ensures.value
    (model_few_rows c.self.inside.places.items c.self.inside.order.items
    c.self.inside.supports.items c.self.inside.scalars.items c.self.invariant)

pub deltas_over-requires-clause-one_each : goal.deltas_over-requires-clause-one_each
deltas_over-requires-clause-one_each c =
    ap length c.as_slice-2.ensures.value ∙ model_row_each c.self.inside.places.items
    c.self.inside.order.items c.self.inside.supports.items c.self.inside.scalars.items
    c.self.invariant ∙ sym (ap length c.as_slice.ensures.value)

pub deltas_over-requires-clause-positions : goal.deltas_over-requires-clause-positions
deltas_over-requires-clause-positions c =
    let many : length c.args.values.now ≡ length c.self.inside.places.items = c.requires
    ∙ sym (ap length c.self.view_is) in
    rw c.as_slice-2.ensures.value (order_below c.self.inside.places.items c.self.inside.order.items
    (length c.args.values.now) c.self.invariant.in_order many)

pub deltas_over-requires-clause-earlier : goal.deltas_over-requires-clause-earlier
deltas_over-requires-clause-earlier c = rw c.as_slice.ensures.value
    (model_earlier c.self.inside.places.items c.self.inside.order.items c.self.inside.supports.items
    c.self.inside.scalars.items c.self.invariant)

pub deltas_over-requires-clause-small : goal.deltas_over-requires-clause-small
deltas_over-requires-clause-small c = rw c.as_slice.ensures.value
    (model_small c.self.inside.places.items c.self.inside.order.items c.self.inside.supports.items
    c.self.inside.scalars.items c.self.invariant)

pub returns-clause-deltas : goal.returns-clause-deltas
returns-clause-deltas c =
    let seen : c.self.inside.places.items ≡ c.args.self.now = c.self.view_is in
    let values = c.args.values.now in
    let same : deltas_by c.as_slice.result.now []
    (map (value_at_place values) c.as_slice-2.result.now) ≡ deltas_of c.args.self.now values =
    rw (c.as_slice.ensures.value, c.as_slice-2.ensures.value)
    (model_deltas c.self.inside.places.items values c.self.inside.order.items
    c.self.inside.supports.items c.self.inside.scalars.items c.self.invariant
    ∙ ap (λ ps. deltas_of ps values) seen) in
    let P : List ℤ → Type 0 = λ ds. GivesDeltas c.deltas_over.result ds in
    subst P same c.deltas_over.ensures

pub returns-clause-as_many : goal.returns-clause-as_many
returns-clause-as_many c =
    given_as_many c.deltas_over.result c.args.self.now c.args.values.now (returns-clause-deltas c)

pub returns-clause-within_half : goal.returns-clause-within_half
returns-clause-within_half c =
    let P : List (List F2Dot14) → Type 0 = λ places. ArePlaces places in
    let are = subst P c.self.view_is c.self.invariant.are_places in
    given_deltas_meet c.deltas_over.result c.args.self.now c.args.values.now are
    (returns-clause-deltas c)

pub returns-clause-too_large : goal.returns-clause-too_large
returns-clause-too_large c =
    given_refuses_first c.deltas_over.result (deltas_of c.args.self.now c.args.values.now)
    (returns-clause-deltas c)

pub returns-clause-lacking : goal.returns-clause-lacking
returns-clause-lacking c =
    given_deltas_lack c.deltas_over.result c.args.self.now c.args.values.now
    (returns-clause-deltas c)
