use Rattle.std.proofs.Common.{◌≡◌, ◌<◌, ap, arith, rules, length, sym, ◌∙◌, FitsSigned, to_z-of_z}
use Rattle.std.specs.Int.{w64}
use Rattle.variation_model.specs.Places.{axis_count, place_at}
use Rattle.variation_model.specs.Supports.{supports_of}
use Rattle.variation_model.specs.Deltas.{value_of, deltas_of}
use Rattle.variation_model.proofs.ModelLemmas.{model_few, model_as_many, model_axes}
use Rattle.variation_model.proofs.ModelLaws.{meets_at}
use Rattle.variation_model.proofs.model.Model.value_at.Goals as goal

pub value_of-requires-clause-few : goal.value_of-requires-clause-few
value_of-requires-clause-few c =
    rw c.as_slice.ensures.value (model_few c.self.inside.places.items c.self.inside.order.items
    c.self.inside.supports.items c.self.inside.scalars.items c.self.invariant)

pub value_of-requires-clause-enough : goal.value_of-requires-clause-enough
value_of-requires-clause-enough c =
    let seen : c.self.inside.places.items ≡ c.args.self.now = c.self.view_is in
    let many = model_as_many c.self.inside.places.items c.self.inside.order.items
    c.self.inside.supports.items c.self.inside.scalars.items c.self.invariant in
    rw c.as_slice.ensures.value (omega (arith, many, ap length seen))

pub value_of-requires-clause-axes : goal.value_of-requires-clause-axes
value_of-requires-clause-axes c =
    let seen : c.self.inside.places.items ≡ c.args.self.now = c.self.view_is in
    rw c.as_slice.ensures.value (model_axes c.self.inside.places.items c.self.inside.order.items
    c.self.inside.supports.items c.self.inside.scalars.items c.args.at.now c.self.invariant
    (c.requires.axes ∙ sym (ap axis_count seen)))

pub returns-clause-value : goal.returns-clause-value
returns-clause-value c =
    let seen : c.self.inside.places.items ≡ c.args.self.now = c.self.view_is in
    let fits : FitsSigned w64 c.value_of.result = search rules in
    rw (to_z-of_z fits) (c.value_of.ensures.value
    ∙ ap (λ rs. value_of rs c.args.deltas.now c.args.at.now)
    (c.as_slice.ensures.value ∙ c.self.invariant.are_supports ∙ ap supports_of seen))

pub returns-clause-within : goal.returns-clause-within
returns-clause-within c =
    let fits : FitsSigned w64 c.value_of.result = search rules in
    rw (to_z-of_z fits) c.value_of.ensures.within

pub returns-clause-within_half : goal.returns-clause-within_half
returns-clause-within_half c values i e h f =
    let places = c.self.inside.places.items in
    let seen : places ≡ c.args.self.now = c.self.view_is in
    let fits : FitsSigned w64 c.value_of.result = search rules in
    let is_value : c.value_of.result ≡ value_of (supports_of places) c.args.deltas.now c.args.at.now
    =
    c.value_of.ensures.value ∙ ap (λ rs. value_of rs c.args.deltas.now c.args.at.now)
    (c.as_slice.ensures.value ∙ c.self.invariant.are_supports) in
    let is_delta : c.args.deltas.now ≡ deltas_of places values = e
    ∙ ap (λ ps. deltas_of ps values) (sym seen) in
    let within : i < length places = omega (arith, ap length seen) in
    let is_place : c.args.at.now ≡ place_at places i = f ∙ ap (λ ps. place_at ps i) (sym seen) in
    rw (to_z-of_z fits) (meets_at places values i c.args.deltas.now c.args.at.now c.value_of.result
    c.self.invariant.are_places is_delta within is_place is_value)
