use Rattle.std.proofs.Common.{◌≡◌, List, subst, ◌∙◌}
use Rattle.std.specs.Prelude.{IfOk}
use Rattle.std.specs.List.{list_all}
use Rattle.fixed_math.specs.declared.Fixed.{Fixed}
use Rattle.refusal_codes.specs.declared.rule.Rule.TheVariants.{DeltaTooLarge}
use Rattle.variation_model.specs.Deltas.{deltas_of, is_storable}
use Rattle.component_flatten.specs.Judging.{Judges}
use Rattle.component_flatten.proofs.between.x_deltas.Goals as goal

pub returns-clause-value : goal.returns-clause-value
returns-clause-value c =
    subst (λ (values : List Fixed). IfOk c.coordinate_deltas.result
    (λ made. made ≡ deltas_of c.args.model.now values))
    (c.as_slice.ensures.value ∙ c.in_ok-values.ensures) c.coordinate_deltas.ensures.value

pub returns-clause-limit : goal.returns-clause-limit
returns-clause-limit c =
    subst (λ (values : List Fixed). Judges DeltaTooLarge
    (list_all is_storable (deltas_of c.args.model.now values)) c.coordinate_deltas.result)
    (c.as_slice.ensures.value ∙ c.in_ok-values.ensures) c.coordinate_deltas.ensures.limit
