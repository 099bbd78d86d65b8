use Rattle.variation_model.specs.Deltas.{deltas_of}
use Rattle.component_flatten.proofs.BaseLemmas.{storable_all}
use Rattle.component_flatten.proofs.between.coordinate_deltas.Goals as goal

pub returns-in-Ok-clause-limit : goal.returns-in-Ok-clause-limit
returns-in-Ok-clause-limit c =
    storable_all 0 (deltas_of c.args.model.now c.args.values.now) c.in-Ok.ensures.deltas.1
