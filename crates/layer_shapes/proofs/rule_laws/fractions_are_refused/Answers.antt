use Rattle.layer_shapes.proofs.LayerRuleLaws.{fractions}
use Rattle.layer_shapes.proofs.rule_laws.fractions_are_refused.Goals as goal

pub returns : goal.returns
returns c = fractions
