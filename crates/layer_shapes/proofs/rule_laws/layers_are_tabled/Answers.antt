use Rattle.layer_shapes.proofs.LayerRuleLaws.{layers_told}
use Rattle.layer_shapes.proofs.rule_laws.layers_are_tabled.Goals as goal

pub returns : goal.returns
returns c = layers_told
