use Rattle.layer_shapes.proofs.LayerRuleLaws.{transforms}
use Rattle.layer_shapes.proofs.rule_laws.transforms_are_refused.Goals as goal

pub returns : goal.returns
returns c = transforms
