use Rattle.layer_shapes.proofs.LayerRuleLaws.{missing_keys}
use Rattle.layer_shapes.proofs.rule_laws.missing_keys_are_refused.Goals as goal

pub returns : goal.returns
returns c = missing_keys
