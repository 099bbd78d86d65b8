use Rattle.layer_shapes.proofs.LayerRuleLaws.{ranges}
use Rattle.layer_shapes.proofs.rule_laws.ranges_are_kept.Goals as goal

pub returns : goal.returns
returns c = ranges
