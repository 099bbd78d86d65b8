use Rattle.layer_shapes.proofs.LayerRuleLaws.{large_coordinates}
use Rattle.layer_shapes.proofs.rule_laws.large_coordinates_are_refused.Goals as goal

pub returns : goal.returns
returns c = large_coordinates
