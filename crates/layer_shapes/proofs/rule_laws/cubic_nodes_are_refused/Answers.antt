use Rattle.layer_shapes.proofs.LayerRuleLaws.{cubic_nodes}
use Rattle.layer_shapes.proofs.rule_laws.cubic_nodes_are_refused.Goals as goal

pub returns : goal.returns
returns c = cubic_nodes
