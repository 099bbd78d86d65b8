use Rattle.layer_shapes.proofs.LayerRuleLaws.{open_contours}
use Rattle.layer_shapes.proofs.rule_laws.open_contours_are_refused.Goals as goal

pub returns : goal.returns
returns c = open_contours
