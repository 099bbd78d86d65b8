use Rattle.source_axes.proofs.AxisWords.{instances_by_rule}
use Rattle.source_axes.proofs.laws.instance_rules_are_tabled.Goals as goal

pub returns : goal.returns
returns c = instances_by_rule
