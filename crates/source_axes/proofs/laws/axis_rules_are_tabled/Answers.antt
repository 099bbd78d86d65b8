use Rattle.source_axes.proofs.AxisWords.{axes_by_rule}
use Rattle.source_axes.proofs.laws.axis_rules_are_tabled.Goals as goal

pub returns : goal.returns
returns c = axes_by_rule
