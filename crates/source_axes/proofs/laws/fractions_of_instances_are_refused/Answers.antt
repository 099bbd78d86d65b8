use Rattle.source_axes.proofs.AxisWords.{fractions_of_instances}
use Rattle.source_axes.proofs.laws.fractions_of_instances_are_refused.Goals as goal

pub returns : goal.returns
returns c = fractions_of_instances
