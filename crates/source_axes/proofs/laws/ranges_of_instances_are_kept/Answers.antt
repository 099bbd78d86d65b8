use Rattle.source_axes.proofs.AxisWords.{ranges_of_instances}
use Rattle.source_axes.proofs.laws.ranges_of_instances_are_kept.Goals as goal

pub returns : goal.returns
returns c = ranges_of_instances
