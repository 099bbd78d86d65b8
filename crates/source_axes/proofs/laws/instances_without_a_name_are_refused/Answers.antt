use Rattle.source_axes.proofs.AxisWords.{missing_keys_of_instances}
use Rattle.source_axes.proofs.laws.instances_without_a_name_are_refused.Goals as goal

pub returns : goal.returns
returns c = missing_keys_of_instances
