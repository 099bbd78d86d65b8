use Rattle.source_axes.proofs.AxisWords.{missing_keys_of_axes}
use Rattle.source_axes.proofs.laws.axes_without_a_key_are_refused.Goals as goal

pub returns : goal.returns
returns c = missing_keys_of_axes
