use Rattle.source_axes.proofs.AxisWords.{ranges_of_axes}
use Rattle.source_axes.proofs.laws.names_of_axes_are_short.Goals as goal

pub returns : goal.returns
returns c = ranges_of_axes
