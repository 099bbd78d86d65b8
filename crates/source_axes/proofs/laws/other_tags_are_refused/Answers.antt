use Rattle.source_axes.proofs.AxisWords.{bad_tags}
use Rattle.source_axes.proofs.laws.other_tags_are_refused.Goals as goal

pub returns : goal.returns
returns c = bad_tags
