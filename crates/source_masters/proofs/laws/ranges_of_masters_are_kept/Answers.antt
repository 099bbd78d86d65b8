use Rattle.source_masters.proofs.RuleWords.{ranges}
use Rattle.source_masters.proofs.laws.ranges_of_masters_are_kept.Goals as goal

pub returns : goal.returns
returns c = ranges
