use Rattle.source_masters.proofs.RuleWords.{fractions}
use Rattle.source_masters.proofs.laws.fractions_of_masters_are_refused.Goals as goal

pub returns : goal.returns
returns c = fractions
