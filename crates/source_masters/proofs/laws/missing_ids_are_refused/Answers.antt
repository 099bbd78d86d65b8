use Rattle.source_masters.proofs.RuleWords.{missing_ids}
use Rattle.source_masters.proofs.laws.missing_ids_are_refused.Goals as goal

pub returns : goal.returns
returns c = missing_ids
