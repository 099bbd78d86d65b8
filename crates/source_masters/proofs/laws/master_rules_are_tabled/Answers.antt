use Rattle.source_masters.proofs.TableLaws.{masters_tabled}
use Rattle.source_masters.proofs.laws.master_rules_are_tabled.Goals as goal

pub returns : goal.returns
returns c = masters_tabled
