use Rattle.source_masters.proofs.TableLaws.{metrics_tabled}
use Rattle.source_masters.proofs.laws.metric_rules_are_tabled.Goals as goal

pub returns : goal.returns
returns c = metrics_tabled
