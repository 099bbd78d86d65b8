use Rattle.source_masters.proofs.TableLaws.{font_parameters_tabled}
use Rattle.source_masters.proofs.laws.font_parameter_rules_are_tabled.Goals as goal

pub returns : goal.returns
returns c = font_parameters_tabled
