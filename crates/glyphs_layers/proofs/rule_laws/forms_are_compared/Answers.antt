use Rattle.glyphs_layers.proofs.FormLaws.{compared}
use Rattle.glyphs_layers.proofs.rule_laws.forms_are_compared.Goals as goal

pub returns : goal.returns
returns c = compared
