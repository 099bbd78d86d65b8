use Rattle.glyphs_layers.proofs.FormLaws.{first_other}
use Rattle.glyphs_layers.proofs.rule_laws.other_forms_are_refused.Goals as goal

pub returns : goal.returns
returns c = first_other
