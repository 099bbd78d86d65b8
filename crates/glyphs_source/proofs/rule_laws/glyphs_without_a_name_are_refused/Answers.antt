use Rattle.glyphs_source.proofs.SourceRuleLaws.{nameless_glyphs}
use Rattle.glyphs_source.proofs.rule_laws.glyphs_without_a_name_are_refused.Goals as goal

pub returns : goal.returns
returns c = nameless_glyphs
