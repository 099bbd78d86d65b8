use Rattle.glyphs_source.proofs.SourceRuleLaws.{index_by_rule}
use Rattle.glyphs_source.proofs.rule_laws.index_rules_are_tabled.Goals as goal

pub returns : goal.returns
returns c = index_by_rule
