use Rattle.glyphs_source.proofs.SourceTableLaws.{header_by_rule}
use Rattle.glyphs_source.proofs.rule_laws.header_rules_are_tabled.Goals as goal

pub returns : goal.returns
returns c = header_by_rule
