use Rattle.glyphs_source.proofs.SourceRuleLaws.{missing_keys}
use Rattle.glyphs_source.proofs.rule_laws.missing_keys_of_the_header_are_refused.Goals as goal

pub returns : goal.returns
returns c = missing_keys
