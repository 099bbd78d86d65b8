use Rattle.glyphs_source.proofs.SourceRuleLaws.{fractions_of_index}
use Rattle.glyphs_source.proofs.rule_laws.fractions_of_the_index_are_refused.Goals as goal

pub returns : goal.returns
returns c = fractions_of_index
