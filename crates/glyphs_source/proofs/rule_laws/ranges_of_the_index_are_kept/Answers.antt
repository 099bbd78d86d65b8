use Rattle.glyphs_source.proofs.SourceRuleLaws.{ranges_of_index}
use Rattle.glyphs_source.proofs.rule_laws.ranges_of_the_index_are_kept.Goals as goal

pub returns : goal.returns
returns c = ranges_of_index
