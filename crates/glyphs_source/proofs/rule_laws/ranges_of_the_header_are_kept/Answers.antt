use Rattle.glyphs_source.proofs.HeaderWords.{ranges_of_header}
use Rattle.glyphs_source.proofs.rule_laws.ranges_of_the_header_are_kept.Goals as goal

pub returns : goal.returns
returns c = ranges_of_header
