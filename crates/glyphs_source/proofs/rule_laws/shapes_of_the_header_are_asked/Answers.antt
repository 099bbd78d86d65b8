use Rattle.glyphs_source.proofs.HeaderWords.{shapes_of_header}
use Rattle.glyphs_source.proofs.rule_laws.shapes_of_the_header_are_asked.Goals as goal

pub returns : goal.returns
returns c = shapes_of_header
