use Rattle.glyphs_source.proofs.IndexShapes.{shapes_of_index}
use Rattle.glyphs_source.proofs.rule_laws.shapes_of_the_index_are_asked.Goals as goal

pub returns : goal.returns
returns c = shapes_of_index
