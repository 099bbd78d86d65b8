-- proved for all trees
use Rattle.glyphs_source.proofs.IndexNames.{read_names}
use Rattle.glyphs_source.proofs.laws.glyph_names_are_short.Goals as goal

pub returns : goal.returns
returns c = read_names
