use Rattle.component_flatten.proofs.SourceLaws.{flat_glyphs_draw_as_their_source}
use Rattle.component_flatten.proofs.laws.flat_glyphs_draw_as_their_source.Goals as goal

pub returns : goal.returns
returns c = flat_glyphs_draw_as_their_source
