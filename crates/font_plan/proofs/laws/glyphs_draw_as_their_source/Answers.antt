use Rattle.font_plan.proofs.SourceDrawn.{glyphs_draw_as_their_source}
use Rattle.font_plan.proofs.laws.glyphs_draw_as_their_source.Goals as goal

pub returns : goal.returns
returns c = glyphs_draw_as_their_source c.drawing_laws.ensures
    c.entries_are_numbered.ensures.named c.flat_glyphs_draw_as_their_source.ensures
