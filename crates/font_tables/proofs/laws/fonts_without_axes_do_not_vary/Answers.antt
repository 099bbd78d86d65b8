use Rattle.std.proofs.Common.{length, ap, ◌∙◌}
use Rattle.font_tables.proofs.NoAxes.{all_still}
use Rattle.font_tables.proofs.StillRows.{does_not_vary}
use Rattle.font_tables.proofs.laws.fonts_without_axes_do_not_vary.Goals as goal

pub returns : goal.returns
returns c = λ header name glyph none flat axes. does_not_vary header glyph
    (all_still glyph flat (axes ∙ ap length none)) name
