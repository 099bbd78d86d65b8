use Rattle.std.proofs.Common.{List, ap, sym, ◌∙◌}
use Rattle.std.specs.Prelude.{nat_lt}
use Rattle.font_ir.specs.declared.glyph.Shape.{Shape}
use Rattle.font_ir.specs.FlatGlyphs.{glyphs_of}
use Rattle.component_flatten.specs.Judging.{points_of}
use Rattle.component_flatten.proofs.FlatLaws.{many_points}
use Rattle.component_flatten.proofs.counting.has_many_points.Goals as goal

pub returns : goal.returns
returns c = c.are_many_points.ensures
    ∙ ap (λ (shapes : List Shape). nat_lt 8000 (points_of (glyphs_of c.args.bases.now) shapes))
    c.first_shapes.ensures
    ∙ sym (many_points c.args.glyph.now (glyphs_of c.args.bases.now) c.requires.read
    c.requires.bases)
