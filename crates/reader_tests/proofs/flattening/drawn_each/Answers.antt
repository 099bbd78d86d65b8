-- one glyph more
use Rattle.std.proofs.Common.{sym, subst}
use Rattle.std.specs.List.{All}
use Rattle.std.specs.Arc.{arc_value}
use Rattle.std.proofs.lemmas.List.Elements.{All-push}
use Rattle.font_ir.specs.FlatGlyphs.{IsFlatGlyph}
use Rattle.reader_tests.proofs.flattening.drawn_each.Goals as goal

pub loop-glyph-preserved : goal.loop-glyph-preserved
loop-glyph-preserved c = subst (All (λ glyph. IsFlatGlyph (arc_value glyph)))
    (sym c.in_ok-push.ensures.items)
    (All-push (λ glyph. IsFlatGlyph (arc_value glyph)) c.loop-glyph.drawn.items
    c.in_ok-flat.flat c.loop-glyph.invariant c.in_ok-flat.ensures)
