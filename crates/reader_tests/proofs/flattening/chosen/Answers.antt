-- one glyph more
use Rattle.std.proofs.Common.{sym, subst}
use Rattle.std.specs.List.{All}
use Rattle.std.specs.Arc.{arc_value}
use Rattle.std.proofs.lemmas.List.Elements.{All-push}
use Rattle.font_ir.specs.FlatGlyphs.{IsFlatGlyph}
use Rattle.reader_tests.proofs.flattening.chosen.Goals as goal

pub loop-place-preserved : goal.loop-place-preserved
loop-place-preserved c = subst (All (λ glyph. IsFlatGlyph (arc_value glyph)))
    (sym c.in_ok-push.ensures.items)
    (All-push (λ glyph. IsFlatGlyph (arc_value glyph)) c.loop-place.chosen.items
    c.in_ok-glyph.glyph c.loop-place.invariant c.in_ok-glyph.ensures)
