-- one glyph more
use Rattle.std.proofs.Common.{sym, subst, Some}
use Rattle.std.specs.List.{All}
use Rattle.std.specs.Arc.{arc_value}
use Rattle.std.proofs.lemmas.List.Elements.{All-push}
use Rattle.font_ir.specs.FlatGlyphs.{IsFlatGlyph}
use Rattle.font_plan.specs.Reading.{glyph_read}
use Rattle.font_plan.proofs.Loops.{collected_seen}
use Rattle.font_plan.proofs.font_reads.glyphs_in.Goals as goal

pub loop-number-preserved : goal.loop-number-preserved
loop-number-preserved c = (
  collected_seen c.numbers-numbers.result.now c.loop-number.number-index _ c.loop-number-test.true
      (λ glyph. Some (arc_value glyph)) (glyph_read c.args.header.now c.args.reads.now)
      c.loop-number.glyphs.items c.push.new.self.items c.in_ok-glyph.glyph
      c.loop-number.invariant.0 c.in_ok-glyph.ensures.glyph c.in_ok-push.ensures.items,
  subst (All (λ glyph. IsFlatGlyph (arc_value glyph))) (sym c.in_ok-push.ensures.items)
      (All-push (λ glyph. IsFlatGlyph (arc_value glyph)) c.loop-number.glyphs.items c.in_ok-glyph.glyph
      c.loop-number.invariant.1 c.in_ok-glyph.ensures.known),
)
