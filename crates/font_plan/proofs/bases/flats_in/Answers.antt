-- one glyph more
use Rattle.std.proofs.Common.{[], sym, subst, Some}
use Rattle.std.specs.List.{All}
use Rattle.std.specs.Arc.{arc_value}
use Rattle.std.proofs.lemmas.List.Elements.{All-push}
use Rattle.font_ir.specs.FlatGlyphs.{IsFlatGlyph}
use Rattle.font_graph.specs.Running.{flat_read}
use Rattle.font_plan.specs.Jobs.{parts}
use Rattle.font_plan.proofs.Loops.{collected_seen}
use Rattle.font_plan.proofs.bases.flats_in.Goals as goal

pub loop-glyph-preserved : goal.loop-glyph-preserved
loop-glyph-preserved c = (
  collected_seen c.args.glyphs.now c.loop-glyph.glyph-index _ c.loop-glyph-test.true
      (λ flat. Some (arc_value flat)) (λ glyph. flat_read (parts []) glyph c.args.reads.now)
      c.loop-glyph.flats.items c.push.new.self.items c.in_ok-flat.flat c.loop-glyph.invariant.0
      c.in_ok-flat.ensures.flat c.in_ok-push.ensures.items,
  subst (All (λ flat. IsFlatGlyph (arc_value flat))) (sym c.in_ok-push.ensures.items)
      (All-push (λ flat. IsFlatGlyph (arc_value flat)) c.loop-glyph.flats.items c.in_ok-flat.flat
      c.loop-glyph.invariant.1 c.in_ok-flat.ensures.known),
)
