use Rattle.std.proofs.Common.{arith}
use Rattle.std.proofs.lemmas.Grind.{common_steps}
use Rattle.std.proofs.lemmas.List.Elements.{All-push}
use Rattle.font_ir.specs.FlatGlyphs.{IsSmall}
use Rattle.glyf_writer.proofs.outline.push_points.Goals as goal

pub loop-point-preserved : goal.loop-point-preserved
loop-point-preserved c = record {
  told = grind (arith, common_steps);
  small = λ s. rw c.in_ok-push.ensures.items
      (All-push (λ point. IsSmall point.x × IsSmall point.y) _ _ (c.loop-point.invariant.small s)
      (c.stored_point.ensures.small_x, c.stored_point.ensures.small_y));
}
