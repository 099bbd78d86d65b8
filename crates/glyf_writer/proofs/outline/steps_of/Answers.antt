use Rattle.std.proofs.Common.{◌+◌, ◌++◌, ◌∷◌, [], arith, get_or, drop, sym, ◌∙◌, subst, pos, false}
use Rattle.std.specs.Int.{w16, cast_signed}
use Rattle.font_ir.specs.FlatGlyphs.{IsSmall}
use Rattle.font_ir.specs.declared.outline.StoredPoint.{StoredPoint}
use Rattle.glyf_writer.specs.Outlines.{steps_from}
use Rattle.glyf_writer.proofs.Steps.{step_step, kept, kept_difference}
use Rattle.glyf_writer.proofs.outline.steps_of.Goals as goal

pub loop-point-preserved : goal.loop-point-preserved
loop-point-preserved c =
    let i = c.loop-point.point-index in
    let points = c.args.points.now in
    let point : StoredPoint = get_or points i (record { x = pos 0; y = pos 0; on = false }) in
    let small = c.requires i (record { x = pos 0; y = pos 0; on = false }) (omega arith) in
    let before = c.loop-point.invariant in
    let x_kept = kept point.x small.0 in
    let y_kept = kept point.y small.1 in
    let dx = kept_difference point.x (cast_signed w16 c.loop-point.x-bits) small.0 before.x_small in
    let dy = kept_difference point.y (cast_signed w16 c.loop-point.y-bits) small.1 before.y_small in
    let pushed = c.in_ok-push.ensures.items
    ∙ (λ j. c.loop-point.steps.items ++ (record { dx = dx j; dy = dy j; on = point.on }) ∷ [])
    in
    record {
      told =
          (λ j. c.push.new.self.items ++ steps_from (x_kept j) (y_kept j) (drop (i + 1) points))
          ∙ step_step points i (record { x = pos 0; y = pos 0; on = false })
          c.loop-point.steps.items c.push.new.self.items _ (cast_signed w16 c.loop-point.x-bits)
          (cast_signed w16 c.loop-point.y-bits) (omega arith) pushed before.told;
      x_small = subst IsSmall (sym x_kept) small.0;
      y_small = subst IsSmall (sym y_kept) small.1;
    }
