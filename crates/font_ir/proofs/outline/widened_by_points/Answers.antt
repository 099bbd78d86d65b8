use Rattle.std.proofs.Common.{arith, ◌<◌, length, false, pos}
use Rattle.font_ir.specs.declared.glyph.DrawnPoint.{DrawnPoint}
use Rattle.font_ir.specs.OutlineLaws.{widened_more}
use Rattle.font_ir.proofs.outline.widened_by_points.Goals as goal

pub loop-point-preserved : goal.loop-point-preserved
loop-point-preserved c =
    let points = c.args.points.now in
    let i = c.loop-point.point-index in
    let d : DrawnPoint = record { x = record { 0 = pos 0 }; y = record { 0 = pos 0 }; on = false }
    in
    let within : i < length points = omega arith in
    widened_more points i d c.loop-point.widest c.widened-widest.result _ _ within
    c.stored_point.ensures.stored c.widened-widest.ensures c.loop-point.invariant
