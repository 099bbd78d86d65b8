use Rattle.std.proofs.Common.{◌++◌, ◌<◌, length, map, ap, subst, sym, arith}
use Rattle.std.specs.List.{flat_map}
use Rattle.glyf_writer.specs.Outlines.{end_points}
use Rattle.table_bytes.specs.DataTypes.{uint16}
use Rattle.glyf_writer.proofs.Steps.{shift_zero, end_step, count_step}
use Rattle.glyf_writer.proofs.bytes.push_end_points.Goals as goal

pub loop-contour-init : goal.loop-contour-init
loop-contour-init c = record {
  told = ap (λ ends. c.args.bytes.now.items ++ flat_map uint16 ends)
      (shift_zero (end_points (map (λ contour. length contour.points) c.args.contours.now)));
  counted = omega arith;
}

pub loop-contour-preserved : goal.loop-contour-preserved
loop-contour-preserved c =
    let contours = c.args.contours.now in
    let item = c.contour-item.result in
    let some : 0 < length item.points = subst (λ contour. 0 < length contour.points)
    (sym c.contour-item.is) (c.requires.none_empty c.loop-contour.contour-index item
    (omega arith)) in
    record {
      told = end_step (λ contour. length contour.points) contours c.loop-contour.contour-index item
          _ _ _ c.loop-contour.count c.len-count.result (omega arith) c.contour-item.is
          c.len-count.ensures (omega (arith, some, c.len-count.ensures))
          c.in_ok-push_uint16.ensures.bytes c.loop-contour.invariant.told;
      counted = omega (
        arith,
        c.loop-contour.invariant.counted,
        c.len-count.ensures,
        count_step
            (λ contour. length contour.points) contours c.loop-contour.contour-index item
            (omega arith) c.contour-item.is,
      );
    }
