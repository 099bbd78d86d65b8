use Rattle.std.proofs.Common.{◌+◌, drop, arith}
use Rattle.font_ir.specs.FlatGlyphs.{glyphs_of}
use Rattle.component_flatten.specs.Drawing as spec
use Rattle.component_flatten.specs.Flattening.{are_small}
use Rattle.component_flatten.proofs.BaseLemmas.{shapes_left, names_left, shapes_turn, shapes_kept}
use Rattle.component_flatten.proofs.drawing.shapes_drawn.Goals as goal

pub loop-shape-preserved : goal.loop-shape-preserved
loop-shape-preserved c =
    let at = c.args.at.now in
    let bases = glyphs_of c.args.bases.now in
    let shapes = c.args.shapes.now in
    let i = c.loop-shape.shape-index in
    let drawn = spec.shape_drawn at (drop c.loop-shape.next bases) c.shape-item.result in
    let before = spec.shapes_drawn at (drop c.loop-shape.next bases) (drop i shapes) in
    let after = spec.shapes_drawn at (drop c.in_ok-next.next bases) (drop (i + 1) shapes) in
    let all = spec.shapes_drawn at bases shapes in
    let left = shapes_left at bases shapes i c.loop-shape.next c.in_ok-next.next
    c.shape-item.result c.loop-shape-test.true c.shape-item.is c.in_ok-next.ensures.next in
    record {
      so_far = shapes_turn c.loop-shape.contours c.push_shape.new.contours drawn before after all
          c.in_ok-next.ensures.added left c.loop-shape.invariant.so_far;
      small = shapes_kept drawn before after (are_small all) c.in_ok-next.ensures.limit left
          c.loop-shape.invariant.small;
      enough = omega (
        arith,
        c.in_ok-next.ensures.next,
        c.loop-shape.invariant.enough,
        names_left shapes i c.shape-item.result c.loop-shape-test.true c.shape-item.is,
      );
    }
