use Rattle.std.proofs.Common.{◌≡◌, ◌+◌, arith}
use Rattle.font_ir.specs.FlatGlyphs.{glyphs_of}
use Rattle.component_flatten.specs.Judging.{bases_taken}
use Rattle.component_flatten.proofs.BaseLemmas.{points_left, names_left}
use Rattle.component_flatten.proofs.counting.are_many_points.Goals as goal

pub loop-shape-preserved : goal.loop-shape-preserved
loop-shape-preserved c =
    let i = c.loop-shape.shape-index in
    let m = c.loop-shape.next + c.bases_taken-next.result in
    let next : m ≡ c.loop-shape.next + bases_taken c.shape-item.result =
    omega (arith, c.bases_taken-next.ensures) in
    let points = points_left (glyphs_of c.args.bases.now) c.args.shapes.now i c.loop-shape.next m
    c.shape-item.result c.loop-shape-test.true c.shape-item.is next in
    record {
      few = c.if-count-gt-POINTS.false;
      so_far = omega (
        arith,
        points,
        c.saturating_add-count.ensures,
        c.shape_points.ensures,
        c.loop-shape.invariant.so_far,
        c.if-count-gt-POINTS.false,
      );
      enough = omega (
        arith,
        next,
        c.loop-shape.invariant.enough,
        names_left c.args.shapes.now i
            c.shape-item.result c.loop-shape-test.true c.shape-item.is,
      );
    }
