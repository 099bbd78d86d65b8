use Rattle.std.proofs.lemmas.List.Elements.{All-push}
use Rattle.font_ir.specs.FlatGlyphs.{IsSmallPoint}
use Rattle.table_bench.proofs.Shapes.{one_more_on}
use Rattle.table_bench.proofs.outlines.contour.Goals as goal

pub loop-k-preserved : goal.loop-k-preserved
loop-k-preserved c =
    let before = c.loop-k.invariant in
    let points = c.loop-k.points.items in
    let pushed = c.in_ok-push.ensures.items in
    record {
      on = rw pushed (one_more_on points c.loop-k.k c.point.result before.on c.point.ensures.on);
      small = rw pushed (All-push IsSmallPoint points c.point.result before.small
          c.point.ensures.small);
    }
