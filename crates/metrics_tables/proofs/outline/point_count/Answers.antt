use Rattle.std.proofs.Common.{arith, ap, sym, ◌∙◌}
use Rattle.std.proofs.lemmas.List.{take_all}
use Rattle.font_ir.specs.FlatGlyphs.{point_count}
use Rattle.font_ir.specs.OutlineLaws.{stored_count}
use Rattle.metrics_tables.proofs.outline.point_count.Goals as goal

pub returns : goal.returns
returns c =
    c.loop-contour.invariant
    ∙ ap point_count (take_all c.loop-contour.contour-index c.args.contours.now (omega arith))
    ∙ sym (stored_count c.args.contours.now)
