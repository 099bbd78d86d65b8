use Rattle.std.proofs.Common.{refl, ◌∙◌}
use Rattle.metrics_tables.proofs.MeasuringLemmas.{bases_are, maxima_are}
use Rattle.metrics_tables.proofs.measuring.maxima_of.Goals as goal

pub greatest_depth-requires : goal.greatest_depth-requires
greatest_depth-requires c =
    bases_are c.args.order.now.names c.args.glyphs.now c.args.place _
    (c.as_slice.ensures.value ∙ c.in_ok-bases.ensures) c.len-count.ensures.valid.few
    c.requires.one_glyph c.requires.glyphs c.requires.nesting

pub returns : goal.returns
returns c =
    let counts = c.greatest_counts-counts.ensures in
    maxima_are c.args.order.now.names c.args.glyphs.now c.args.place c.as_slice.result.now
    c.greatest_counts-counts.result _ c.in_ok-depth.depth
    (c.as_slice.ensures.value ∙ c.in_ok-bases.ensures) c.in_ok-depth.ensures refl counts.points
    counts.contours counts.composite_points counts.composite_contours counts.components
