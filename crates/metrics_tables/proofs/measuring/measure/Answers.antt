use Rattle.metrics_tables.proofs.MeasuringLemmas.{measurable, measures_are, measures_fit}
use Rattle.metrics_tables.proofs.measuring.measure.Goals as goal

pub measures_at-requires-clause-glyphs : goal.measures_at-requires-clause-glyphs
measures_at-requires-clause-glyphs c = measurable c.args.header.now c.args.glyphs.now
    c.requires.flat c.requires.places c.requires.header.origin

pub returns-clause-measured : goal.returns-clause-measured
returns-clause-measured c =
    let e = c.in_ok-measures_at.ensures in
    measures_are c.args.header.now c.args.order.now.names c.args.glyphs.now _ _ _
    c.in_ok-regions.ensures e.advances e.regions e.rows e.bounds e.maxima

pub returns-clause-for_header : goal.returns-clause-for_header
returns-clause-for_header c =
    let e = c.in_ok-measures_at.ensures in
    measures_fit c.args.header.now c.args.order.now.names c.args.glyphs.now _ _ _
    c.in_ok-regions.ensures e.advances e.regions e.rows
