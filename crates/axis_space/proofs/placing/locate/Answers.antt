use Rattle.std.proofs.Common.{◌<◌, ◌∙◌, List, length, get_or, set, ap, arith}
use Rattle.std.proofs.lemmas.List.{get_or_default}
use Rattle.std.proofs.lemmas.List.Edits.{map_over_more}
use Rattle.fixed_math.specs.declared.F2Dot14.{F2Dot14}
use Rattle.font_ir.specs.declared.header.Master.{Master}
use Rattle.axis_space.specs.Scales.{located, place_by}
use Rattle.axis_space.proofs.placing.locate.Goals as goal

pub loop-master-preserved : goal.loop-master-preserved
loop-master-preserved c =
    let i = c.loop-master.master-index in
    let ms = c.loop-master.masters in
    let x : Master = get_or ms i c.master-item.result in
    let within = c.loop-master-test.true in
    let long = c.loop-master.auto.masters in
    let there : i < length ms = omega (arith, within, long) in
    let before : i < length c.args.masters.now = omega (arith, within, long) in
    ap (λ (p : List F2Dot14). set ms i (record x { location = p }))
    (c.in_ok-master.ensures ∙ ap (place_by c.args.scales.now) c.as_slice.ensures)
    ∙ map_over_more (located c.args.scales.now) c.args.masters.now ms i x before
    c.loop-master.invariant (get_or_default ms i c.master-item.result x there)
