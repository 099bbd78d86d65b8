use Rattle.std.proofs.Common.{ℕ, ◌∙◌, List, length, sym, ap, subst}
use Rattle.std.proofs.lemmas.List.{length-map}
use Rattle.font_ir.specs.declared.header.Master.{Master}
use Rattle.axis_space.specs.Placing.{ArePlaced}
use Rattle.axis_space.specs.PlacingLaws.{placed_are_placed}
use Rattle.axis_space.specs.Scales.{scales_on, located}
use Rattle.axis_space.proofs.ScaleLemmas.{all_on_scales, placed_is, written_whole}
use Rattle.axis_space.proofs.placing.place_masters.Goals as goal

pub locate-requires : goal.locate-requires
locate-requires c =
    all_on_scales c.args.masters.items _ _ c.args.origin c.args.axes c.as_mut_slice.ensures.value
    (c.as_slice-2.ensures.value ∙ c.in_ok-scales.ensures
    ∙ ap (λ (ms : List Master). scales_on ms c.args.origin c.args.axes) c.as_slice.ensures.value)
    c.requires.origin c.requires.axes

pub returns-clause-computed : goal.returns-clause-computed
returns-clause-computed c =
    let items = c.args.masters.items in
    let count : List Master → ℕ = λ ms. length ms in
    let scales = c.as_slice-2.ensures.value ∙ c.in_ok-scales.ensures
    ∙ ap (λ (ms : List Master). scales_on ms c.args.origin c.args.axes) c.as_slice.ensures.value in
    written_whole c.locate.new.masters items c.args.masters.len
    (sym (ap count c.as_mut_slice.ensures.value) ∙ c.as_mut_slice.ensures.len)
    (ap count c.in_ok-locate.ensures
    ∙ length-map c.as_mut_slice.result.now (located c.as_slice-2.result.now)
    ∙ c.as_mut_slice.ensures.len) ∙ c.in_ok-locate.ensures
    ∙ placed_is items _ c.args.origin c.args.axes _ c.as_mut_slice.ensures.value scales

pub returns-clause-placed : goal.returns-clause-placed
returns-clause-placed c =
    subst (ArePlaced c.args.origin c.args.axes c.args.masters.items)
    (sym (returns-clause-computed c))
    (placed_are_placed c.args.origin c.args.axes c.args.masters.items)
