use Rattle.std.proofs.Common.{arith, ap, ◌∙◌, ◌++◌}
use Rattle.font_ir.specs.declared.header.Master.{Master}
use Rattle.plain_lists.specs.TurnLaws.{flat_map_turn}
use Rattle.glyphs_layers.specs.SourceLayers.{layers_of}
use Rattle.glyphs_layers.proofs.layers.masters_layers.Goals as goal

pub loop-master-preserved : goal.loop-master-preserved
loop-master-preserved c =
    let t = c.args.tree.now in
    let ns = c.args.numbers.now in
    flat_map_turn (layers_of t ns) c.args.masters.now c.loop-master.master-index
    c.master-item.result _ _ _ (omega arith)
    (c.in_ok-add_masters_layer.ensures ∙
    ap (λ (m : Master). c.loop-master.layers.items ++ layers_of t ns m) c.master-item.is)
    c.loop-master.invariant
