use Rattle.std.proofs.Common.{arith, ap, ◌∙◌, ◌++◌, ◌∷◌, []}
use Rattle.font_ir.specs.declared.glyph.LayerIr.{LayerIr}
use Rattle.plain_lists.specs.TurnLaws.{map_turn}
use Rattle.component_flatten.proofs.drawing.widths.Goals as goal

pub loop-layer-preserved : goal.loop-layer-preserved
loop-layer-preserved c =
    map_turn (λ (layer : LayerIr). layer.width) c.args.layers.now c.loop-layer.layer-index
    c.layer-item.result _ _ _ (omega arith)
    (c.in_ok-push_width.ensures ∙ ap (λ (layer : LayerIr). c.loop-layer.widths.items ++ layer.width
    ∷ []) c.layer-item.is) c.loop-layer.invariant
