use Rattle.std.proofs.Common.{List, subst}
use Rattle.font_ir.specs.declared.glyph.Anchor.{Anchor}
use Rattle.component_flatten.specs.Judging.{Finds}
use Rattle.component_flatten.proofs.AnchorLaws.{zip_turn}
use Rattle.component_flatten.proofs.anchors.positions_in.Goals as goal

pub loop-layer-preserved : goal.loop-layer-preserved
loop-layer-preserved c =
    zip_turn c.loop-layer.found c.push.new.self c.args.layers.now c.loop-layer.layer-index
    c.in_ok-of.field-0 c.layer-item.result c.loop-layer-test.true c.layer-item.is
    c.in_ok-push.ensures.ok
    (subst (λ (anchors : List Anchor). Finds c.in_ok-of.field-0 anchors) c.as_slice.ensures
    c.in_ok-of.ensures) c.loop-layer.invariant
