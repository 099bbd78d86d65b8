use Rattle.std.proofs.Common.{arith, ap, ◌∙◌, ◌++◌, ◌∷◌, []}
use Rattle.font_ir.specs.declared.glyph.DrawnPoint.{DrawnPoint}
use Rattle.plain_lists.specs.TurnLaws.{map_turn}
use Rattle.refusal_codes.specs.NotingLaws.{noted_turn}
use Rattle.layer_shapes.specs.LayerRules.{node_failures}
use Rattle.layer_shapes.specs.LayerReading.{point_of}
use Rattle.layer_shapes.proofs.paths.read_nodes.Goals as goal

pub loop-node-preserved : goal.loop-node-preserved
loop-node-preserved c =
    let t = c.args.tree.now in
    let turn = c.loop-node.invariant in (
      map_turn (point_of t) c.args.nodes.now c.loop-node.node-index 0 _ _ _ (omega arith)
          (c.in_ok-push.ensures.items ∙ ap (λ (p : DrawnPoint). c.loop-node.points.items ++ p ∷ [])
          c.read_node.ensures.point) turn.0,
      noted_turn (node_failures t) c.args.nodes.now c.loop-node.node-index 0 _ _ _ (omega arith)
          c.read_node.ensures.failures turn.1,
    )
