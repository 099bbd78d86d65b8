use Rattle.std.proofs.Common.{arith}
use Rattle.plain_lists.specs.TurnLaws.{flat_map_turn}
use Rattle.refusal_codes.specs.NotingLaws.{noted_turn}
use Rattle.layer_shapes.specs.LayerRules.{shape_failures}
use Rattle.layer_shapes.specs.LayerReading.{shapes_of}
use Rattle.layer_shapes.proofs.shapes.read_shapes.Goals as goal

pub loop-number-preserved : goal.loop-number-preserved
loop-number-preserved c =
    let t = c.args.tree.now in
    let turn = c.loop-number.invariant in (
      flat_map_turn (shapes_of t) c.args.numbers.now c.loop-number.number-index 0 _ _ _
          (omega arith) c.in_ok-read_shape.ensures.shapes turn.0,
      noted_turn (shape_failures t) c.args.numbers.now c.loop-number.number-index 0 _ _ _
          (omega arith) c.in_ok-read_shape.ensures.failures turn.1,
    )
