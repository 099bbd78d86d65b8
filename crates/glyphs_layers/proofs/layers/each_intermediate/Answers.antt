use Rattle.std.proofs.Common.{arith}
use Rattle.plain_lists.specs.TurnLaws.{flat_map_turn}
use Rattle.glyphs_layers.specs.SourceLayers.{if_intermediate}
use Rattle.glyphs_layers.proofs.layers.each_intermediate.Goals as goal

pub loop-number-preserved : goal.loop-number-preserved
loop-number-preserved c =
    flat_map_turn (if_intermediate c.args.tree.now c.args.masters.now) c.args.numbers.now
    c.loop-number.number-index 0 _ _ _ (omega arith) c.in_ok-add_if_intermediate.ensures
    c.loop-number.invariant
