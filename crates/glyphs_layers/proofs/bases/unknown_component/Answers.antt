use Rattle.std.proofs.Common.{arith}
use Rattle.refusal_codes.specs.NotingLaws.{noted_turn}
use Rattle.glyphs_layers.specs.Bases.{unknown_components}
use Rattle.glyphs_layers.proofs.bases.unknown_component.Goals as goal

pub loop-layer-preserved : goal.loop-layer-preserved
loop-layer-preserved c =
    noted_turn (unknown_components c.args.tree.now c.args.index.now) c.args.layers.now
    c.loop-layer.layer-index _ _ _ _ (omega arith) c.in_ok-note_unknown.ensures
    c.loop-layer.invariant
