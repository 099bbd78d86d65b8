use Rattle.std.proofs.Common.{arith, ap, ◌∙◌, ◌++◌, ◌∷◌, []}
use Rattle.font_ir.specs.declared.glyph.LayerIr.{LayerIr}
use Rattle.plain_lists.specs.TurnLaws.{map_turn}
use Rattle.refusal_codes.specs.NotingLaws.{noted_turn}
use Rattle.glyphs_layers.specs.GlyphRules.{source_failures}
use Rattle.glyphs_layers.specs.Forms.{record_of}
use Rattle.glyphs_layers.proofs.glyph_layers.read_each.Goals as goal

pub loop-layer-preserved : goal.loop-layer-preserved
loop-layer-preserved c =
    let t = c.args.tree.now in
    let turn = c.loop-layer.invariant in (
      map_turn (record_of t) c.args.layers.now c.loop-layer.layer-index _ _ _ _ (omega arith)
          (c.in_ok-push.ensures.items
          ∙ ap (λ (held : LayerIr). c.loop-layer.records.items ++ held ∷ [])
          c.in_ok-read_one.ensures.record) turn.0,
      noted_turn (source_failures t) c.args.layers.now c.loop-layer.layer-index _ _ _ _
          (omega arith) c.in_ok-read_one.ensures.failures turn.1,
    )
