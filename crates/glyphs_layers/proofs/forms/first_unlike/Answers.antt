use Rattle.std.proofs.Common.{◌≡◌, true, arith, ap, ◌∙◌, get_or, List, add-one}
use Rattle.font_ir.specs.declared.glyph.LayerIr.{LayerIr}
use Rattle.glyphs_layers.specs.Forms.{same_form}
use Rattle.glyphs_layers.proofs.FormLaws.{like_turn}
use Rattle.glyphs_layers.proofs.forms.first_unlike.Goals as goal

pub loop-i-preserved : goal.loop-i-preserved
loop-i-preserved c =
    let held = c.index-records-i.result in
    let same : same_form c.args.first.now held ≡ true = cc in
    rw add-one (like_turn c.args.tree.now c.args.first.now c.args.layers.now c.loop-i.i held _
    (omega arith) (c.index-records-i.is
    ∙ ap (λ (xs : List LayerIr). get_or xs c.loop-i.i held) c.requires) same c.loop-i.invariant)
