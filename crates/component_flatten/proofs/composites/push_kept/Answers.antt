use Rattle.std.proofs.Common.{◌<◌, List, length, sym, subst}
use Rattle.std.specs.List.{All}
use Rattle.font_ir.specs.declared.glyph.LayerIr.{LayerIr}
use Rattle.component_flatten.proofs.FlatLaws.{within_layers}
use Rattle.component_flatten.proofs.composites.push_kept.Goals as goal

pub offsets-requires-clause-within : goal.offsets-requires-clause-within
offsets-requires-clause-within c =
    subst (λ (layers : List LayerIr). All (λ layer. c.args.n < length layer.shapes) layers)
    (sym c.as_slice.ensures)
    (within_layers c.args.glyph.now c.requires.read c.args.n c.requires.within)
