-- what is made for a header is a flat glyph
use Rattle.std.proofs.Common.{sym, subst}
use Rattle.font_ir.specs.FlatGlyphs.{IsFlatGlyph}
use Rattle.font_ir.proofs.NotdefLaws.{made_notdef_flat}
use Rattle.font_ir.proofs.notdef.made_notdef.Goals as goal

pub returns-clause-flat : goal.returns-clause-flat
returns-clause-flat c =
    subst IsFlatGlyph (sym c.in_ok-glyph.ensures)
    (made_notdef_flat c.args.header.now c.requires)
