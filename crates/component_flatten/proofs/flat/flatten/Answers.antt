use Rattle.font_ir.specs.FlatGlyphs.{glyphs_of}
use Rattle.component_flatten.proofs.FlatLaws.{flat_glyph, flat_not_kept}
use Rattle.component_flatten.proofs.flat.flatten.Goals as goal

pub returns-clause-flat : goal.returns-clause-flat
returns-clause-flat c = flat_glyph c.args.index.now c.args.glyph.now (glyphs_of c.args.bases.now)
    c.requires.read c.requires.bases _ c.draw.result c.draw.ensures.record

pub returns-clause-kept : goal.returns-clause-kept
returns-clause-kept c = λ none. flat_not_kept c.args.index.now c.args.glyph.now
    (glyphs_of c.args.bases.now) none _ c.draw.result c.draw.ensures.record
