use Rattle.std.proofs.Common.{◌≡◌, Some}
use Rattle.font_ir.specs.FlatGlyphs.{glyphs_of}
use Rattle.component_flatten.specs.Judging.{rule_of}
use Rattle.component_flatten.proofs.FlatLaws.{flat_refused}
use Rattle.component_flatten.proofs.flat.draw.Goals as goal

pub returns-in_ok-copy-in-Err-Broken-clause-record :
    goal.returns-in_ok-copy-in-Err-Broken-clause-record
returns-in_ok-copy-in-Err-Broken-clause-record c =
    let broken : rule_of c.args.glyph.now (glyphs_of c.args.bases.now) ≡ Some c.in-Err-Broken.rule =
    rw c.in-Err-Broken.field-0-is at c.in-Err-Broken.ensures in
    rw c.refused.ensures (flat_refused c.args.index.now c.args.name.now
    c.in_ok-copy-in-Err-Broken.field-0 c.args.glyph.now (glyphs_of c.args.bases.now)
    c.in-Err-Broken.rule c.in_ok-copy-in-Err-Broken.ensures broken)
