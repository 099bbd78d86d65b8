use Rattle.std.proofs.Common.{subst, sym}
use Rattle.std.proofs.lemmas.List.Elements.{All-push}
use Rattle.std.specs.declared.alloc.Global.{Global}
use Rattle.std.specs.declared.sync.Arc.{Arc}
use Rattle.font_ir.specs.declared.glyph.FlatGlyph.{FlatGlyph}
use Rattle.metrics_tests.specs.Simple.{IsSimpleIn}
use Rattle.metrics_tests.proofs.advances_that_change.add.Goals as goal

pub returns : goal.returns
returns c =
    let header = c.args.header.now in
    let IsSimple : Arc FlatGlyph Global → Type 0 = λ glyph. IsSimpleIn header glyph.value in
    rw c.in_ok-push.ensures.items (All-push IsSimple c.args.glyphs.now.items c.in_ok-new.field-0
    c.requires.others (subst (IsSimpleIn header) (sym c.in_ok-new.ensures.ok) c.requires.glyph))
