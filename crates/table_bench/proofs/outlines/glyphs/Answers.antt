use Rattle.std.proofs.lemmas.List.Elements.{All-push}
use Rattle.table_bench.specs.Outlines.{IsVarying}
use Rattle.table_bench.proofs.outlines.glyphs.Goals as goal

pub loop-number-preserved : goal.loop-number-preserved
loop-number-preserved c =
    rw c.in_ok-push.ensures.items (All-push IsVarying c.loop-number.glyphs.items
    c.in_ok-glyph.field-0 c.loop-number.invariant c.in_ok-glyph.ensures)
