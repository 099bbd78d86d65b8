use Rattle.std.proofs.Common.{◌≡◌, map, take}
use Rattle.metrics_tables.specs.Nesting.{bases_of}
use Rattle.metrics_tables.proofs.nesting.all_bases.Given as goal

abbrev pub invariant-loop-glyph : goal.invariant-loop-glyph
invariant-loop-glyph l = l.bases.items
    ≡ map (λ glyph. bases_of l.order.names glyph.value) (take l.glyph-index l.glyphs)
