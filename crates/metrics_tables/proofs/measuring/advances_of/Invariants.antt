use Rattle.std.proofs.Common.{◌≡◌, map, take, unsigned_abs}
use Rattle.metrics_tables.specs.Measuring.{width_at}
use Rattle.metrics_tables.proofs.measuring.advances_of.Given as goal

abbrev pub invariant-loop-glyph : goal.invariant-loop-glyph
invariant-loop-glyph l = l.advances.items
    ≡ map (λ glyph. unsigned_abs (width_at l.place glyph.value)) (take l.glyph-index l.glyphs)
