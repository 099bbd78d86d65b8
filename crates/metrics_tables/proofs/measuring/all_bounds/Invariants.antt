use Rattle.std.proofs.Common.{◌≡◌, map, take}
use Rattle.font_ir.specs.Outlines.{points_at, bounds_of}
use Rattle.metrics_tables.proofs.measuring.all_bounds.Given as goal

abbrev pub invariant-loop-glyph : goal.invariant-loop-glyph
invariant-loop-glyph l = l.bounds.items ≡ map (λ glyph. bounds_of (points_at l.place glyph.value))
    (take l.glyph-index l.glyphs)
