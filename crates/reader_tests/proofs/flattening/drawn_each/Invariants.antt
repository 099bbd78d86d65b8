use Rattle.std.specs.List.{All}
use Rattle.std.specs.Arc.{arc_value}
use Rattle.font_ir.specs.FlatGlyphs.{IsFlatGlyph}
use Rattle.reader_tests.proofs.flattening.drawn_each.Given as goal

abbrev pub invariant-loop-glyph : goal.invariant-loop-glyph
invariant-loop-glyph l = All (λ glyph. IsFlatGlyph (arc_value glyph)) l.drawn.items
