use Rattle.std.specs.List.{All}
use Rattle.std.specs.Arc.{arc_value}
use Rattle.font_ir.specs.FlatGlyphs.{IsFlatGlyph}
use Rattle.reader_tests.proofs.flattening.chosen.Given as goal

abbrev pub invariant-loop-place : goal.invariant-loop-place
invariant-loop-place l = All (λ glyph. IsFlatGlyph (arc_value glyph)) l.chosen.items
