-- the glyphs so far are those of the numbers before this one
use Rattle.std.proofs.Common.{◌≡◌, map, take, Some}
use Rattle.std.specs.List.{All}
use Rattle.std.specs.Arc.{arc_value}
use Rattle.font_ir.specs.FlatGlyphs.{IsFlatGlyph}
use Rattle.font_plan.specs.Reading.{glyph_read}
use Rattle.font_plan.proofs.font_reads.glyphs_in.Given as goal

abbrev pub invariant-loop-number : goal.invariant-loop-number
invariant-loop-number l = (map (λ glyph. Some (arc_value glyph)) l.glyphs.items
    ≡ map (glyph_read l.header l.reads) (take l.number-index l.numbers))
    × All (λ glyph. IsFlatGlyph (arc_value glyph)) l.glyphs.items
