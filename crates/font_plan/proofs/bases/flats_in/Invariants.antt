-- the glyphs so far are those of the numbers before this one
use Rattle.std.proofs.Common.{◌≡◌, [], map, take, Some}
use Rattle.std.specs.List.{All}
use Rattle.std.specs.Arc.{arc_value}
use Rattle.font_ir.specs.FlatGlyphs.{IsFlatGlyph}
use Rattle.font_graph.specs.Running.{flat_read}
use Rattle.font_plan.specs.Jobs.{parts}
use Rattle.font_plan.proofs.bases.flats_in.Given as goal

abbrev pub invariant-loop-glyph : goal.invariant-loop-glyph
invariant-loop-glyph l = (map (λ flat. Some (arc_value flat)) l.flats.items
    ≡ map (λ glyph. flat_read (parts []) glyph l.reads) (take l.glyph-index l.glyphs))
    × All (λ flat. IsFlatGlyph (arc_value flat)) l.flats.items
