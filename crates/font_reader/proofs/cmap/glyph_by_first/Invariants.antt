use Rattle.std.proofs.Common.{◌≡◌, ◌-◌}
use Rattle.font_reader.specs.Search.{first_found}
use Rattle.font_reader.specs.Cmap.{glyph_in_segment}
use Rattle.font_reader.proofs.cmap.glyph_by_first.Given as goal

abbrev pub invariant-loop-i : goal.invariant-loop-i
invariant-loop-i l = first_found (glyph_in_segment l.bytes l.cmap l.subtable l.count l.code)
    l.i (l.count - l.i)
    ≡ first_found (glyph_in_segment l.bytes l.cmap l.subtable l.count l.code) 0 l.count
