use Rattle.std.proofs.Common.{◌≡◌, ◌-◌}
use Rattle.font_reader.specs.Search.{first_found}
use Rattle.font_reader.specs.Cmap.{glyph_in_group}
use Rattle.font_reader.proofs.cmap.glyph_in_first.Given as goal

abbrev pub invariant-loop-i : goal.invariant-loop-i
invariant-loop-i l = first_found (glyph_in_group l.bytes l.cmap l.groups l.code) l.i (l.end - l.i)
    ≡ first_found (glyph_in_group l.bytes l.cmap l.groups l.code) 0 l.end
