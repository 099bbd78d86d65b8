use Rattle.std.proofs.Common.{◌≡◌, ◌-◌}
use Rattle.font_reader.specs.Search.{first_found}
use Rattle.font_reader.specs.Outlines.{contour_with}
use Rattle.font_reader.proofs.outlines.first_contour.Given as goal

abbrev pub invariant-loop-i : goal.invariant-loop-i
invariant-loop-i l = first_found (contour_with l.bytes l.glyf l.at l.index)
    l.i (l.contours - l.i)
    ≡ first_found (contour_with l.bytes l.glyf l.at l.index) 0 l.contours
