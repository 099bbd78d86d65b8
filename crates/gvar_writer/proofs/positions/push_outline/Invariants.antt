use Rattle.std.proofs.Common.{◌≡◌, ◌++◌, take}
use Rattle.gvar_writer.specs.GlyphPoints.{outline_positions}
use Rattle.gvar_writer.proofs.positions.push_outline.Given as goal

abbrev pub invariant-loop-contour : goal.invariant-loop-contour
invariant-loop-contour l =
    l.positions.items ≡ l.fn.positions.items ++ outline_positions (take l.contour-index l.contours)
