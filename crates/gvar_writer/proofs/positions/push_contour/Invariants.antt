use Rattle.std.proofs.Common.{◌≡◌, ◌++◌, map, take}
use Rattle.gvar_writer.specs.GlyphPoints.{position_of}
use Rattle.gvar_writer.proofs.positions.push_contour.Given as goal

abbrev pub invariant-loop-point : goal.invariant-loop-point
invariant-loop-point l =
    l.positions.items ≡ l.fn.positions.items ++ map position_of (take l.point-index l.points)
