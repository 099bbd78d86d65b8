use Rattle.std.proofs.Common.{◌≡◌, ◌-◌, ◌≤◌}
use Rattle.font_reader.specs.Fold.{folded}
use Rattle.font_reader.specs.Shapes.{points_to}
use Rattle.font_reader.proofs.shapes.simple_points.Given as goal

abbrev pub invariant-loop-i : goal.invariant-loop-i
invariant-loop-i l = record {
  small : l.points ≤ 65536;
  rest : folded (points_to l.bytes l.glyf l.at) l.i (l.contours - l.i) l.points
      ≡ folded (points_to l.bytes l.glyf l.at) 0 l.contours 0;
}
