use Rattle.std.proofs.Common.{◌≡◌, ◌≤◌, ◌+◌, drop, length}
use Rattle.font_ir.specs.FlatGlyphs.{glyphs_of}
use Rattle.component_flatten.specs.Drawing.{names_of}
use Rattle.component_flatten.specs.Judging.{points_of}
use Rattle.component_flatten.proofs.counting.are_many_points.Given as goal

abbrev pub invariant-loop-shape : goal.invariant-loop-shape
invariant-loop-shape l = record {
  few : l.count ≤ 8000;
  so_far : l.count + points_of (drop l.next (glyphs_of l.bases)) (drop l.shape-index l.shapes)
      ≡ points_of (glyphs_of l.bases) l.shapes;
  enough : l.next + length (names_of (drop l.shape-index l.shapes)) ≡ length l.bases;
}
