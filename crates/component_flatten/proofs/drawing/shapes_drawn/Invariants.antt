use Rattle.std.proofs.Common.{◌≡◌, ◌+◌, ◌++◌, drop, length}
use Rattle.font_ir.specs.FlatGlyphs.{glyphs_of}
use Rattle.component_flatten.specs.Drawing as spec
use Rattle.component_flatten.specs.Flattening.{are_small}
use Rattle.component_flatten.proofs.drawing.shapes_drawn.Given as goal

abbrev pub invariant-loop-shape : goal.invariant-loop-shape
invariant-loop-shape l = record {
  so_far : l.contours ++ spec.shapes_drawn l.at (drop l.next (glyphs_of l.bases))
      (drop l.shape-index l.shapes) ≡ spec.shapes_drawn l.at (glyphs_of l.bases) l.shapes;
  small : are_small (spec.shapes_drawn l.at (drop l.next (glyphs_of l.bases))
      (drop l.shape-index l.shapes))
      ≡ are_small (spec.shapes_drawn l.at (glyphs_of l.bases) l.shapes);
  enough : l.next + length (spec.names_of (drop l.shape-index l.shapes)) ≡ length l.bases;
}
