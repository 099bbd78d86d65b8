use Rattle.std.proofs.Common.{◌≡◌, true, map, replicate}
use Rattle.std.specs.List.{All}
use Rattle.font_ir.specs.FlatGlyphs.{IsSmallPoint}
use Rattle.font_ir.specs.declared.glyph.DrawnPoint.{DrawnPoint}
use Rattle.table_bench.proofs.outlines.contour.Given as goal

abbrev pub invariant-loop-k : goal.invariant-loop-k
invariant-loop-k l = record {
  on : map (λ (point : DrawnPoint). point.on) l.points.items ≡ replicate l.k true;
  small : All IsSmallPoint l.points.items;
}
