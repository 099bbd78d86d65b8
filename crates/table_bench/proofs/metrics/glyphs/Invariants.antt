use Rattle.std.proofs.Common.{◌≡◌, length}
use Rattle.font_ir.specs.FlatGlyphs.{glyphs_of}
use Rattle.table_bench.specs.Fonts.{AreMeasurable}
use Rattle.table_bench.proofs.metrics.glyphs.Given as goal

abbrev pub invariant-loop-gid : goal.invariant-loop-gid
invariant-loop-gid l = record {
  count : length l.glyphs.items ≡ l.gid;
  are : AreMeasurable l.order.names (glyphs_of l.glyphs.items);
}
