use Rattle.std.proofs.Common.{◌<◌, ◌≤◌}
use Rattle.std.specs.List.{All}
use Rattle.cmap_writer.specs.Cmap.{AreCodes}
use Rattle.writer_tests.proofs.cmap_table.codes.Given as goal

abbrev pub invariant-loop-glyph : goal.invariant-loop-glyph
invariant-loop-glyph l =
    record {
      are : AreCodes l.codes.items;
      below : All (λ code. code.0 < l.code) l.codes.items;
    }
