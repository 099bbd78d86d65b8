use Rattle.std.specs.List.{All}
use Rattle.table_bench.specs.Outlines.{IsVarying}
use Rattle.table_bench.proofs.outlines.glyphs.Given as goal

abbrev pub invariant-loop-number : goal.invariant-loop-number
invariant-loop-number l = All IsVarying l.glyphs.items
