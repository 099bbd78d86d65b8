use Rattle.std.proofs.Common.{◌≡◌, ◌+◌, Some, drop}
use Rattle.font_ir.specs.FlatGlyphs.{glyphs_of}
use Rattle.metrics_tables.specs.Changes.{first_of, large_from}
use Rattle.metrics_tables.proofs.changes.first_in_source.Given as goal

abbrev pub invariant-loop-gid : goal.invariant-loop-gid
invariant-loop-gid l = first_of (Some l.first) (large_from l.gid (glyphs_of (drop l.gid l.glyphs)))
    ≡ first_of (Some l.fn.found) (large_from (l.fn.found.gid + 1)
    (glyphs_of (drop (l.fn.found.gid + 1) l.glyphs)))
