-- the jobs so far are those of the numbers before this one
use Rattle.std.proofs.Common.{◌≡◌, map, take}
use Rattle.font_plan.specs.Reading.{part_read}
use Rattle.font_plan.proofs.font_reads.outline_jobs.Given as goal

abbrev pub invariant-loop-glyph : goal.invariant-loop-glyph
invariant-loop-glyph l = l.jobs.items ≡ map (part_read l.reads) (take l.glyph-index l.glyphs)
