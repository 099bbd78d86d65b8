-- one job more
use Rattle.std.proofs.Common.{[]}
use Rattle.font_plan.specs.Reading.{part_read}
use Rattle.font_plan.proofs.Loops.{collected}
use Rattle.font_plan.proofs.font_reads.outline_jobs.Goals as goal

pub loop-glyph-preserved : goal.loop-glyph-preserved
loop-glyph-preserved c = collected c.args.glyphs.now c.loop-glyph.glyph-index _
    c.loop-glyph-test.true (part_read c.args.reads.now) [] c.loop-glyph.jobs.items
    c.push.new.self.items c.outline_job.result c.loop-glyph.invariant c.outline_job.ensures
    c.in_ok-push.ensures.items
