-- one job more
use Rattle.std.proofs.Common.{[]}
use Rattle.font_graph.specs.Graph.{spec_with}
use Rattle.font_graph.specs.Same.{same_id}
use Rattle.font_graph.specs.declared.ids.JobId.TheVariants as job
use Rattle.font_plan.specs.Jobs.{parts}
use Rattle.font_plan.specs.Reading.{of_outlines}
use Rattle.font_tables.specs.declared.tags.TheConstants.{TABLE_TAGS}
use Rattle.font_plan.proofs.Loops.{collected}
use Rattle.font_plan.proofs.specs_of.push_tables.Goals as goal

pub loop-tag-preserved : goal.loop-tag-preserved
loop-tag-preserved c = collected TABLE_TAGS c.loop-tag.tag-index _ c.loop-tag-test.true
    (λ tag. spec_with (parts []) same_id
    (of_outlines c.args.outlines.now c.args.varied.now) (job.Table tag)) c.args.jobs.now.items
    c.loop-tag.jobs.items c.push.new.self.items c.in_ok-table.field-0 c.loop-tag.invariant
    c.in_ok-table.ensures c.in_ok-push.ensures.items
