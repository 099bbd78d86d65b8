-- the jobs so far are those of the tables before this one
use Rattle.std.proofs.Common.{◌≡◌, ◌++◌, [], map, take}
use Rattle.font_graph.specs.Graph.{spec_with}
use Rattle.font_graph.specs.Same.{same_id}
use Rattle.font_graph.specs.declared.ids.JobId.TheVariants as job
use Rattle.font_plan.specs.Jobs.{parts}
use Rattle.font_plan.specs.Reading.{of_outlines}
use Rattle.font_tables.specs.declared.tags.TheConstants.{TABLE_TAGS}
use Rattle.font_plan.proofs.specs_of.push_tables.Given as goal

abbrev pub invariant-loop-tag : goal.invariant-loop-tag
invariant-loop-tag l = l.jobs.items ≡ l.initial.jobs.items
    ++ map (λ tag. spec_with (parts []) same_id
    (of_outlines l.outlines l.varied) (job.Table tag))
    (take l.tag-index TABLE_TAGS)
