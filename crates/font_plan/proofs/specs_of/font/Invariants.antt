-- the reads so far name the tables before this one
use Rattle.std.proofs.Common.{◌≡◌, map, take}
use Rattle.font_graph.specs.declared.ids.JobId.TheVariants as job
use Rattle.font_tables.specs.declared.tags.TheConstants.{TABLE_TAGS}
use Rattle.font_plan.proofs.specs_of.font.Given as goal

abbrev pub invariant-loop-tag : goal.invariant-loop-tag
invariant-loop-tag l = l.reads.items ≡ map job.Table (take l.tag-index TABLE_TAGS)
