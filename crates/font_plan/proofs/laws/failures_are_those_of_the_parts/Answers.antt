use Rattle.font_graph.specs.PartFailures.{fails_by, by_fails}
use Rattle.font_plan.specs.Jobs.{parts}
use Rattle.font_plan.proofs.laws.failures_are_those_of_the_parts.Goals as goal

pub returns-clause-parts : goal.returns-clause-parts
returns-clause-parts c source id r f = fails_by (parts source) id r f

pub returns-clause-jobs : goal.returns-clause-jobs
returns-clause-jobs c source id r f = by_fails (parts source) id r f
