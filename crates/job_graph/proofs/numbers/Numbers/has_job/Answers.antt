use Rattle.std.proofs.Common.{is_some, ap, ◌∙◌}
use Rattle.job_graph.specs.Rounds.{has_id}
use Rattle.job_graph.proofs.Numbered.{any_found, some_mapped}
use Rattle.job_graph.proofs.numbers.Numbers.has_job.Goals as goal

pub returns : goal.returns
returns g c = c.is_some.ensures ∙ some_mapped _ c.job.result ∙ ap is_some c.job.ensures
    ∙ any_found (has_id g.Id.PartialEq.eq c.args.id.now) c.args.jobs.now
