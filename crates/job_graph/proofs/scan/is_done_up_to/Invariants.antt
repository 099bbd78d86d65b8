use Rattle.std.proofs.Common.{◌≡◌, drop, is_some, not, ◌||◌, nat_le}
use Rattle.std.specs.List.{list_all}
use Rattle.access_context.specs.Read.{read_of}
use Rattle.job_graph.proofs.scan.is_done_up_to.Given as goal

abbrev pub invariant-loop-job : goal.invariant-loop-job
invariant-loop-job g l =
    list_all (λ job. not (nat_le ((g.P.Plan.meaning l.plan).stratum job.id) l.stratum)
    || is_some (read_of g.P.Id.PartialEq.eq l.values job.id)) (drop l.job-index l.jobs)
    ≡ list_all (λ job. not (nat_le ((g.P.Plan.meaning l.plan).stratum job.id) l.stratum)
    || is_some (read_of g.P.Id.PartialEq.eq l.values job.id)) l.jobs
