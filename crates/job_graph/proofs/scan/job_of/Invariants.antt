-- what is found among the jobs that are left is what is found among all
use Rattle.std.proofs.Common.{◌≡◌, drop}
use Rattle.std.specs.List.{find}
use Rattle.job_graph.specs.Rounds.{has_id}
use Rattle.job_graph.proofs.scan.job_of.Given as goal

abbrev pub invariant-loop-job : goal.invariant-loop-job
invariant-loop-job g l = find (has_id g.Id.PartialEq.eq l.id) (drop l.job-index l.jobs)
    ≡ find (has_id g.Id.PartialEq.eq l.id) l.jobs
