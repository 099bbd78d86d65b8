use Rattle.std.proofs.Common.{◌≡◌, drop}
use Rattle.std.specs.List.{list_any}
use Rattle.job_graph.specs.Rounds.{state_from, is_ready}
use Rattle.job_graph.proofs.scan.some_ready.Given as goal

abbrev pub invariant-loop-job : goal.invariant-loop-job
invariant-loop-job g l =
    list_any (is_ready g.P.Id.PartialEq.eq (g.P.Plan.meaning l.plan) (state_from l.jobs l.values))
    (drop l.job-index l.jobs)
    ≡ list_any (is_ready g.P.Id.PartialEq.eq (g.P.Plan.meaning l.plan) (state_from l.jobs l.values))
    l.jobs
