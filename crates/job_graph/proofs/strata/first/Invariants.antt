use Rattle.job_graph.specs.Rounds.{state_from}
use Rattle.job_graph.specs.Agenda.{IsBest}
use Rattle.job_graph.proofs.strata.first.Given as goal

abbrev pub invariant-loop-queue : goal.invariant-loop-queue
invariant-loop-queue g l = IsBest g.P.Id.PartialEq.eq g.P.Id.Ord.cmp (g.P.Plan.meaning l.plan)
    (state_from l.jobs l.values) l.queues.queues.items l.queue l.best
