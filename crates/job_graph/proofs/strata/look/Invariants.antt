use Rattle.std.proofs.Common.{◌≡◌, length}
use Rattle.job_graph.specs.Rounds.{state_from}
use Rattle.job_graph.specs.Agenda.{ArePassed}
use Rattle.job_graph.proofs.strata.look.Given as goal

abbrev pub invariant-loop-queue : goal.invariant-loop-queue
invariant-loop-queue g l = ArePassed g.P.Id.PartialEq.eq (g.P.Plan.meaning l.plan)
    (state_from l.jobs l.values) l.passed.items
    × (length l.passed.items ≡ length l.initial.passed.items)
