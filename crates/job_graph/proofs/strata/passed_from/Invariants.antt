use Rattle.std.proofs.Common.{◌-◌, length}
use Rattle.job_graph.specs.Rounds.{state_from}
use Rattle.job_graph.specs.Agenda.{IsPassed}
use Rattle.job_graph.proofs.strata.passed_from.Given as goal

abbrev pub invariant-loop-passed : goal.invariant-loop-passed
invariant-loop-passed g l = IsPassed g.P.Id.PartialEq.eq (g.P.Plan.meaning l.plan)
    (state_from l.jobs l.values) l.stratum l.passed

abbrev pub decreases-loop-passed : goal.decreases-loop-passed
decreases-loop-passed g l = length l.jobs - l.passed
