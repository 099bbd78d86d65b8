use Rattle.std.proofs.Common.{vec_len}
use Rattle.job_graph.specs.Rounds.{state_from}
use Rattle.job_graph.specs.Agenda.{IsAgenda, SameCounts}
use Rattle.job_graph.proofs.agenda.Agenda.wake.Given as goal

abbrev pub invariant-waking : goal.invariant-waking
invariant-waking g l = IsAgenda g.Id.PartialEq.eq g.Id.Ord.cmp (state_from l.jobs l.values) l.outs
    l.self × SameCounts l.initial.self l.self

abbrev pub decreases-waking : goal.decreases-waking
decreases-waking g l = vec_len l.self.waking
