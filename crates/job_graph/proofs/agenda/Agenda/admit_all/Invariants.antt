use Rattle.std.proofs.Common.{◌≡◌, ◌-◌, [], length}
use Rattle.job_graph.specs.Rounds.{state_from}
use Rattle.job_graph.specs.Agenda.{IsAgenda}
use Rattle.job_graph.proofs.agenda.Agenda.admit_all.Given as goal

abbrev pub invariant-jobs : goal.invariant-jobs
invariant-jobs g l = IsAgenda g.Id.PartialEq.eq g.Id.Ord.cmp (state_from l.jobs l.values) l.outs
    l.self × (l.self.waking.items ≡ [])

abbrev pub decreases-jobs : goal.decreases-jobs
decreases-jobs g l = length l.jobs - length l.self.cursors.items
