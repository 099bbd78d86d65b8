use Rattle.std.proofs.Common.{◌≡◌, ◌-◌, [], length}
use Rattle.job_graph.specs.Rounds.{state_from}
use Rattle.job_graph.specs.Agenda.{IsAgenda}
use Rattle.job_graph.proofs.agenda.Agenda.take_in.Given as goal

abbrev pub invariant-values : goal.invariant-values
invariant-values g l = IsAgenda g.Id.PartialEq.eq g.Id.Ord.cmp (state_from l.jobs l.values) l.outs
    l.self × (l.self.waking.items ≡ []) × (length l.self.cursors.items ≡ length l.jobs)

abbrev pub decreases-values : goal.decreases-values
decreases-values g l = length l.values - l.self.told
