use Rattle.std.proofs.Common.{◌≡◌, length}
use Rattle.job_graph.specs.Agenda.{AreEmpty}
use Rattle.job_graph.proofs.queues.empty_queues.Given as goal

abbrev pub invariant-loop-i : goal.invariant-loop-i
invariant-loop-i g l = AreEmpty g.Id.Ord.cmp l.queues.items × (length l.queues.items ≡ l._i)
