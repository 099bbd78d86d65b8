use Rattle.job_graph.proofs.Halts.{own_events}
use Rattle.job_graph.proofs.laws.own_events_tell_what_is_out.Goals as goal

pub returns : goal.returns
returns g c = λ w lt. own_events c.args.workers w lt c.args.events.now
