use Rattle.job_graph.proofs.Last.{limit_is}
use Rattle.job_graph.proofs.laws.limit_follows_from_values.Goals as goal

pub returns : goal.returns
returns g c = limit_is _ _ (g.met.P.Plan.lawful c.args.plan.now)
