use Rattle.job_graph.proofs.Kept.{first_over}
use Rattle.job_graph.proofs.laws.limit_is_first_over.Goals as goal

pub returns : goal.returns
returns g c = first_over _ _ 0 (g.met.P.Plan.lawful c.args.plan.now)
