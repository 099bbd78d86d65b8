use Rattle.job_graph.proofs.Kept.{adds_none_below}
use Rattle.job_graph.proofs.laws.ready_job_bars_lower_strata.Goals as goal

pub returns : goal.returns
returns g c = λ workers events more. adds_none_below _ _ workers
    (g.met.P.Plan.lawful c.args.plan.now) events more
