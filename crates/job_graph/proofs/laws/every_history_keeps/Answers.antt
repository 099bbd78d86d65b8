use Rattle.job_graph.proofs.Kept.{history_of}
use Rattle.job_graph.proofs.laws.every_history_keeps.Goals as goal

pub returns : goal.returns
returns g c = λ workers events legal. history_of _ _ workers (g.met.P.Plan.lawful c.args.plan.now)
    events legal
