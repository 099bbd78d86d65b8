use Rattle.job_graph.proofs.Kept.{complete_of_end}
use Rattle.job_graph.proofs.laws.ended_history_is_complete.Goals as goal

pub returns : goal.returns
returns g c = λ workers events legal ended. complete_of_end _ _ workers
    (g.met.P.Plan.lawful c.args.plan.now) events legal ended
