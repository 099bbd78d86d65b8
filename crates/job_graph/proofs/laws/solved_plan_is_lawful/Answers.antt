use Rattle.job_graph.specs.Solved.{solution_lawful}
use Rattle.job_graph.proofs.laws.solved_plan_is_lawful.Goals as goal

pub returns : goal.returns
returns g c = solution_lawful _ _ _ _ _ (g.met.P.Solved.solution c.args.plan.now)
