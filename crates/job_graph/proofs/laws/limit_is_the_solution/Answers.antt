use Rattle.job_graph.specs.Solved.{solution_solved}
use Rattle.job_graph.proofs.laws.limit_is_the_solution.Goals as goal

pub returns : goal.returns
returns g c = solution_solved _ _ _ _ _ (g.met.P.Solved.solution c.args.plan.now)
