-- the board's plan is the plan that runs the job
use Rattle.std.proofs.Common.{sym, subst}
use Rattle.job_graph.specs.Rounds.{IsDue}
use Rattle.font_graph.specs.Graph.{plan}
use Rattle.font_graph.specs.Same.{same_id}
use Rattle.font_plan.specs.Jobs.{parts}
use Rattle.font_plan.proofs.alone.finish.Goals as goal

pub run_claimed-requires : goal.run_claimed-requires
run_claimed-requires c = subst (λ source. IsDue same_id (plan (parts source) same_id) c.args.ticket
    c.args.reads.now) (sym c.plan.ensures) c.requires.due
