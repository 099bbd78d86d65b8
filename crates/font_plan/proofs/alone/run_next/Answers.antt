-- what the board hands out is due
use Rattle.std.proofs.Common.{ap, sym, subst}
use Rattle.job_graph.specs.Rounds.{IsDue}
use Rattle.font_graph.specs.Graph.{plan}
use Rattle.font_graph.specs.Same.{same_id}
use Rattle.font_plan.specs.Alone.{HasEnded, SourceBoard}
use Rattle.font_plan.specs.Jobs.{parts}
use Rattle.font_plan.proofs.alone.run_next.Goals as goal

pub finish-requires-clause-due : goal.finish-requires-clause-due
finish-requires-clause-due c = subst (λ source. IsDue same_id (plan (parts source) same_id)
    c.in-Run.ticket c.in-Run.reads)
    (sym (ap (λ (board : SourceBoard). board.plan) c.in-Run.ensures.answer.2))
    c.in-Run.ensures.answer.1.due

pub returns-in-Ended-clause-ended : goal.returns-in-Ended-clause-ended
returns-in-Ended-clause-ended c ended = subst HasEnded (sym c.in-Ended.ensures.answer.1)
    c.in-Ended.ensures.answer.0
