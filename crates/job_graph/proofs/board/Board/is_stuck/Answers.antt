use Rattle.std.proofs.Common.{sym, ap, ◌∙◌}
use Rattle.std.specs.List.{list_any}
use Rattle.job_graph.specs.Rounds.{has_id}
use Rattle.job_graph.proofs.Boards.{ended_stuck, stuck_there, stuck_absent}
use Rattle.job_graph.proofs.board.Board.is_stuck.Goals as goal

pub returns-then-has_job-clause-ended : goal.returns-then-has_job-clause-ended
returns-then-has_job-clause-ended g c =
    rw (← c.self.view_is) (λ e. stuck_there _ _ _
    (sym (c.has_job.ensures ∙ ap (list_any (has_id g.P.Id.PartialEq.eq c.args.id.now))
    c.as_slice.ensures.value) ∙ c.if-has_job.true)
    c.is_settled.ensures
    ∙ ended_stuck _ _ _ (g.met.P.Plan.lawful c.self.inside.plan) _ _ _ _ _ c.self.invariant.board e
    c.args.id.now)

pub returns-else-has_job-clause-ended : goal.returns-else-has_job-clause-ended
returns-else-has_job-clause-ended g c =
    rw (← c.self.view_is) (λ e. stuck_absent _ _ _ c.if-has_job.false
    (c.has_job.ensures ∙ ap (list_any (has_id g.P.Id.PartialEq.eq c.args.id.now))
    c.as_slice.ensures.value)
    ∙ ended_stuck _ _ _ (g.met.P.Plan.lawful c.self.inside.plan) _ _ _ _ _ c.self.invariant.board e
    c.args.id.now)

pub has_job-requires : goal.has_job-requires
has_job-requires g c = rw c.as_slice.ensures.value c.self.invariant.numbered
