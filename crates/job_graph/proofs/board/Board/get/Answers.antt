use Rattle.std.proofs.Common.{◌≡◌, Some, ◌∙◌}
use Rattle.access_context.specs.Plain.{plain}
use Rattle.job_graph.specs.Rounds.{value_in, limit}
use Rattle.job_graph.proofs.Boards.{settled_is, ended_values, if_some}
use Rattle.job_graph.proofs.board.Board.get.Goals as goal

pub returns-clause-in_limit : goal.returns-clause-in_limit
returns-clause-in_limit g c =
    rw (← c.self.view_is) (if_some c.get.result (λ s. plain s.now)
    (λ x. value_in g.P.Id.PartialEq.eq (limit g.P.Id.PartialEq.eq
    (g.P.Plan.meaning c.self.inside.plan)) c.args.id.now ≡ Some x) _
    c.get.ensures
    (settled_is _ _ _ (g.met.P.Plan.lawful c.self.inside.plan) _ _ _ _ _ c.self.invariant.board
    c.args.id.now))

pub returns-clause-ended : goal.returns-clause-ended
returns-clause-ended g c =
    rw (← c.self.view_is) (λ e. c.get.ensures
    ∙ ended_values _ _ _ (g.met.P.Plan.lawful c.self.inside.plan) _ _ _ _ _
    c.self.invariant.board e c.args.id.now)
