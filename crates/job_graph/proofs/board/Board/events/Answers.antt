use Rattle.job_graph.proofs.Kept.{history_of}
use Rattle.job_graph.proofs.board.Board.events.Goals as goal

pub returns-clause-history : goal.returns-clause-history
returns-clause-history g c = rw (← c.self.view_is)
    (history_of _ _ _ (g.met.P.Plan.lawful c.self.inside.plan) _ c.self.invariant.board.legal)
