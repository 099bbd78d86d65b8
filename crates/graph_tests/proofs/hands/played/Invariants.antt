use Rattle.graph_tests.specs.Held.{IsHeld}
use Rattle.graph_tests.proofs.hands.played.Given as goal

abbrev pub invariant-loop-i : goal.invariant-loop-i
invariant-loop-i g l = IsHeld g.P.Id.PartialEq.eq (g.P.Plan.meaning l.board.plan) l.board.workers
    l.board.events l.hands.items
