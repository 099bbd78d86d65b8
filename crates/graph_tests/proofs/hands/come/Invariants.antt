use Rattle.std.proofs.Common.{◌≡◌}
use Rattle.graph_tests.specs.Held.{IsHeld}
use Rattle.graph_tests.proofs.hands.come.Given as goal

abbrev pub invariant-loop-worker : goal.invariant-loop-worker
invariant-loop-worker g l = record {
  held : IsHeld g.P.Id.PartialEq.eq (g.P.Plan.meaning l.board.plan) l.board.workers l.board.events
      l.hands.items;
  workers : l.board.workers ≡ l.fn.board.workers;
}
