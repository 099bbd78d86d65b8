use Rattle.graph_tests.proofs.HeldLemmas.{held_new}
use Rattle.graph_tests.proofs.hands.begun.Goals as goal

pub returns-clause-held : goal.returns-clause-held
returns-clause-held g c = rw (c.in_ok-board.ensures.made, c.in_ok-hands.ensures)
    (held_new _ _ c.args.workers)
