use Rattle.std.proofs.Common.{◌≡◌, replicate, None}
use Rattle.graph_tests.proofs.hands.no_hands.Given as goal

abbrev pub invariant-loop-i : goal.invariant-loop-i
invariant-loop-i g l = l.hands.items ≡ replicate l._i None
