use Rattle.std.proofs.Common.{◌≡◌, replicate, false}
use Rattle.job_graph.proofs.lists.none_halted.Given as goal

abbrev pub invariant-loop-i : goal.invariant-loop-i
invariant-loop-i l = l.halted.items ≡ replicate l._i false
