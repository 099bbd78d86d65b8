use Rattle.std.proofs.Common.{◌≡◌, replicate}
use Rattle.job_graph.proofs.strata.none_passed.Given as goal

abbrev pub invariant-loop-i : goal.invariant-loop-i
invariant-loop-i l = l.passed.items ≡ replicate l._i 0
