use Rattle.std.proofs.Common.{◌≡◌, replicate, None}
use Rattle.job_graph.proofs.lists.none_out.Given as goal

abbrev pub invariant-loop-i : goal.invariant-loop-i
invariant-loop-i g l = l.outs.items ≡ replicate l._i None
