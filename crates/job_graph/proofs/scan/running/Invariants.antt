use Rattle.std.proofs.Common.{◌≡◌, take, is_some, count_by}
use Rattle.job_graph.proofs.scan.running.Given as goal

abbrev pub invariant-loop-out : goal.invariant-loop-out
invariant-loop-out g l = l.count ≡ count_by is_some (take l.out-index l.outs)
