use Rattle.std.proofs.Common.{◌≡◌, Some, None}
use Rattle.job_graph.specs.Histories.{out_at}
use Rattle.board_bench.proofs.runs.run_plan.Given as goal

abbrev pub invariant-loop-call : goal.invariant-loop-call
invariant-loop-call g l = record {
  free : out_at l.board.workers l.board.events 0 ≡ Some None;
  workers : l.board.workers ≡ 1;
}
