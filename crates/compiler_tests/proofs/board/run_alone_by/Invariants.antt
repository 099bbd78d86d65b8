use Rattle.std.proofs.Common.{◌≡◌, None, Some}
use Rattle.job_graph.specs.Histories.{out_at}
use Rattle.compiler_tests.proofs.board.run_alone_by.Given as goal

abbrev pub invariant-loop-call : goal.invariant-loop-call
invariant-loop-call g l = record {
  workers : l.board.workers ≡ 1;
  free : out_at l.board.workers l.board.events 0 ≡ Some None;
}
