-- the console took all of the bytes but the rest
use Rattle.std.proofs.Common.{◌≡◌, length}
use Rattle.whole_files.proofs.Prints.{IsPrinted}
use Rattle.whole_files.proofs.printing.print_whole.Given as goal

abbrev pub invariant-loop-rest : goal.invariant-loop-rest
invariant-loop-rest g l = record {
  printed : IsPrinted l.bytes l.rest (g.C.Console.took l.fn.console) (g.C.Console.took l.console);
  failures : g.C.Console.failed_writes l.console ≡ g.C.Console.failed_writes l.fn.console;
}

abbrev pub decreases-loop-rest : goal.decreases-loop-rest
decreases-loop-rest g l = length l.rest
