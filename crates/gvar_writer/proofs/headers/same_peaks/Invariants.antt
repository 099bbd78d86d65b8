use Rattle.std.proofs.Common.{◌≡◌, drop}
use Rattle.gvar_writer.specs.TupleHeaders.{same_peaks}
use Rattle.gvar_writer.proofs.headers.same_peaks.Given as goal

abbrev pub invariant-loop-axis : goal.invariant-loop-axis
invariant-loop-axis l =
    same_peaks (drop l.axis l.one) (drop l.axis l.other) ≡ same_peaks l.one l.other
