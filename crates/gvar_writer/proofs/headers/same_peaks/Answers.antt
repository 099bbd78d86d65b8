use Rattle.std.proofs.Common.{◌≢◌, length, arith, sym}
use Rattle.std.proofs.lemmas.Bool.Decides.{nat_tests}
use Rattle.gvar_writer.proofs.PeakSteps.{other_length}
use Rattle.gvar_writer.proofs.headers.same_peaks.Goals as goal

pub returns-then-one-other : goal.returns-then-one-other
returns-then-one-other c =
    let different : length c.args.one.now ≢ length c.args.other.now = grind (arith, nat_tests) in
    sym (other_length c.args.one.now c.args.other.now different)
