use Rattle.std.proofs.Common.{◌≡◌, length}
use Rattle.gvar_tests.proofs.gvar.too_long.Given as goal

abbrev pub invariant-loop-i : goal.invariant-loop-i
invariant-loop-i l = length l.parts.items ≡ l._i
