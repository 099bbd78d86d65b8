use Rattle.std.proofs.Common.{◌≡◌, ◌++◌, drop}
use Rattle.std.specs.List.{zip}
use Rattle.gvar_writer.proofs.named.pairs.Given as goal

abbrev pub invariant-loop-i : goal.invariant-loop-i
invariant-loop-i l =
    l.pairs.items ++ zip (drop l.i l.xs) (drop l.i l.ys) ≡ zip l.xs l.ys
