use Rattle.std.proofs.Common.{◌≡◌, ◌++◌, map, not, take}
use Rattle.gvar_writer.proofs.named.push_outline.Given as goal

abbrev pub invariant-loop-mark : goal.invariant-loop-mark
invariant-loop-mark l = l.named.items ≡ l.fn.named.items ++ map not (take l.mark-index l.left_out)
