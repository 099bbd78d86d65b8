use Rattle.std.proofs.Common.{◌≡◌, ◌++◌, map, take}
use Rattle.gvar_writer.specs.TupleData.{is_moved}
use Rattle.gvar_writer.proofs.named.push_others.Given as goal

abbrev pub invariant-loop-delta : goal.invariant-loop-delta
invariant-loop-delta l =
    l.named.items ≡ l.fn.named.items ++ map is_moved (take l.delta-index l.deltas)
