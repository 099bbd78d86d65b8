use Rattle.std.proofs.Common.{◌≡◌, ◌++◌, take}
use Rattle.gvar_writer.specs.TupleHeaders.{start_tuple}
use Rattle.gvar_writer.proofs.headers.push_starts.Given as goal

abbrev pub invariant-loop-side : goal.invariant-loop-side
invariant-loop-side l =
    l.bytes.items ≡ l.fn.bytes.items ++ start_tuple (take l.side-index l.sides)
