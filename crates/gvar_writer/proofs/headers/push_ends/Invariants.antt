use Rattle.std.proofs.Common.{◌≡◌, ◌++◌, take}
use Rattle.gvar_writer.specs.TupleHeaders.{end_tuple}
use Rattle.gvar_writer.proofs.headers.push_ends.Given as goal

abbrev pub invariant-loop-side : goal.invariant-loop-side
invariant-loop-side l =
    l.bytes.items ≡ l.fn.bytes.items ++ end_tuple (take l.side-index l.sides)
