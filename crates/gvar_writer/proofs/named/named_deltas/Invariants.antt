use Rattle.std.proofs.Common.{◌≡◌, ◌++◌, drop}
use Rattle.std.specs.List.{items_where_true}
use Rattle.gvar_writer.proofs.named.named_deltas.Given as goal

abbrev pub invariant-loop-i : goal.invariant-loop-i
invariant-loop-i l =
    l.kept.items ++ items_where_true (drop l.i l.named) (drop l.i l.deltas)
    ≡ items_where_true l.named l.deltas
