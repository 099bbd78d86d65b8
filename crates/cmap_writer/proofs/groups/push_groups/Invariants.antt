use Rattle.std.proofs.Common.{◌≡◌, ◌++◌, take}
use Rattle.std.specs.List.{flat_map}
use Rattle.cmap_writer.specs.Subtables.{group_bytes}
use Rattle.cmap_writer.proofs.groups.push_groups.Given as goal

abbrev pub invariant-loop-run : goal.invariant-loop-run
invariant-loop-run l = l.table.items ≡ l.fn.table.items
    ++ flat_map group_bytes (take l.run-index l.runs)
