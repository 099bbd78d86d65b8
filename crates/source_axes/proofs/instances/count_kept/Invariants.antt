use Rattle.std.proofs.Common.{◌≡◌, ◌≤◌, length, take}
use Rattle.std.specs.List.{filter}
use Rattle.source_axes.specs.InstanceReading.{is_kept}
use Rattle.source_axes.proofs.instances.count_kept.Given as goal

abbrev pub invariant-loop-item : goal.invariant-loop-item
invariant-loop-item l =
    (l.count ≡ length (filter (is_kept l.tree) (take l.item-index l.items)))
    × (l.count ≤ l.item-index)
