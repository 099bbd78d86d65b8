use Rattle.std.proofs.Common.{◌≡◌, ◌++◌, map, drop}
use Rattle.std.specs.List.{filter}
use Rattle.source_axes.specs.InstanceReading.{is_kept, instance_of}
use Rattle.source_axes.proofs.instances.read_kept.Given as goal

abbrev pub invariant-loop-item : goal.invariant-loop-item
invariant-loop-item l =
    l.instances.items
    ++ map (instance_of l.tree) (filter (is_kept l.tree) (drop l.item-index l.items))
    ≡ map (instance_of l.tree) (filter (is_kept l.tree) l.items)
