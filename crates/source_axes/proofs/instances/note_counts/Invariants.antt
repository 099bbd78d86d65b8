use Rattle.std.proofs.Common.{◌≡◌, drop}
use Rattle.std.specs.Prelude.{flat_map}
use Rattle.std.specs.List.{filter}
use Rattle.refusal_codes.specs.First.{noted}
use Rattle.source_axes.specs.InstanceReading.{is_kept, count_failures}
use Rattle.source_axes.proofs.instances.note_counts.Given as goal

abbrev pub invariant-loop-item : goal.invariant-loop-item
invariant-loop-item l =
    let failures = count_failures l.tree l.axes in
    noted l.first (flat_map failures (filter (is_kept l.tree) (drop l.item-index l.items)))
    ≡ noted l.initial.first (flat_map failures (filter (is_kept l.tree) l.items))
