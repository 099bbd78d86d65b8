use Rattle.std.proofs.Common.{◌≡◌, ◌++◌, take}
use Rattle.std.specs.List.{flat_map}
use Rattle.region_store.specs.Stores.{region_axis_coordinates}
use Rattle.region_store.proofs.stores.push_region.Given as goal

abbrev pub invariant-loop-side : goal.invariant-loop-side
invariant-loop-side l = l.bytes.items ≡ l.fn.bytes.items
    ++ flat_map region_axis_coordinates (take l.side-index l.sides)
