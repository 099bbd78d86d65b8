use Rattle.std.proofs.Common.{◌≡◌, ◌++◌, length, take}
use Rattle.std.specs.List.{flat_map}
use Rattle.table_bytes.specs.DataTypes.{uint16}
use Rattle.region_store.specs.Stores.{variation_region}
use Rattle.region_store.proofs.stores.region_list.Given as goal

abbrev pub invariant-loop-region : goal.invariant-loop-region
invariant-loop-region l =
    l.list.items ≡ uint16 l.axes ++ uint16 (length l.regions)
    ++ flat_map variation_region (take l.region-index l.regions)
