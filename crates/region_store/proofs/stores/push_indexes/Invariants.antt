use Rattle.std.proofs.Common.{◌≡◌, ◌++◌}
use Rattle.std.specs.List.{flat_map, range_with_len}
use Rattle.table_bytes.specs.DataTypes.{uint16}
use Rattle.region_store.proofs.stores.push_indexes.Given as goal

abbrev pub invariant-loop-index : goal.invariant-loop-index
invariant-loop-index l = l.bytes.items ≡ l.fn.bytes.items
    ++ flat_map uint16 (range_with_len 0 l.index)
