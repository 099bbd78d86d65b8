use Rattle.std.proofs.Common.{◌≡◌, ◌++◌, take}
use Rattle.std.specs.List.{flat_map}
use Rattle.table_bytes.specs.DataTypes.{int16}
use Rattle.region_store.proofs.stores.push_row.Given as goal

abbrev pub invariant-loop-delta : goal.invariant-loop-delta
invariant-loop-delta l = l.bytes.items ≡ l.fn.bytes.items
    ++ flat_map int16 (take l.delta-index l.row)
