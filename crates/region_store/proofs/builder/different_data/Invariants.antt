use Rattle.std.proofs.Common.{◌≡◌, ◌++◌, length, take}
use Rattle.std.specs.List.{flat_map}
use Rattle.region_store.specs.Stores.{item_variation_data_head, delta_set}
use Rattle.region_store.proofs.builder.different_data.Given as goal

abbrev pub invariant-loop-row : goal.invariant-loop-row
invariant-loop-row l =
    l.bytes.items ≡ item_variation_data_head (length l.rows) l.regions
    ++ flat_map (λ row. delta_set row.items) (take l.row-index l.rows)
