use Rattle.std.proofs.Common.{◌≡◌, ◌++◌, take}
use Rattle.std.specs.List.{flat_map}
use Rattle.name_tables.specs.Avar.{axis_value_map}
use Rattle.name_tables.proofs.axis_maps.push_pairs.Given as goal

abbrev pub invariant-loop-pair : goal.invariant-loop-pair
invariant-loop-pair l = l.table.items ≡ l.fn.table.items
    ++ flat_map axis_value_map (take l.pair-index l.pairs)
