use Rattle.std.proofs.Common.{◌≡◌, ◌++◌, take}
use Rattle.std.specs.List.{flat_map}
use Rattle.style_tables.specs.Stat.{axis_value}
use Rattle.style_tables.proofs.style_attributes.push_values.Given as goal

abbrev pub invariant-loop-value : goal.invariant-loop-value
invariant-loop-value l = l.table.items ≡ l.fn.table.items
    ++ flat_map axis_value (take l.value-index l.values)
