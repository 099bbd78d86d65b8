use Rattle.std.proofs.Common.{◌≡◌, map, take}
use Rattle.metrics_tables.specs.Changes.{in_16_16}
use Rattle.metrics_tables.proofs.changes.widths_of.Given as goal

abbrev pub invariant-loop-width : goal.invariant-loop-width
invariant-loop-width l = l.widths.items ≡ map in_16_16 (take l.width-index l.numbers)
