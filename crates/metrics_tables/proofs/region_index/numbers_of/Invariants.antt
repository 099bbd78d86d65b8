use Rattle.std.proofs.Common.{◌≡◌, take}
use Rattle.metrics_tables.specs.Changes.{numbers_of}
use Rattle.metrics_tables.proofs.region_index.numbers_of.Given as goal

abbrev pub invariant-loop-side : goal.invariant-loop-side
invariant-loop-side l =
    l.numbers.items ≡ numbers_of (record { sides = take l.side-index l.sides })
