use Rattle.std.proofs.Common.{◌≡◌, map, take}
use Rattle.style_tables.specs.Metrics.{fixed_at}
use Rattle.style_tables.proofs.metrics.numbers_of.Given as goal

abbrev pub invariant-loop-master : goal.invariant-loop-master
invariant-loop-master l = l.numbers.items
    ≡ map (fixed_at l.metric) (take l.master-index l.masters)
