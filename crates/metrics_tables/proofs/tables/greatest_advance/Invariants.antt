use Rattle.std.proofs.Common.{◌≡◌, max, drop}
use Rattle.metrics_tables.specs.Comparisons.{greatest_count}
use Rattle.metrics_tables.proofs.tables.greatest_advance.Given as goal

abbrev pub invariant-loop-advance : goal.invariant-loop-advance
invariant-loop-advance l = max l.so_far (greatest_count (drop l.advance-index l.advances))
    ≡ greatest_count l.advances
