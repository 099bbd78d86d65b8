use Rattle.std.proofs.Common.{◌≡◌, take}
use Rattle.metrics_tables.specs.Changes.{changes_over, with_changes}
use Rattle.metrics_tables.specs.RegionIndexes.{AreTold, IsIndexed}
use Rattle.metrics_tables.proofs.changes.add_changes.Given as goal

abbrev pub invariant-loop-k : goal.invariant-loop-k
invariant-loop-k l = record {
  index : IsIndexed l.index;
  axes : l.index.axes ≡ l.initial.index.axes;
  regions : l.index.regions.items ≡ with_changes l.initial.index.regions.items
      (changes_over (take l.k l.supports) (take l.k l.deltas));
  told : AreTold l.index.regions.items l.changes.items
      (changes_over (take l.k l.supports) (take l.k l.deltas));
}
