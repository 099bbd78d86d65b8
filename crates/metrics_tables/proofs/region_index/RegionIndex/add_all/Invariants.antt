use Rattle.std.proofs.Common.{◌≡◌, drop}
use Rattle.metrics_tables.specs.RegionIndexes.{IsIndexed, with_regions}
use Rattle.metrics_tables.proofs.region_index.RegionIndex.add_all.Given as goal

abbrev pub invariant-loop-region : goal.invariant-loop-region
invariant-loop-region l = record {
  index : IsIndexed l.self;
  axes : l.self.axes ≡ l.initial.self.axes;
  added : with_regions l.self.regions.items (drop l.region-index l.regions)
      ≡ with_regions l.initial.self.regions.items l.regions;
}
