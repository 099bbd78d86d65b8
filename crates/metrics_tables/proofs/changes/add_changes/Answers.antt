use Rattle.std.proofs.Common.{◌≡◌, ◌∙◌, ◌<◌, length, arith, pos, get_or, to_z, of_z}
use Rattle.std.proofs.lemmas.Int.{ints}
use Rattle.std.specs.Int.{w16}
use Rattle.metrics_tables.proofs.RegionLemmas.{regions_step, told_step}
use Rattle.metrics_tables.proofs.changes.add_changes.Goals as goal

pub loop-k-preserved : goal.loop-k-preserved
loop-k-preserved c =
    let supports = c.args.supports.now in
    let deltas = c.args.deltas.now in
    let k = c.loop-k.k in
    let e = c.in_ok-add_change.ensures in
    let there : k < length deltas = omega (arith, c.loop-k-test.true, c.requires.one_each) in
    let is : to_z w16 (of_z w16 (get_or deltas k (pos 0))) ≡ get_or deltas k (pos 0) = omega (arith, ints) in
    record {
      index = e.index;
      axes = e.axes ∙ c.loop-k.invariant.axes;
      regions = regions_step supports deltas k _ _ c.loop-k-test.true there
          c.index-supports-k.is is c.args.index.now.regions.items _ _ e.regions
          c.loop-k.invariant.regions;
      told = told_step supports deltas k _ _ c.loop-k-test.true there c.index-supports-k.is is
          _ _ (e.changes _ c.loop-k.invariant.told);
    }
