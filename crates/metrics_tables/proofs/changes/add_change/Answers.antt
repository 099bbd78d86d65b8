use Rattle.std.proofs.Common.{ap, of_z, to_z-of_z}
use Rattle.std.specs.Int.{w16}
use Rattle.metrics_tables.proofs.RegionLemmas.{told_one}
use Rattle.metrics_tables.proofs.changes.add_change.Goals as goal

pub returns-in_ok-push-clause-changes : goal.returns-in_ok-push-clause-changes
returns-in_ok-push-clause-changes c = told_one c.args.index.now.regions.items
    c.add.new.self.regions.items c.args.changes.now.items c.push.new.self.items _
    c.args.region.now c.args.delta (λ e. c.if-delta-ne0.true (ap (of_z w16) e))
    c.in_ok-place.ensures.regions c.in_ok-place.ensures.place (to_z-of_z c.ranges.delta)
    c.in_ok-push.ensures.items
