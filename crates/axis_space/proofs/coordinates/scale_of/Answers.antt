use Rattle.axis_space.proofs.CoordinateLemmas.{default_is, default_member, least_is, least_from}
use Rattle.axis_space.proofs.CoordinateLemmas.{least_each, greatest_is, greatest_from}
use Rattle.axis_space.proofs.CoordinateLemmas.{greatest_each}
use Rattle.axis_space.proofs.coordinates.scale_of.Goals as goal

pub returns : goal.returns
returns c =
    let kind = c.args.kind in
    let axis = c.args.axis in
    let masters = c.args.masters.now in
    let from = c.coordinate-default.result.0 in
    let member = default_member kind c.args.origin axis masters c.index-masters-origin.result
    c.coordinate-default.result c.requires.origin c.index-masters-origin.is
    c.coordinate-default.ensures in
    let low = least_is kind axis masters from c.least.result.0 member c.least.ensures in
    let high = greatest_is kind axis masters from c.greatest.result.0 member c.greatest.ensures in
    record {
      default = default_is kind c.args.origin axis masters c.index-masters-origin.result
          c.coordinate-default.result c.requires.origin c.index-masters-origin.is
          c.coordinate-default.ensures;
      least = low;
      greatest = high;
      below_default = least_from kind axis masters from c.least.result.0 member low;
      above_default = greatest_from kind axis masters from c.greatest.result.0 member high;
      below_each = least_each kind axis masters c.least.result.0 low;
      above_each = greatest_each kind axis masters c.greatest.result.0 high;
    }
