use Rattle.std.proofs.Common.{arith}
use Rattle.std.proofs.lemmas.Grind.{common_steps}
use Rattle.font_ir.specs.AxisMaps.{pairs_of}
use Rattle.font_ir.specs.declared.header.CoordinateScale.TheVariants.{Design, User}
use Rattle.axis_space.proofs.CoordinateLemmas.{normal_from, pairs_more}
use Rattle.axis_space.proofs.pairs.all_pairs.Goals as goal

pub loop-master-preserved : goal.loop-master-preserved
loop-master-preserved c =
    let user = normal_from User c.args.origin c.args.axis c.args.masters.now c.master-item.result
    c.normal-user.result c.scale_of-users.result.least.0 c.scale_of-users.result.default.0
    c.scale_of-users.result.greatest.0 c.scale_of-users.ensures.default
    c.scale_of-users.ensures.least c.scale_of-users.ensures.greatest c.normal-user.ensures in
    let design = normal_from Design c.args.origin c.args.axis c.args.masters.now
    c.master-item.result c.normal-design.result c.scale_of-designs.result.least.0
    c.scale_of-designs.result.default.0 c.scale_of-designs.result.greatest.0
    c.scale_of-designs.ensures.default c.scale_of-designs.ensures.least
    c.scale_of-designs.ensures.greatest c.normal-design.ensures in
    pairs_more c.args.masters.now c.args.origin c.args.axis c.loop-master.master-index
    c.master-item.result c.normal-user.result c.normal-design.result c.loop-master.pairs.items
    c.push.new.self.items c.loop-master-test.true c.master-item.is user design
    c.loop-master.invariant c.in_ok-push.ensures.items

pub returns : goal.returns
unfolding pairs_of
returns c = grind (arith, common_steps)
