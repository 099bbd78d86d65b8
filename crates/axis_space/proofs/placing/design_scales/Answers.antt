use Rattle.axis_space.specs.Scales.{scale_on}
use Rattle.axis_space.proofs.ScaleLemmas.{one_more, scale_is}
use Rattle.axis_space.proofs.placing.design_scales.Goals as goal

pub loop-axis-preserved : goal.loop-axis-preserved
loop-axis-preserved c =
    let s = c.scale_of.ensures in
    one_more (scale_on c.args.masters.now c.args.origin) c.loop-axis.axis _ _ c.scale_of.result
    c.loop-axis.invariant
    (scale_is c.args.masters.now c.args.origin c.loop-axis.axis c.scale_of.result s.default s.least
    s.greatest) c.in_ok-push.ensures.items
