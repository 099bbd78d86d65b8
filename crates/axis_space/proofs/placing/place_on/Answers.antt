use Rattle.std.proofs.Common.{ap, ℤ}
use Rattle.fixed_math.specs.declared.F2Dot14.{F2Dot14}
use Rattle.font_ir.specs.Coordinates.{coordinate_at}
use Rattle.axis_space.specs.Scales.{normal_by, scale_at}
use Rattle.axis_space.proofs.ScaleLemmas.{one_more}
use Rattle.axis_space.proofs.placing.place_on.Goals as goal

pub loop-axis-preserved : goal.loop-axis-preserved
loop-axis-preserved c =
    let made : ℤ → F2Dot14 = λ z. record { 0 = z } in
    one_more
    (λ i. normal_by (scale_at c.args.scales.now i) (coordinate_at c.args.design.now i))
    c.loop-axis.axis _ _ c.normalise.result c.loop-axis.invariant
    (ap made c.normalise.ensures.value) c.in_ok-push.ensures.items
