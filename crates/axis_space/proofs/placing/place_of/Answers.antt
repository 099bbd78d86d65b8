use Rattle.std.proofs.Common.{◌≡◌, ◌∙◌, List, IfOk, length, sym, subst, arith}
use Rattle.fixed_math.specs.declared.F2Dot14.{F2Dot14}
use Rattle.axis_space.specs.Scales.{AreOnScales}
use Rattle.axis_space.proofs.ScaleLemmas.{on_scales, place_is}
use Rattle.axis_space.proofs.placing.place_of.Goals as goal

pub place_on-requires : goal.place_on-requires
place_on-requires c =
    subst (λ s. AreOnScales s c.args.design.now)
    (sym (c.as_slice.ensures.value ∙ c.in_ok-scales.ensures))
    (on_scales c.args.masters.now c.args.origin _ c.args.design.now c.requires.origin
    (omega arith) c.requires.within)

pub returns : goal.returns
returns c =
    subst (λ (p : List F2Dot14). IfOk c.place_on.result (λ place. place ≡ p))
    (place_is c.args.masters.now c.args.origin (length c.args.design.now) c.args.design.now _
    (c.as_slice.ensures.value ∙ c.in_ok-scales.ensures)) c.place_on.ensures
