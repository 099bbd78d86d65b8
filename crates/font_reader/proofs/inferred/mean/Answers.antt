use Rattle.std.proofs.Common.{◌≡◌, ℤ, ◌+ℤ◌, ◌-ℤ◌, ◌*ℤ◌, ◌∙◌, arith, rules}
use Rattle.std.proofs.Common.{to_z, of_z, FitsSigned}
use Rattle.std.specs.Int.{w16, w32, w64}
use Rattle.std.proofs.lemmas.Int.{ints, to_z-of_z}
use Rattle.font_reader.proofs.Means.{mean_small}
use Rattle.font_reader.proofs.inferred.mean.Goals as goal

pub over-requires-clause-small : goal.over-requires-clause-small
over-requires-clause-small c =
    let d : ℤ = c.args.low.delta in
    let e : ℤ = c.args.high.delta in
    let a : ℤ = c.args.low.at in
    let b : ℤ = c.args.high.at in
    let v : ℤ = c.args.at in
    let df : FitsSigned w16 c.args.low.delta = search rules in
    let ef : FitsSigned w16 c.args.high.delta = search rules in
    let vf : FitsSigned w32 c.args.at = search rules in
    let same : to_z w32 (of_z w32 c.args.at) ≡ c.args.at = to_z-of_z w32 c.args.at vf in
    let lf : FitsSigned w32 c.args.low.at = search rules in
    let hf : FitsSigned w32 c.args.high.at = search rules in
    let low_same : to_z w32 (of_z w32 c.args.low.at) ≡ c.args.low.at
    = to_z-of_z w32 c.args.low.at lf in
    let high_same : to_z w32 (of_z w32 c.args.high.at) ≡ c.args.high.at
    = to_z-of_z w32 c.args.high.at hf in
    let above = c.requires.above in
    let below = c.requires.below in
    let small = mean_small d e (v -ℤ a) (b -ℤ v) (b -ℤ a) (omega (arith, ints))
    (omega (arith, ints)) (omega (arith, ints)) (omega (arith, ints)) (omega (arith, ints))
    (omega (arith, ints)) (omega (arith, ints)) in
    let sum_small = c.weighed.ensures.small in
    let sum_fits : FitsSigned w64 c.weighed.result = omega (arith, ints) in
    let gap_small = c.gap.ensures.small in
    let gap_fits : FitsSigned w64 c.gap.result = omega (arith, ints) in
    let sum : to_z w64 (of_z w64 c.weighed.result)
    ≡ ((d *ℤ (b -ℤ v)) +ℤ (e *ℤ (v -ℤ a)))
    = to_z-of_z w64 c.weighed.result sum_fits ∙ (rw same at c.weighed.ensures.value) in
    let width : to_z w64 (of_z w64 c.gap.result) ≡ (b -ℤ a)
    = to_z-of_z w64 c.gap.result gap_fits
    ∙ (rw (high_same, low_same) at c.gap.ensures.value) in
    rw (sum, width) small
