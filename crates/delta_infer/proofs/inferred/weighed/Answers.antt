use Rattle.std.proofs.Common.{◌≡◌, ℤ, pos, ◌+ℤ◌, ◌-ℤ◌, ◌*ℤ◌, sym, ap, ◌∙◌, arith, rules, to_z, of_z}
use Rattle.std.proofs.Common.{to_z-of_z, FitsSigned}
use Rattle.std.specs.Int.{w16, w32, w64}
use Rattle.std.proofs.lemmas.Int.{ints}
use Rattle.delta_infer.proofs.inferred.weighed.Goals as goal

pub overflow_add-result : goal.overflow_add-result
overflow_add-result c = omega (arith, ints, c.product.ensures.small, c.product-2.ensures.small)

pub returns-clause-value : goal.returns-clause-value
returns-clause-value c =
    let sum : to_z w64 (of_z w64 (to_z w64 (of_z w64 c.product.result) +ℤ to_z w64
    (of_z w64 c.product-2.result))) ≡ (c.product.result +ℤ c.product-2.result)
    = omega (arith, ints, c.product.ensures.small, c.product-2.ensures.small) in
    let low : FitsSigned w16 c.args.low.delta = search rules in
    let high : FitsSigned w16 c.args.high.delta = search rules in
    let low_at : FitsSigned w32 c.args.low.at = search rules in
    let high_at : FitsSigned w32 c.args.high.at = search rules in
    let at : FitsSigned w32 c.args.at = search rules in
    let gap : FitsSigned w64 c.gap.result = search rules in
    let other : FitsSigned w64 c.gap-2.result = search rules in
    let first : c.product.result ≡ (c.args.low.delta *ℤ c.gap.result)
    = rw (to_z-of_z low, to_z-of_z gap) at c.product.ensures.value in
    let second : c.product-2.result ≡ (c.args.high.delta *ℤ c.gap-2.result)
    = rw (to_z-of_z high, to_z-of_z other) at c.product-2.ensures.value in
    let to_high : c.gap.result ≡ (c.args.high.at -ℤ c.args.at)
    = rw (to_z-of_z high_at, to_z-of_z at) at c.gap.ensures.value in
    let to_low : c.gap-2.result ≡ (c.args.at -ℤ c.args.low.at)
    = rw (to_z-of_z at, to_z-of_z low_at) at c.gap-2.ensures.value in
    sum
    ∙ ap (λ z. z +ℤ c.product-2.result) (first ∙ ap (λ z. c.args.low.delta *ℤ z) to_high)
    ∙ ap (λ z. (c.args.low.delta *ℤ (c.args.high.at -ℤ c.args.at)) +ℤ z)
    (second ∙ ap (λ z. c.args.high.delta *ℤ z) to_low)
