use Rattle.std.proofs.Common.{◌≡◌, ℤ, pos, ◌-ℤ◌, ◌*ℤ◌, ◌<ℤ◌, ◌≤ℤ◌, sym, ap, subst, ◌∙◌, arith}
use Rattle.std.proofs.Common.{rules, to_z, of_z, to_z-of_z, FitsSigned}
use Rattle.std.specs.Int.{w16, w64}
use lib.Signed.{lt_z}
use Rattle.std.proofs.lemmas.Int.{ints}
use Rattle.delta_infer.proofs.Means.{too_low, too_high, by_rest, small_fits, inner_difference}
use Rattle.delta_infer.proofs.inferred.is_quotient.Goals as goal

pub returns-then-rest-lt0 : goal.returns-then-rest-lt0
returns-then-rest-lt0 c =
    let n : ℤ = c.args.numerator in
    let rest : (n -ℤ c.product.result) <ℤ pos 0
    = omega (arith, ints, c.product.ensures.small, c.requires.small) in
    let narrow : FitsSigned w16 c.args.delta = search rules in
    let wide : FitsSigned w64 c.args.width = search rules in
    let value : c.product.result ≡ (c.args.delta *ℤ c.args.width)
    = rw (to_z-of_z narrow, to_z-of_z wide) at c.product.ensures.value in
    let P : ℤ → Type 0 = λ t. (n -ℤ t) <ℤ pos 0 in
    sym (too_low n c.args.width c.args.delta c.requires.positive (subst P value rest))

pub returns-then-rest-ge-ONE : goal.returns-then-rest-ge-ONE
returns-then-rest-ge-ONE c =
    let n : ℤ = c.args.numerator in
    let rest : pos 65536 ≤ℤ (n -ℤ c.product.result)
    = omega (arith, ints, c.product.ensures.small, c.requires.small) in
    let narrow : FitsSigned w16 c.args.delta = search rules in
    let wide : FitsSigned w64 c.args.width = search rules in
    let value : c.product.result ≡ (c.args.delta *ℤ c.args.width)
    = rw (to_z-of_z narrow, to_z-of_z wide) at c.product.ensures.value in
    let P : ℤ → Type 0 = λ t. pos 65536 ≤ℤ (n -ℤ t) in
    sym (too_high n c.args.width c.args.delta c.requires.positive c.requires.narrow
    (subst P value rest))

pub returns-else-rest-ge-ONE : goal.returns-else-rest-ge-ONE
returns-else-rest-ge-ONE c =
    let n : ℤ = c.args.numerator in
    let w : ℤ = c.args.width in
    let r : ℤ = c.product.result in
    let low : pos 0 ≤ℤ (n -ℤ r) = omega (arith, ints, c.product.ensures.small, c.requires.small) in
    let high : (n -ℤ r) <ℤ pos 65536 = omega
    (arith, ints, c.product.ensures.small, c.requires.small) in
    let narrow : FitsSigned w16 c.args.delta = search rules in
    let wide : FitsSigned w64 w = search rules in
    let value : r ≡ (c.args.delta *ℤ w) = rw (to_z-of_z narrow, to_z-of_z wide) at
    c.product.ensures.value in
    let P : ℤ → Type 0 = λ t. pos 0 ≤ℤ (n -ℤ t) in
    let inner : to_z w64 (of_z w64 (to_z w64 (of_z w64 n) -ℤ to_z w64 (of_z w64 r)))
    ≡ (n -ℤ r) = inner_difference n r c.requires.small c.product.ensures.small in
    ap (λ z. lt_z (to_z w64 (of_z w64 (z *ℤ pos 65536))) (to_z w64 (of_z w64 w))) inner
    ∙ ap (λ z. lt_z z (to_z w64 (of_z w64 w))) (to_z-of_z (small_fits (n -ℤ r) low high))
    ∙ ap (λ z. lt_z ((n -ℤ r) *ℤ pos 65536) z) (to_z-of_z wide)
    ∙ ap (λ t. lt_z ((n -ℤ t) *ℤ pos 65536) w) value
    ∙ by_rest n w c.args.delta c.requires.positive (subst P value low)
