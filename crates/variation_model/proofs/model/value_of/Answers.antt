use Rattle.std.proofs.Common.{◌≡◌, ◌<◌, ◌≤◌, ◌+ℤ◌, ◌*ℤ◌, ap, ◌∙◌, pos, get_or, length, arith, rules}
use Rattle.std.proofs.Common.{FitsSigned, to_z, to_z-of_z}
use Rattle.std.specs.Prelude.{unsigned_abs}
use Rattle.std.specs.Int.{w16, w64}
use Rattle.variation_model.specs.Scalar.{scalar_of}
use Rattle.variation_model.proofs.ValueLemmas.{SumsTo-more, SumsTo-all, sum_fits, term_within}
use Rattle.variation_model.proofs.model.value_of.Goals as goal

pub overflow_add-sum : goal.overflow_add-sum
overflow_add-sum c =
    let delta = get_or c.args.deltas.now c.loop-i.i (pos 0) in
    let fits : FitsSigned w16 delta = search rules in
    let is_term : c.term-sum.result ≡ scalar_of c.index-regions-i.result.sides c.args.place.now *ℤ
    delta =
    c.term-sum.ensures ∙ ap (λ z. scalar_of c.index-regions-i.result.sides c.args.place.now *ℤ z)
    (to_z-of_z fits) in
    let small : unsigned_abs c.term-sum.result ≤ 2147483648 =
    rw is_term (term_within c.index-regions-i.result.sides c.args.place.now delta fits) in
    let wide : FitsSigned w64 c.term-sum.result = search rules in
    rw (to_z-of_z wide) (sum_fits (to_z w64 c.loop-i.sum-bits) c.term-sum.result c.loop-i.i
    c.loop-i.invariant.within small (omega arith))

pub loop-i-preserved : goal.loop-i-preserved
loop-i-preserved c =
    let delta = get_or c.args.deltas.now c.loop-i.i (pos 0) in
    let fits : FitsSigned w16 delta = search rules in
    let is_term : c.term-sum.result ≡ scalar_of c.index-regions-i.result.sides c.args.place.now *ℤ
    delta =
    c.term-sum.ensures ∙ ap (λ z. scalar_of c.index-regions-i.result.sides c.args.place.now *ℤ z)
    (to_z-of_z fits) in
    let small : unsigned_abs c.term-sum.result ≤ 2147483648 =
    rw is_term (term_within c.index-regions-i.result.sides c.args.place.now delta fits) in
    let whole : FitsSigned w64 (to_z w64 c.loop-i.sum-bits +ℤ c.term-sum.result) =
    sum_fits (to_z w64 c.loop-i.sum-bits) c.term-sum.result c.loop-i.i c.loop-i.invariant.within
    small (omega arith) in
    let within : c.loop-i.i < length c.args.regions.now = omega arith in
    let wide : FitsSigned w64 c.term-sum.result = search rules in
    rw (to_z-of_z wide, to_z-of_z whole) (SumsTo-more c.args.regions.now c.args.deltas.now
    c.args.place.now c.loop-i.i c.index-regions-i.result (to_z w64 c.loop-i.sum-bits)
    c.term-sum.result within c.loop-i-test.true c.loop-i.invariant c.index-regions-i.is fits
    is_term)

pub returns : goal.returns
returns c =
    let past : length c.args.deltas.now ≤ c.loop-i.i = omega arith in
    record {
      value = SumsTo-all c.args.regions.now c.args.deltas.now c.args.place.now c.loop-i.i
          (to_z w64 c.loop-i.sum-bits) past c.loop-i.invariant;
      within = omega (arith, c.loop-i.invariant.within);
    }
