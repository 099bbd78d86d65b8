use Rattle.std.proofs.Common.{◌≡◌, ◌<◌, ◌≤◌, ◌+ℤ◌, ◌*ℤ◌, ap, ◌∙◌, pos, get_or, length, arith, rules}
use Rattle.std.proofs.Common.{FitsSigned, to_z, to_z-of_z}
use Rattle.std.specs.Prelude.{unsigned_abs}
use Rattle.std.specs.Int.{w16, w64}
use Rattle.variation_model.proofs.RowLemmas.{WeighsTo-all, WeighsTo-more, no_scalar, times_within}
use Rattle.variation_model.proofs.ValueLemmas.{sum_fits}
use Rattle.variation_model.proofs.model.weighted.Goals as goal

pub overflow_add-sum : goal.overflow_add-sum
overflow_add-sum c =
    let delta = get_or c.args.deltas.now c.loop-i.i (pos 0) in
    let scalar = get_or c.args.row.now c.loop-i.i no_scalar in
    let fits : FitsSigned w16 delta = search rules in
    let within : c.loop-i.i < length c.args.row.now = omega arith in
    let is_term : c.times-sum.result ≡ scalar.0 *ℤ delta =
    c.times-sum.ensures ∙ ap (λ z. scalar.0 *ℤ z) (to_z-of_z fits) in
    let small : unsigned_abs c.times-sum.result ≤ 2147483648
    = rw is_term (times_within scalar.0 delta (c.requires.small c.loop-i.i no_scalar within)
    fits) in
    let wide : FitsSigned w64 c.times-sum.result = search rules in
    rw (to_z-of_z wide) (sum_fits (to_z w64 c.loop-i.sum-bits) c.times-sum.result c.loop-i.i
    c.loop-i.invariant.within small (omega arith))

pub loop-i-preserved : goal.loop-i-preserved
loop-i-preserved c =
    let delta = get_or c.args.deltas.now c.loop-i.i (pos 0) in
    let scalar = get_or c.args.row.now c.loop-i.i no_scalar in
    let fits : FitsSigned w16 delta = search rules in
    let within : c.loop-i.i < length c.args.row.now = omega arith in
    let is_term : c.times-sum.result ≡ scalar.0 *ℤ delta =
    c.times-sum.ensures ∙ ap (λ z. scalar.0 *ℤ z) (to_z-of_z fits) in
    let small : unsigned_abs c.times-sum.result ≤ 2147483648
    = rw is_term (times_within scalar.0 delta (c.requires.small c.loop-i.i no_scalar within)
    fits) in
    let whole : FitsSigned w64 (to_z w64 c.loop-i.sum-bits +ℤ c.times-sum.result) =
    sum_fits (to_z w64 c.loop-i.sum-bits) c.times-sum.result c.loop-i.i c.loop-i.invariant.within
    small (omega arith) in
    let wide : FitsSigned w64 c.times-sum.result = search rules in
    rw (to_z-of_z wide, to_z-of_z whole) (WeighsTo-more c.args.row.now c.args.deltas.now c.loop-i.i
    (to_z w64 c.loop-i.sum-bits) c.times-sum.result within c.loop-i-test.true c.loop-i.invariant
    small is_term)

pub returns : goal.returns
returns c =
    let past : length c.args.deltas.now ≤ c.loop-i.i = omega arith in
    record {
      value = WeighsTo-all c.args.row.now c.args.deltas.now c.loop-i.i (to_z w64 c.loop-i.sum-bits)
          past c.loop-i.invariant;
      within = omega (arith, c.loop-i.invariant.within);
    }
