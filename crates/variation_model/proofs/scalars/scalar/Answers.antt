use Rattle.std.proofs.Common.{◌<◌, ◌≤◌, arith, length, refl, ap}
use Rattle.std.proofs.lemmas.List.{drop_all}
use Rattle.variation_model.specs.Scalar.{scalar_of}
use Rattle.variation_model.proofs.ScalarLemmas.{one_IsScalar, scalar_fits, scalar_more}
use Rattle.variation_model.proofs.scalars.scalar.Goals as goal

pub loop-i-init : goal.loop-i-init
loop-i-init c = (one_IsScalar, refl)

pub mul-product-requires : goal.mul-product-requires
mul-product-requires c =
    scalar_fits c.as_slice-sides.result.now c.args.at.now c.loop-i.i c.loop-i.product.0
    c.axis_scalar.result.0 c.loop-i.invariant.0 c.axis_scalar.ensures

pub loop-i-preserved : goal.loop-i-preserved
loop-i-preserved c =
    let within : c.loop-i.i < length c.args.at.now
    = omega (arith, ap length c.as_slice-sides.ensures) in
    scalar_more c.as_slice-sides.result.now c.args.at.now c.loop-i.i c.loop-i.product.0
    c.axis_scalar.result.0 c.mul-product.result.0
    (scalar_of c.as_slice-sides.result.now c.args.at.now) c.loop-i-test.true within
    c.loop-i.invariant c.axis_scalar.ensures c.mul-product.ensures

pub returns : goal.returns
returns c =
    let past : length c.as_slice-sides.result.now ≤ c.loop-i.i = omega arith in
    record {
      value = rw (← c.as_slice-sides.ensures)
          (rw (drop_all c.loop-i.i c.as_slice-sides.result.now past) at c.loop-i.invariant.1);
      low = c.loop-i.invariant.0.low;
      high = c.loop-i.invariant.0.high;
    }
