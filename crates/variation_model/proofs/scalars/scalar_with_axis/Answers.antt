use Rattle.std.proofs.Common.{◌≡◌, ap, ◌∙◌}
use Rattle.std.specs.Prelude.{ℤ}
use Rattle.fixed_math.specs.FixedPoint.{product}
use Rattle.variation_model.proofs.ScalarLemmas.{IsScalar, IsScalar-fits, with_axis}
use Rattle.variation_model.proofs.scalars.scalar_with_axis.Goals as goal

pub mul-requires : goal.mul-requires
mul-requires c =
    IsScalar-fits (product c.args.before.0 c.axis_scalar.result.0)
    (with_axis c.args.before.0 c.axis_scalar.result.0 c.args.side c.args.v
    (record { low = c.requires.low; high = c.requires.high }) c.axis_scalar.ensures)

pub returns : goal.returns
returns c =
    let more = with_axis c.args.before.0 c.axis_scalar.result.0 c.args.side c.args.v
    (record { low = c.requires.low; high = c.requires.high }) c.axis_scalar.ensures in
    let low = more.low in
    let high = more.high in
    record {
      value = c.mul.ensures ∙ ap (product c.args.before.0) c.axis_scalar.ensures;
      low = rw c.mul.ensures low;
      high = rw c.mul.ensures high;
    }
