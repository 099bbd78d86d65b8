use Rattle.std.proofs.Common.{arith, FitsSigned, ◌*ℤ◌, to_z-of_z}
use Rattle.std.specs.Int.{w64}
use Rattle.variation_model.specs.Scalar.{scalar_of}
use Rattle.variation_model.proofs.ValueLemmas.{term_fits}
use Rattle.variation_model.proofs.model.term.Goals as goal

pub returns : goal.returns
returns c =
    let fits : FitsSigned w64 (scalar_of c.args.region.now.sides c.args.place.now *ℤ c.args.delta) =
    term_fits c.args.region.now.sides c.args.place.now c.args.delta c.ranges.delta in
    grind (arith, to_z-of_z)
