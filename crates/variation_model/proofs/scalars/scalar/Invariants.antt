use Rattle.std.proofs.Common.{◌≡◌, drop}
use Rattle.variation_model.specs.Scalar.{scalar_from, scalar_of}
use Rattle.variation_model.proofs.ScalarLemmas.{IsScalar}
use Rattle.variation_model.proofs.scalars.scalar.Given as goal

abbrev pub invariant-loop-i : goal.invariant-loop-i
invariant-loop-i l = IsScalar l.product.0
    × (scalar_from l.product.0 (drop l.i l.sides) (drop l.i l.at) ≡ scalar_of l.sides l.at)
