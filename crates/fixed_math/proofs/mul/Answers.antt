use Rattle.std.proofs.Common.{arith, ◌≡◌}
use Rattle.std.proofs.lemmas.Int.{to_z-of_z}
use Rattle.fixed_math.specs.FixedPoint.{product}
use Rattle.fixed_math.proofs.CastLemmas.{narrowed}
use Rattle.fixed_math.proofs.mul.Goals as goal

pub returns : goal.returns
returns c =
    let e : c.round_half_up.result ≡ product c.args.a.0 c.args.b.0 = grind (arith, to_z-of_z) in
    rw e (narrowed (product c.args.a.0 c.args.b.0) c.requires)
