use Rattle.std.proofs.Common.{◌≡◌, take}
use Rattle.variation_model.specs.Supports as spec
use Rattle.variation_model.proofs.supports.greatest.Given as goal

abbrev pub invariant-loop-place : goal.invariant-loop-place
invariant-loop-place l = l.high ≡ spec.greatest (take l.place-index l.places) l.axis
