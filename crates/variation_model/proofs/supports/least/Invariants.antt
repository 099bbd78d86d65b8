use Rattle.std.proofs.Common.{◌≡◌, take}
use Rattle.variation_model.specs.Supports as spec
use Rattle.variation_model.proofs.supports.least.Given as goal

abbrev pub invariant-loop-place : goal.invariant-loop-place
invariant-loop-place l = l.low ≡ spec.least (take l.place-index l.places) l.axis
