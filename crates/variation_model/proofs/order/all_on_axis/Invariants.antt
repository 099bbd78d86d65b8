use Rattle.std.proofs.Common.{◌≡◌, take}
use Rattle.variation_model.specs.Places as spec
use Rattle.variation_model.proofs.order.all_on_axis.Given as goal

abbrev pub invariant-loop-place : goal.invariant-loop-place
invariant-loop-place l = l.on_axis.items ≡ spec.all_on_axis (take l.place-index l.places)
