use Rattle.std.proofs.Common.{◌≡◌, map, take}
use Rattle.variation_model.specs.Places as spec
use Rattle.variation_model.proofs.order.keys.Given as goal

abbrev pub invariant-loop-place : goal.invariant-loop-place
invariant-loop-place l = map (λ key. key.items) l.keys.items
    ≡ map (spec.key l.places) (take l.place-index l.places)
