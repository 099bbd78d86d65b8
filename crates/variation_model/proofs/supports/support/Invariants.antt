use Rattle.std.proofs.Common.{◌≡◌, map, take}
use Rattle.std.specs.List.{fold}
use Rattle.variation_model.specs.Places.{place_at}
use Rattle.variation_model.specs.Supports as spec
use Rattle.variation_model.proofs.supports.support.Given as goal

abbrev pub invariant-loop-i : goal.invariant-loop-i
invariant-loop-i l =
    l.sides.items ≡ fold spec.narrowed (spec.widest_from l.places 0 l.place)
    (take l.i-index (map (place_at l.places) l.earlier))
