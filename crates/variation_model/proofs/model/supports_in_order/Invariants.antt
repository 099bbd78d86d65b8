use Rattle.std.proofs.Common.{◌≡◌, ◌++◌, [], map}
use Rattle.variation_model.specs.Places.{place_at}
use Rattle.variation_model.specs.Supports.{supports_after}
use Rattle.variation_model.proofs.SupportSteps.{to_come}
use Rattle.variation_model.proofs.model.supports_in_order.Given as goal

abbrev pub invariant-loop-i : goal.invariant-loop-i
invariant-loop-i l = l.supports.items ++ to_come l.places l.order l.i
    ≡ supports_after l.places [] (map (place_at l.places) l.order)
