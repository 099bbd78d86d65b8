use Rattle.std.proofs.Common.{◌≡◌, map, take}
use Rattle.font_ir.proofs.locations.locations_of.Given as goal

abbrev pub invariant-loop-master : goal.invariant-loop-master
invariant-loop-master l = l.places.items
    ≡ map (λ master. master.location) (take l.master-index l.masters)
