use Rattle.std.proofs.Common.{◌≡◌, take}
use Rattle.font_ir.proofs.locations.copied_locations.Given as goal

abbrev pub invariant-loop-location : goal.invariant-loop-location
invariant-loop-location l = l.copies.items ≡ take l.location-index l.locations
