-- the degrees are what the digits so far spell, without full turns
use Rattle.std.proofs.Common.{◌≡◌, ◌+◌, ◌-◌, ◌*◌, ◌%◌, fold, take}
use Rattle.layer_shapes.proofs.placing.degrees_in.Given as goal

abbrev pub invariant-loop-digit : goal.invariant-loop-digit
invariant-loop-digit l =
    l.degrees ≡ fold (λ n d. 10 * n + (d - 48)) 0 (take l.digit-index l.digits) % 360
