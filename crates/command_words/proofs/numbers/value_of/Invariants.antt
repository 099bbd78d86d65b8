-- the number is what the digits so far spell, cut
use Rattle.std.proofs.Common.{◌≡◌, ◌+◌, ◌-◌, ◌*◌, min, fold, take}
use Rattle.command_words.proofs.numbers.value_of.Given as goal

abbrev pub invariant-loop-digit : goal.invariant-loop-digit
invariant-loop-digit l = l.value ≡ min (fold (λ n d. 10 * n + (d - 48)) 0
    (take l.digit-index l.digits)) 4294967296
