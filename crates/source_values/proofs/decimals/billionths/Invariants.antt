-- the number is what the first digits spell, cut
use Rattle.std.proofs.Common.{◌≡◌, min}
use Rattle.source_values.specs.Decimals.{first_digits}
use Rattle.source_values.proofs.decimals.billionths.Given as goal

abbrev pub invariant-loop-place : goal.invariant-loop-place
invariant-loop-place l = l.number ≡ min (first_digits l.digits l.place) 1000000000
