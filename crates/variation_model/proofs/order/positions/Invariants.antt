use Rattle.std.proofs.Common.{◌≡◌, map}
use Rattle.std.specs.List.{range_with_len}
use Rattle.variation_model.specs.Places as spec
use Rattle.variation_model.proofs.order.positions.Given as goal

abbrev pub invariant-loop-k : goal.invariant-loop-k
invariant-loop-k l = l.order.items ≡ map (spec.of_rank l.ranks.items) (range_with_len 0 l.k)
