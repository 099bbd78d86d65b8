use Rattle.std.proofs.Common.{◌≡◌, map, take}
use Rattle.std.specs.Prelude.{count_by}
use Rattle.variation_model.specs.Places as spec
use Rattle.variation_model.proofs.order.ranks_among.Given as goal

abbrev pub invariant-loop-key : goal.invariant-loop-key
invariant-loop-key l =
    l.ranks.items ≡ map (λ key. count_by (λ other. spec.is_less_key other.items key.items) l.keys)
    (take l.key-index l.keys)
