use Rattle.std.proofs.Common.{◌≡◌, ◌++◌, map}
use Rattle.variation_model.specs.Places.{place_at}
use Rattle.variation_model.specs.Parts.{rows_from}
use Rattle.variation_model.proofs.RowLemmas.{rows_to_come}
use Rattle.variation_model.proofs.model.scalars_in_order.Given as goal

abbrev pub invariant-loop-k : goal.invariant-loop-k
invariant-loop-k l =
    l.rows.items ++ rows_to_come l.regions l.places l.order l.k
    ≡ rows_from l.regions 0 (map (place_at l.places) l.order)
