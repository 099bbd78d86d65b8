use Rattle.std.proofs.Common.{[], map}
use Rattle.variation_model.specs.Deltas.{value_at_place}
use Rattle.variation_model.specs.Parts.{deltas_by}
use Rattle.variation_model.proofs.DeltaLemmas.{AreDeltas}
use Rattle.variation_model.proofs.model.deltas_over.Given as goal

abbrev pub invariant-loop-k : goal.invariant-loop-k
invariant-loop-k l =
    AreDeltas l.rows (map (value_at_place l.values) l.order)
    (deltas_by l.rows [] (map (value_at_place l.values) l.order)) l.k l.deltas.items
