use Rattle.variation_model.proofs.RowLemmas.{WeighsTo}
use Rattle.variation_model.proofs.model.weighted.Given as goal

abbrev pub invariant-loop-i : goal.invariant-loop-i
invariant-loop-i l = WeighsTo l.row l.deltas l.i l.sum
