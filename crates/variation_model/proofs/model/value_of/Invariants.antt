use Rattle.variation_model.proofs.ValueLemmas.{SumsTo}
use Rattle.variation_model.proofs.model.value_of.Given as goal

abbrev pub invariant-loop-i : goal.invariant-loop-i
invariant-loop-i l = SumsTo l.regions l.deltas l.place l.i l.sum
