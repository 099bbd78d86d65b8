use Rattle.refusal_codes.proofs.Ordered.{refusal_cmp_total, refusal_cmp_exact}
use Rattle.refusal_codes.proofs.refusal.refusals_are_ordered.Goals as goal

pub returns-clause-total : goal.returns-clause-total
returns-clause-total c = refusal_cmp_total

pub returns-clause-exact : goal.returns-clause-exact
returns-clause-exact c = refusal_cmp_exact
