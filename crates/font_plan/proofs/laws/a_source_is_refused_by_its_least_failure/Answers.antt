use Rattle.font_plan.proofs.NoFailure.{least_refuses, refused_by_least}
use Rattle.font_plan.proofs.laws.a_source_is_refused_by_its_least_failure.Goals as goal

-- src/laws.rt:36:1
pub returns-clause-least : goal.returns-clause-least
returns-clause-least c = least_refuses

-- src/laws.rt:36:1
pub returns-clause-refused : goal.returns-clause-refused
returns-clause-refused c = refused_by_least
