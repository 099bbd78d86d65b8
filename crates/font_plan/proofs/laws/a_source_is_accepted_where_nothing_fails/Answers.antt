-- a font is made exactly where no job is refused
use Rattle.font_plan.proofs.NoFailure.{accepted_fails_not, accepted_unfailed}
use Rattle.font_plan.proofs.laws.a_source_is_accepted_where_nothing_fails.Goals as goal

pub returns-clause-accepted : goal.returns-clause-accepted
returns-clause-accepted c = accepted_fails_not

pub returns-clause-unfailed : goal.returns-clause-unfailed
returns-clause-unfailed c = accepted_unfailed
