use Rattle.refusal_codes.specs.FirstLaws.{first_is_least, first_of_none}
use Rattle.refusal_codes.proofs.first.first_failure_is_the_least.Goals as goal

pub returns-clause-least : goal.returns-clause-least
returns-clause-least c = first_is_least

pub returns-clause-none : goal.returns-clause-none
returns-clause-none c = first_of_none
