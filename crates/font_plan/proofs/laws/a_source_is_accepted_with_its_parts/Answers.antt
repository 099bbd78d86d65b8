use Rattle.font_plan.proofs.AcceptedLaws.{accepted_font, font_accepted}
use Rattle.font_plan.proofs.laws.a_source_is_accepted_with_its_parts.Goals as goal

pub returns-clause-parts : goal.returns-clause-parts
returns-clause-parts c = accepted_font c.sources_have_one_answer.ensures.tree_of_computed

pub returns-clause-accepted : goal.returns-clause-accepted
returns-clause-accepted c = font_accepted c.sources_have_one_answer.ensures.tree_computed
