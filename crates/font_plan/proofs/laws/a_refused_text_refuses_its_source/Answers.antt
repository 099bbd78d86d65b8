use Rattle.font_plan.proofs.TooLarge.{too_large_refused, grammar_refused}
use Rattle.font_plan.proofs.laws.a_refused_text_refuses_its_source.Goals as goal

-- src/laws.rt:52:1
pub returns-clause-long : goal.returns-clause-long
returns-clause-long c = too_large_refused

-- src/laws.rt:52:1
pub returns-clause-text : goal.returns-clause-text
returns-clause-text c =
    grammar_refused c.sources_have_one_answer.ensures.refusal_computed
