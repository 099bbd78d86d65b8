use Rattle.font_plan.proofs.FontLaws.{font_direct, direct_is_font}
use Rattle.font_plan.proofs.laws.jobs_make_the_direct_font.Goals as goal

-- src/laws.rt:14:1
pub returns-clause-direct : goal.returns-clause-direct
returns-clause-direct c = font_direct

-- src/laws.rt:14:1
pub returns-clause-made : goal.returns-clause-made
returns-clause-made c = direct_is_font
