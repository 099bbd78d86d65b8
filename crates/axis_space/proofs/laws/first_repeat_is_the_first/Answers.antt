use Rattle.axis_space.proofs.RepeatLemmas.{first_repeat_tells}
use Rattle.axis_space.proofs.laws.first_repeat_is_the_first.Goals as goal

pub returns : goal.returns
returns c = first_repeat_tells
