use Rattle.axis_space.specs.RepeatLaws.{repeat_is_later}
use Rattle.axis_space.proofs.laws.repeats_come_after_places_that_differ.Goals as goal

pub returns : goal.returns
returns c = repeat_is_later
