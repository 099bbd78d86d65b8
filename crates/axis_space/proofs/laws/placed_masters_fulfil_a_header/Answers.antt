use Rattle.axis_space.specs.PlacingLaws.{placed_fulfil}
use Rattle.axis_space.proofs.laws.placed_masters_fulfil_a_header.Goals as goal

pub returns : goal.returns
returns c = placed_fulfil
