use Rattle.axis_space.proofs.UnmappedLemmas.{first_unmapped_tells}
use Rattle.axis_space.proofs.laws.first_unmapped_is_the_first.Goals as goal

pub returns : goal.returns
returns c = first_unmapped_tells
