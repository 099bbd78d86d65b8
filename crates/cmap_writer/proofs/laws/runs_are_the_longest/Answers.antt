use Rattle.cmap_writer.proofs.Joins.{are_longest, only}
use Rattle.cmap_writer.proofs.laws.runs_are_the_longest.Goals as goal

pub returns-clause-longest : goal.returns-clause-longest
returns-clause-longest c = are_longest

pub returns-clause-only : goal.returns-clause-only
returns-clause-only c = only
