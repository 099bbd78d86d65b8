-- proved for all trees, of the law that names don't stand again
use Rattle.glyphs_source.proofs.IndexEntries.{read_numbers, read_distinct}
use Rattle.glyphs_source.proofs.laws.entries_are_numbered.Goals as goal

pub returns-clause-numbered : goal.returns-clause-numbered
returns-clause-numbered c = read_numbers

pub returns-clause-named : goal.returns-clause-named
returns-clause-named c = read_distinct
