-- proved for all trees, of the law that codes don't stand again
use Rattle.glyphs_source.proofs.IndexEntries.{read_codes}
use Rattle.glyphs_source.proofs.laws.exported_codes_are_distinct.Goals as goal

pub returns : goal.returns
returns c = read_codes
