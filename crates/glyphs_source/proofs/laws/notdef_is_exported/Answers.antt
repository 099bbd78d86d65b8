-- proved for all trees
use Rattle.glyphs_source.proofs.IndexEntries.{read_notdef}
use Rattle.glyphs_source.proofs.laws.notdef_is_exported.Goals as goal

pub returns : goal.returns
returns c = read_notdef
