use Rattle.font_reader.proofs.LawProofs.{tables_are_found}
use Rattle.font_reader.proofs.laws.tables_are_found.Goals as goal

pub returns : goal.returns
returns c = tables_are_found
