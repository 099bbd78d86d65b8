use Rattle.plist_reader.specs.Reading.{read_of}
use Rattle.plist_reader.proofs.RunLemmas.{one_answer}
use Rattle.plist_reader.proofs.GivenTexts.{given}
use Rattle.plist_reader.proofs.source.trees_are_unique.Goals as goal

pub returns : goal.returns
returns c = λ source s t h g. one_answer s t (read_of source) (given source s h) (given source t g)
