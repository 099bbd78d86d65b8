use Rattle.plist_reader.proofs.SourceLaws.{stands_in_source}
use Rattle.plist_reader.proofs.source.trees_stand_in_their_sources.Goals as goal

pub returns : goal.returns
returns c = λ source t h. stands_in_source source t h
