use Rattle.plist_reader.proofs.FoundPairs.{finds-pairs}
use Rattle.plist_reader.proofs.source.keys_lead_to_their_values.Goals as goal

pub returns : goal.returns
returns c = λ source t h. finds-pairs source t h
