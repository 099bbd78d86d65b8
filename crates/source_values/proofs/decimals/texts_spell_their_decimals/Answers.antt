use Rattle.source_values.proofs.SpellingLaws.{spelled, given_back}
use Rattle.source_values.proofs.decimals.texts_spell_their_decimals.Goals as goal

pub returns : goal.returns
returns c = λ text decimal. (spelled text decimal, given_back text decimal)
