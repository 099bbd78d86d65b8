-- proved for all indexes and orders
use Rattle.character_codes.proofs.Rising.{are_codes}
use Rattle.character_codes.proofs.laws.codes_rise.Goals as goal

pub returns : goal.returns
returns c = are_codes
