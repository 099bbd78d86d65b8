-- proved for all indexes and orders
use Rattle.character_codes.proofs.Members.{exactly}
use Rattle.character_codes.proofs.laws.codes_are_those_of_the_glyphs.Goals as goal

pub returns : goal.returns
returns c = exactly
