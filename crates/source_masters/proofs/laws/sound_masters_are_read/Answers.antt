-- proved for all trees
use Rattle.source_masters.proofs.SoundMasters.{sound_masters}
use Rattle.source_masters.proofs.laws.sound_masters_are_read.Goals as goal

pub returns : goal.returns
returns c = sound_masters
