use Rattle.source_axes.proofs.SoundAxes.{sound_instances}
use Rattle.source_axes.proofs.laws.sound_instances_are_read.Goals as goal

pub returns : goal.returns
returns c = sound_instances
