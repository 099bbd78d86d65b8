use Rattle.source_axes.proofs.SoundAxes.{sound_axes}
use Rattle.source_axes.proofs.laws.sound_axes_are_read.Goals as goal

pub returns : goal.returns
returns c = sound_axes
