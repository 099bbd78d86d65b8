use Rattle.gvar_writer.proofs.ReadLaws.{deltas_back}
use Rattle.gvar_writer.proofs.laws.packed_deltas_read_back.Goals as goal

pub returns : goal.returns
returns c = deltas_back
