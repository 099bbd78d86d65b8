use Rattle.gvar_writer.proofs.NumberLaws.{numbers_back}
use Rattle.gvar_writer.proofs.laws.packed_points_read_back.Goals as goal

pub returns : goal.returns
returns c = numbers_back
