use Rattle.metrics_tables.proofs.MeasureLaws.{measures_for}
use Rattle.metrics_tables.proofs.laws.measures_are_for_their_header.Goals as goal

pub returns : goal.returns
returns c = measures_for
