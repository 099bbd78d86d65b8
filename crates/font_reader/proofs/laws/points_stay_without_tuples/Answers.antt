use Rattle.font_reader.proofs.LawProofs.{stays_without_table, stays_without_tuples}
use Rattle.font_reader.proofs.StayingPoints.{points_stay}
use Rattle.font_reader.proofs.laws.points_stay_without_tuples.Goals as goal

pub returns-clause-table : goal.returns-clause-table
returns-clause-table c = stays_without_table

pub returns-clause-tuples : goal.returns-clause-tuples
returns-clause-tuples c = stays_without_tuples

pub returns-clause-points : goal.returns-clause-points
returns-clause-points c = points_stay
