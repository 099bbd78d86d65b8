use Rattle.std.proofs.Common.{arith}
use Rattle.gvar_writer.specs.PackedDeltas.{delta_flags}
use Rattle.gvar_writer.specs.PackedPoints.{point_flags}
use Rattle.gvar_writer.proofs.RunLaws.{are_longest, only}
use Rattle.gvar_writer.proofs.laws.runs_are_the_longest.Goals as goal

pub returns-clause-deltas : goal.returns-clause-deltas
returns-clause-deltas c = λ deltas. are_longest delta_flags 64 deltas (omega arith)

pub returns-clause-only_deltas : goal.returns-clause-only_deltas
returns-clause-only_deltas c = only delta_flags 64

pub returns-clause-points : goal.returns-clause-points
returns-clause-points c = λ differences. are_longest point_flags 128 differences (omega arith)

pub returns-clause-only_points : goal.returns-clause-only_points
returns-clause-only_points c = only point_flags 128
