use Rattle.std.proofs.Common.{arith}
use Rattle.gvar_writer.proofs.glyph.data_of.Goals as goal

pub tuples_of-requires-clause-points : goal.tuples_of-requires-clause-points
tuples_of-requires-clause-points c = omega
    (arith, c.in_ok-outline.ensures.points, c.requires.points)
