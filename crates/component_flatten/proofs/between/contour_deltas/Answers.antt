use Rattle.std.proofs.Common.{List, length, ap, arith}
use Rattle.font_ir.specs.declared.glyph.DrawnPoint.{DrawnPoint}
use Rattle.font_ir.specs.declared.glyph.Contour.{Contour}
use Rattle.component_flatten.proofs.BaseLemmas.{has_points}
use Rattle.component_flatten.proofs.between.contour_deltas.Goals as goal

pub point_deltas-requires-clause-within : goal.point_deltas-requires-clause-within
point_deltas-requires-clause-within c =
    has_points c.args.glyph.now c.args.c c.loop-j.j c.requires.glyph c.requires.within
    (omega (
      arith,
      c.loop-j-test.true,
      ap (λ (points : List DrawnPoint). length points) c.as_slice-points.ensures,
      ap (λ (contour : Contour). length contour.points) c.requires.contour,
    ))
