use Rattle.std.proofs.Common.{◌≡◌, ◌+◌, ◌++◌, map, length, drop}
use Rattle.font_ir.specs.FlatGlyphs.{point_count}
use Rattle.gvar_writer.specs.TupleData.{contours_of, count_of}
use Rattle.gvar_writer.proofs.named.cut_outline.Given as goal

abbrev pub invariant-loop-contour : goal.invariant-loop-contour
invariant-loop-contour l =
    record {
      counted : l.from + point_count (drop l.contour-index l.contours) ≡ point_count l.contours;
      points : l.from ≡ count_of (map (λ contour. contour.items) l.outline.items);
      told : map (λ contour. contour.items) l.outline.items
          ++ contours_of (map (λ contour. length contour.points) (drop l.contour-index l.contours))
          (drop l.from l.points)
          ≡ contours_of (map (λ contour. length contour.points) l.contours) l.points;
    }
