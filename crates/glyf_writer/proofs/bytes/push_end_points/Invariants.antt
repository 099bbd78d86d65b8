use Rattle.std.proofs.Common.{◌≡◌, ◌+◌, ◌++◌, length, map, drop}
use Rattle.std.specs.List.{flat_map}
use Rattle.font_ir.specs.FlatGlyphs.{point_count}
use Rattle.glyf_writer.specs.Outlines.{end_points}
use Rattle.table_bytes.specs.DataTypes.{uint16}
use Rattle.glyf_writer.proofs.bytes.push_end_points.Given as goal

abbrev pub invariant-loop-contour : goal.invariant-loop-contour
invariant-loop-contour l =
    record {
      told : l.bytes.items ++ flat_map uint16
          (map (λ end. l.count + end) (end_points
          (map (λ contour. length contour.points) (drop l.contour-index l.contours))))
          ≡ l.fn.bytes.items ++ flat_map uint16
          (end_points (map (λ contour. length contour.points) l.contours));
      counted : l.count + point_count (drop l.contour-index l.contours) ≡ point_count l.contours;
    }
