use Rattle.std.proofs.Common.{◌≡◌, ◌+◌, ◌<◌, ◌++◌, length, map, drop}
use Rattle.gvar_writer.specs.GlyphVariations.{tuples_from, headers_of, all_data_of}
use Rattle.gvar_writer.proofs.glyph.tuples_of.Given as goal

abbrev pub invariant-loop-k : goal.invariant-loop-k
invariant-loop-k l =
    record {
      few : l.tuples.count < l.k;
      count : l.tuples.count + length (tuples_from (map (λ row. row.items) l.x_rows)
          (map (λ row. row.items) l.y_rows) l.k (drop l.k l.regions))
          ≡ length (tuples_from (map (λ row. row.items) l.x_rows)
          (map (λ row. row.items) l.y_rows) 1 (drop 1 l.regions));
      headers : l.tuples.headers.items ++ headers_of l.shared
          (map (λ contour. contour.items) l.outline.contours.items)
          (tuples_from (map (λ row. row.items) l.x_rows)
          (map (λ row. row.items) l.y_rows) l.k (drop l.k l.regions))
          ≡ headers_of l.shared (map (λ contour. contour.items) l.outline.contours.items)
          (tuples_from (map (λ row. row.items) l.x_rows)
          (map (λ row. row.items) l.y_rows) 1 (drop 1 l.regions));
      serialized : l.tuples.serialized.items ++ all_data_of
          (map (λ contour. contour.items) l.outline.contours.items)
          (tuples_from (map (λ row. row.items) l.x_rows)
          (map (λ row. row.items) l.y_rows) l.k (drop l.k l.regions))
          ≡ all_data_of (map (λ contour. contour.items) l.outline.contours.items)
          (tuples_from (map (λ row. row.items) l.x_rows)
          (map (λ row. row.items) l.y_rows) 1 (drop 1 l.regions));
    }
