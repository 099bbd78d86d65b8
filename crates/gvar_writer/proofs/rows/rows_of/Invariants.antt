use Rattle.std.proofs.Common.{◌≡◌, ◌-◌, ◌++◌, map, length}
use Rattle.std.specs.List.{All}
use Rattle.gvar_writer.specs.GlyphPoints.{first_refused, rows_of}
use Rattle.gvar_writer.proofs.RowSteps.{rows_from}
use Rattle.gvar_writer.proofs.rows.rows_of.Given as goal

abbrev pub invariant-loop-point : goal.invariant-loop-point
invariant-loop-point l =
    record {
      told : map (λ row. row.items) l.rows.items
          ++ rows_from l.coordinate l.model (map (λ positions. positions.items) l.by_place) l.point
          (l.count - l.point)
          ≡ rows_of l.coordinate l.model (map (λ positions. positions.items) l.by_place) l.count;
      refused : first_refused (rows_from l.coordinate l.model
          (map (λ positions. positions.items) l.by_place) l.point (l.count - l.point))
          ≡ first_refused (rows_of l.coordinate l.model
          (map (λ positions. positions.items) l.by_place) l.count);
      sizes : All (λ row. length row.items ≡ length l.model) l.rows.items;
    }
