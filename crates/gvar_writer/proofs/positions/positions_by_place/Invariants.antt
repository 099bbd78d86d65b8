use Rattle.std.proofs.Common.{◌≡◌, length, map}
use Rattle.std.specs.List.{All, range_with_len}
use Rattle.gvar_writer.specs.GlyphPoints.{positions_at, point_total}
use Rattle.gvar_writer.proofs.positions.positions_by_place.Given as goal

abbrev pub invariant-loop-place : goal.invariant-loop-place
invariant-loop-place l =
    record {
      told : map (λ positions. positions.items) l.by_place.items
          ≡ map (positions_at l.glyph) (range_with_len 0 l.place);
      places : length l.by_place.items ≡ l.place;
      as_many : All (λ positions. length positions.items ≡ point_total l.glyph) l.by_place.items;
    }
