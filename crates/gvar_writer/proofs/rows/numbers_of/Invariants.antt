use Rattle.std.proofs.Common.{◌≡◌, map, take}
use Rattle.gvar_writer.specs.GlyphPoints.{numbers_of}
use Rattle.gvar_writer.proofs.rows.numbers_of.Given as goal

abbrev pub invariant-loop-positions : goal.invariant-loop-positions
invariant-loop-positions l =
    l.numbers.items ≡ numbers_of l.coordinate
    (map (λ positions. positions.items) (take l.positions-index l.by_place)) l.point
