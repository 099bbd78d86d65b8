use Rattle.std.proofs.Common.{◌≡◌, ◌++◌, drop}
use Rattle.std.specs.List.{list_all}
use Rattle.component_flatten.specs.Numbered.{numbered}
use Rattle.component_flatten.specs.Places.{point_deltas, is_storable_point}
use Rattle.component_flatten.proofs.between.contour_deltas.Given as goal

abbrev pub invariant-loop-j : goal.invariant-loop-j
invariant-loop-j l = record {
  so_far : l.made ++ numbered (point_deltas l.glyph l.c) l.j (drop l.j l.points)
      ≡ numbered (point_deltas l.glyph l.c) 0 l.points;
  storable : list_all is_storable_point
      (numbered (point_deltas l.glyph l.c) l.j (drop l.j l.points))
      ≡ list_all is_storable_point (numbered (point_deltas l.glyph l.c) 0 l.points);
}
