use Rattle.std.proofs.Common.{◌≡◌, ◌++◌, drop}
use Rattle.component_flatten.specs.Numbered.{numbered}
use Rattle.component_flatten.specs.Places.{contour_deltas, are_storable}
use Rattle.component_flatten.proofs.between.glyph_deltas.Given as goal

abbrev pub invariant-loop-c : goal.invariant-loop-c
invariant-loop-c l = record {
  so_far : l.made ++ numbered (contour_deltas l.glyph) l.c (drop l.c l.contours)
      ≡ numbered (contour_deltas l.glyph) 0 l.contours;
  storable : are_storable (numbered (contour_deltas l.glyph) l.c (drop l.c l.contours))
      ≡ are_storable (numbered (contour_deltas l.glyph) 0 l.contours);
}
