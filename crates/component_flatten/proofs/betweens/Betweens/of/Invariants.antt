use Rattle.std.proofs.Common.{◌≡◌, map, take, true}
use Rattle.std.specs.List.{list_all}
use Rattle.font_ir.specs.FlatGlyphs.{glyphs_of}
use Rattle.component_flatten.specs.Judging.{between_of, has_no_large_deltas}
use Rattle.component_flatten.proofs.betweens.Betweens.of.Given as goal

abbrev pub invariant-loop-component : goal.invariant-loop-component
invariant-loop-component l = record {
  so_far : l.betweens ≡ map (between_of l.places) (take l.component (glyphs_of l.bases));
  storable : list_all (has_no_large_deltas l.places) (take l.component (glyphs_of l.bases)) ≡ true;
}
