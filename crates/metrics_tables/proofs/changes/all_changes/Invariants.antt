use Rattle.std.proofs.Common.{◌≡◌, drop, map, take}
use Rattle.font_ir.specs.FlatGlyphs.{glyphs_of}
use Rattle.metrics_tables.specs.Changes.{changes_of, large_from, with_glyphs}
use Rattle.metrics_tables.specs.RegionIndexes.{AllTold, IsIndexed}
use Rattle.metrics_tables.proofs.changes.all_changes.Given as goal

abbrev pub invariant-loop-gid : goal.invariant-loop-gid
invariant-loop-gid l = record {
  index : IsIndexed l.index;
  axes : l.index.axes ≡ l.initial.index.axes;
  regions : l.index.regions.items
      ≡ with_glyphs l.initial.index.regions.items (glyphs_of (take l.gid l.glyphs));
  told : AllTold l.index.regions.items l.all.items
      (map changes_of (glyphs_of (take l.gid l.glyphs)));
  none_large : large_from l.gid (glyphs_of (drop l.gid l.glyphs))
      ≡ large_from 0 (glyphs_of l.glyphs);
}
